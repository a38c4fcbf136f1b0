-- Edits of trees that stand in the pool: what an edit elsewhere leaves, a node with new words or other children, and one edit after another.
use mathlib.Core.Path.{◌≡◌, sym, subst, ◌∙◌}
use mathlib.Core.List.{List, [], ◌∷◌, ◌++◌}
use Prim.Native.Nat.{ℕ, zero, suc, ◌+◌, ◌≤◌, ◌<◌}
use native.Mathlib.Omega.{arith}
use lib.ListN.{length, set, take, drop, length-map, get_or-map}
use lib.Seq.{set_split}
use Rattle.lists.specs.Lists.{sum, count}
use Rattle.lists.proofs.All.{All, nil, cons, all_append, all_take, all_drop, all_at, all_of}
use Rattle.lists.proofs.Sums.{total}
use Rattle.lists.proofs.Counts.{count-append, count_self, one_same}
use Rattle.model.specs.Tree.{Tree, Below, kid, none, size, ids}
use Rattle.model.proofs.Nodes.{held, held_inner, held_id, kids_held, kid-size, Rearranged}
use Rattle.pool.specs.Layout.{id_of, kid_ids, root_block}
use Rattle.pool.specs.Parts.{Inside, Stored, At, KidsAt, ChainAt, kid_at}
use Rattle.pool.specs.Frame.{Untouched}
use Rattle.pool.proofs.Frame.{at_untouched, stored_untouched, chain_untouched, untouched_more, untouched_none, untouched_both}
use Rattle.pool.proofs.Frame.{Wrote, stored_same}
use Rattle.pool.proofs.Blocks.{most_kids}
use Rattle.tree.specs.Node.{Node}
use Rattle.tree.specs.Stands.{Stands, Owns, Reshaped}
use Rattle.tree.specs.Lookup.{Above}
use Rattle.tree.proofs.Standing.{node_of, node_kid_at}

-- ---- the children of a node, leaf or not

abbrev pub KidAt : List ℕ → (h : ℕ) → Below h → Type 0
KidAt w zero k = Unit {0}
KidAt w (suc h) k = At w h k

pub each_kid : (w : List ℕ) (h : ℕ) {ks : List (Below h)} → KidsAt w h ks → All (KidAt w h) ks
each_kid w zero {ks} K = go ks
  where
    go : (ks : List ⊥) → All (λ k. Unit {0}) ks
    go [] = nil
    go (k ∷ ks) = absurd k
each_kid w (suc h) {ks} K = all_of (none h) ks K

kids_at_lem : (w : List ℕ) (h : ℕ) {ks : List (Below h)} → All (KidAt w h) ks → KidsAt w h ks
kids_at_lem w zero A = tt
kids_at_lem w (suc h) A = all_at (none h) A

-- a tree from its own words and its children
pub tree_at_lem : {w : List ℕ} {k : ℕ} {b : List ℕ} (h : ℕ) (t : Tree h) → t.id ≡ k → b ≡ root_block h t → Stored w k b
    → All (KidAt w h) t.kids → At w h t
tree_at_lem {w} h t e d S K = record { here = stored_same e d S; each = kids_at_lem w h K }

-- ---- what an edit elsewhere leaves

module _ {w w' own : List ℕ} (U : Untouched w w' own) where
  abbrev pub node_untouched : {k : ℕ} → count k own ≡ 0 → Node w k → Node w' k
  node_untouched z m = record {
    size = m.size;
    elems = m.elems;
    kids = m.kids;
    stored = stored_untouched U z m.stored;
    few_elems = m.few_elems;
    few_kids = m.few_kids;
  }

  trees_untouched : (h : ℕ) {ks : List (Tree h)} → ((k : ℕ) → 0 < total (held h k) ks → count k own ≡ 0) → All (At w h) ks → All (At w' h) ks
  unfolding sum
  trees_untouched h a nil = nil
  trees_untouched h a (cons {x = x} p ps) =
      cons (at_untouched U h x (λ k l. a k (omega arith)) p) (trees_untouched h (λ k l. a k (omega arith)) ps)

  -- the children of a tree of which at most the root was touched
  pub kids_untouched : (h : ℕ) (t : Tree h) → ((k : ℕ) → count k (t.id ∷ []) < held h k t → count k own ≡ 0) → All (KidAt w h) t.kids
      → All (KidAt w' h) t.kids
  kids_untouched zero t a K = each_kid w' zero tt
  kids_untouched (suc h) t a K = trees_untouched h (λ k l. a k (omega (arith, held_inner h k t))) K

  -- the children from c up to n gave way to others
  pub kids_replaced : {h : ℕ} {t : Tree (suc h)} → At w (suc h) t → (c n : ℕ) (new : List (Tree h)) (s : Tree (suc h))
      → s.kids ≡ take c t.kids ++ (new ++ drop n t.kids)
      → ((k : ℕ) → 0 < total (held h k) (take c t.kids) + total (held h k) (drop n t.kids) → count k own ≡ 0)
      → Stored w' s.id (root_block (suc h) s) → All (At w' h) new → At w' (suc h) s
  kids_replaced {h} {t} A c n new s e apart S N =
      let old : All (At w h) t.kids = each_kid w (suc h) A.each in
      let front : All (At w' h) (take c t.kids) = trees_untouched h (λ k l. apart k (omega arith)) (all_take c old) in
      let back : All (At w' h) (drop n t.kids) = trees_untouched h (λ k l. apart k (omega arith)) (all_drop n old) in
      record { here = S; each = rw e (kids_at_lem w' (suc h) (all_append front (all_append N back))) }

-- new words for the root, with the same children
pub root_replaced : {w w' : List ℕ} (h : ℕ) (t : Tree h) (es : List ℕ) → At w h t → ((k : ℕ) → held h k t ≤ 1)
    → Wrote w w' t.id (root_block h (record { id = t.id; elems = es; kids = t.kids }))
    → At w' h (record { id = t.id; elems = es; kids = t.kids })
root_replaced {w} {w'} h t es A once W = record {
  here = W.stored;
  each = kids_at_lem w' h (kids_untouched W.untouched h t (λ k l. omega (arith, once k)) (each_kid w h A.each));
}

-- ---- a tree and the free nodes beside it

pub root_reshaped : {w w' : List ℕ} (h : ℕ) (t : Tree h) {f : List ℕ} (es : List ℕ) → Owns w h t f
    → Wrote w w' t.id (root_block h (record { id = t.id; elems = es; kids = t.kids }))
    → Reshaped w w' h t f (record { id = t.id; elems = es; kids = t.kids }) f
root_reshaped h t {f} es O W = record {
  at = root_replaced h t es O.at (λ k. omega (arith, O.once k)) W;
  chain = chain_untouched W.untouched (λ k l. omega (arith, O.once k, held_id h k t)) W.chain O.chain;
  untouched = untouched_more W.untouched (λ k z. omega (arith, count-append k (ids h t) f, held_id h k t));
}

-- the children from c up to n gave way to others, and the free nodes to g
pub kids_reshaped : {w w' own : List ℕ} {h : ℕ} {t : Tree (suc h)} {f g : List ℕ} → Owns w (suc h) t f → Untouched w w' own
    → (c n : ℕ) (new : List (Tree h)) (s : Tree (suc h)) → s.kids ≡ take c t.kids ++ (new ++ drop n t.kids)
    → ((k : ℕ) → 0 < total (held h k) (take c t.kids) + total (held h k) (drop n t.kids) → count k own ≡ 0)
    → ((k : ℕ) → held (suc h) k t + count k f ≡ 0 → count k own ≡ 0)
    → Stored w' s.id (root_block (suc h) s) → All (At w' h) new → ChainAt w' g → Reshaped w w' (suc h) t f s g
kids_reshaped {h = h} {t} {f} O U c n new s e apart inside S N C = record {
  at = kids_replaced U O.at c n new s e apart S N;
  chain = C;
  untouched = untouched_more U (λ k z. inside k (omega (arith, count-append k (ids (suc h) t) f)));
}

module _ {w : List ℕ} {h : ℕ} {t : Tree (suc h)} {f : List ℕ} (O : Owns w (suc h) t f) (c : ℕ) (l : c < length t.kids) where
  pub owns_kid : Owns w h (kid h t c) f
  owns_kid = record {
    at = O.at.each c l;
    fit = (O.fit.each c l).fit;
    chain = O.chain;
    once = λ k. omega (arith, O.once k, kids_held h k t c l);
    small = omega (arith, O.small, kid-size h t c l);
  }

  -- what an edit of child c may touch
  abbrev own : List ℕ
  own = ids h (kid h t c) ++ f

  pub root_apart : (id : ℕ) → t.id ≡ id → count id own ≡ 0
  root_apart id e =
      omega (arith, O.once id, kids_held h id t c l, one_same id e, count_self id [], count-append id (ids h (kid h t c)) f)

  -- child c became k, and the root has new words
  pub kid_reshaped : {w₁ w₂ : List ℕ} {k : Tree h} {g : List ℕ} (es : List ℕ) → Reshaped w w₁ h (kid h t c) f k g
      → ((j : ℕ) → held h j k + count j g ≡ held h j (kid h t c) + count j f)
      → Wrote w₁ w₂ t.id (root_block (suc h) (record { id = t.id; elems = es; kids = set t.kids c k }))
      → Reshaped w w₂ (suc h) t f (record { id = t.id; elems = es; kids = set t.kids c k }) g
  kid_reshaped {k = k} {g} es R same W =
      let n : (j : ℕ) → count j (own ++ (t.id ∷ [])) ≡ held h j (kid h t c) + count j f + count j (t.id ∷ []) =
      (λ j. omega (arith, count-append j own (t.id ∷ []), count-append j (ids h (kid h t c)) f)) in
      let at = at_untouched W.untouched h k (λ j m. omega (arith, same j, kids_held h j t c l, O.once j)) R.at in
      kids_reshaped O (untouched_both R.untouched W.untouched) c (suc c) (k ∷ [])
      (record { id = t.id; elems = es; kids = set t.kids c k }) (set_split t.kids c k l)
      (λ j m. omega (arith, n j, kids_held h j t c l, O.once j)) (λ j z. omega (arith, n j, kids_held h j t c l)) W.stored (cons at nil)
      (chain_untouched W.untouched (λ j m. omega (arith, same j, kids_held h j t c l, O.once j)) W.chain R.chain)

-- ---- a child, as the words of the node name it

pub kid-count : (h : ℕ) (t : Tree (suc h)) → length (kid_ids (suc h) t) ≡ length t.kids
unfolding kid_ids
kid-count h t = length-map t.kids (id_of h)

module _ {w : List ℕ} {h id c : ℕ} {t : Tree (suc h)} {f : List ℕ} (O : Owns w (suc h) t f) (e : t.id ≡ id) (l : c < length t.kids) where
  pub kid_readable : Inside w id × (c < 32)
  kid_readable = (subst (Inside w) e O.at.here.inside, omega (arith, kid-count h t, most_kids (suc h) t O.fit))

  pub child_is : (k : ℕ) → k ≡ kid_at w id c → (kid h t c).id ≡ k
  unfolding kid_ids
  child_is k ek =
      sym (ek ∙ node_kid_at (node_of (suc h) t e O.at O.fit) c kid_readable.1 ∙ get_or-map (id_of h) t.kids c (none h))

-- ---- no edit, one edit after another, and what holds between them

pub reshaped_none : {w : List ℕ} {h : ℕ} {t : Tree h} {f : List ℕ} → Owns w h t f → Reshaped w w h t f t f
reshaped_none O = record { at = O.at; chain = O.chain; untouched = untouched_none }

pub owns_after : {w w' : List ℕ} {h : ℕ} {t s : Tree h} {f g : List ℕ} → Owns w h t f → Reshaped w w' h t f s g → Rearranged h t f s g
    → Owns w' h s g
owns_after O R S = record {
  at = R.at;
  fit = S.fit;
  chain = R.chain;
  once = λ k. omega (arith, O.once k, S.nodes k);
  small = omega (arith, O.small, S.sized);
}

pub reshaped_both : {u v w : List ℕ} {h : ℕ} {t s r : Tree h} {e f g : List ℕ} → Reshaped u v h t f s g
    → ((k : ℕ) → held h k s + count k g ≡ held h k t + count k f) → Reshaped v w h s g r e → Reshaped u w h t f r e
reshaped_both {h = h} {t} {s} {f = f} {g} R n S = record {
  at = S.at;
  chain = S.chain;
  untouched = untouched_more (untouched_both R.untouched S.untouched) (λ k z.
      omega (arith, n k, count-append k (ids h t ++ f) (ids h s ++ g), count-append k (ids h t) f, count-append k (ids h s) g));
}

-- what a search in the tree asks
abbrev pub owns_above : {w : List ℕ} {h id : ℕ} {t : Tree (suc h)} {f : List ℕ} → Owns w (suc h) t f → t.id ≡ id → (index : ℕ)
    → index ≤ size (suc h) t → Above w id index
owns_above {h = h} {t = t} O e index l = record { height = h; tree = t; here = e; at = O.at; fit = O.fit; upto = l }

abbrev pub owns_stands : {w : List ℕ} {h id : ℕ} {t : Tree h} {f : List ℕ} → Owns w h t f → t.id ≡ id → 0 < length t.elems → Stands w h id
owns_stands {t = t} O e l = record {
  tree = t;
  here = e;
  at = O.at;
  fit = record { some = l; fit = O.fit };
  once = λ k. omega (arith, O.once k);
  small = O.small;
}
