-- The whole list: a root left without elements gives way, and what stands after a removal.
use mathlib.Core.Path.{◌≡◌, refl, sym, ap, subst, ◌∙◌}
use mathlib.Core.List.{List, [], ◌∷◌, ◌++◌}
use mathlib.Core.Logic.{◌≢◌}
use Prim.Native.Nat.{ℕ, zero, suc, ◌+◌, ◌-◌, ◌≤◌, ◌<◌}
use native.Mathlib.Omega.{arith}
use lib.ListN.{length}
use Rattle.lists.specs.Lists.{count}
use Rattle.lists.proofs.Edits.{length-remove_at}
use Rattle.lists.proofs.Counts.{count-append, count_self, one_same}
use Rattle.model.specs.Tree.{Tree, Below, kid, size, flat, ids, Root, bare, rooted, Bag, list_of, root_ids, levels_of}
use Rattle.model.specs.Remove.{Shrunk, remove, lowered, bag_remove}
use Rattle.model.proofs.Nodes.{node, held_id, kids_held, flat-length}
use Rattle.model.proofs.Remove.{Removed, remove_law}
use Rattle.pool.specs.Layout.{root_id}
use Rattle.pool.specs.Parts.{ChainAt, count_at, kid_at}
use Rattle.pool.specs.Frame.{Untouched}
use Rattle.chain.specs.Chain.{Gave}
use Rattle.pool.proofs.Node.{at_count, at_kid}
use Rattle.pool.proofs.Frame.{at_untouched, chain_few, untouched_more, untouched_none, untouched_both}
use Rattle.tree.specs.declared.Known.{Known}
use Rattle.tree.specs.Stands.{Owns, Became}
use Rattle.tree.proofs.Rooting.{Rooted, is_rooted}
use Rattle.removal.specs.declared.Cut.{Cut}
use Rattle.removal.specs.Ready.{RemoveReady, Removes, LowerReady, BagHas, BagRemoves}
use Rattle.removal.proofs.Descending.{remove_id}

abbrev bag : Root → List ℕ → Bag
bag r f = record { root = r; free = f }

-- ---- a root left without elements

lowered-stays : (h : ℕ) (t : Tree h) (f : List ℕ) → 0 < length t.elems → lowered h t f ≡ bag (rooted h t) f
unfolding lowered
lowered-stays h t f l = go h t.id t.elems t.kids l
  where
    go : (h i : ℕ) (es : List ℕ) (ks : List (Below h)) → 0 < length es → lowered h (node i es ks) f ≡ bag (rooted h (node i es ks)) f
    go h i [] ks l = absurd (omega arith)
    go zero i (e ∷ es) ks l = refl
    go (suc h) i (e ∷ es) ks l = refl

lowered_gone : (t : Tree 0) (f : List ℕ) → length t.elems ≡ 0 → lowered 0 t f ≡ bag bare (t.id ∷ f)
unfolding lowered
lowered_gone t f e = go t.id t.elems t.kids e
  where
    go : (i : ℕ) (es : List ℕ) (ks : List (Below 0)) → length es ≡ 0 → lowered 0 (node i es ks) f ≡ bag bare (i ∷ f)
    go i [] ks e = refl
    go i (x ∷ es) ks e = absurd (omega arith)

lowered-kid : (h : ℕ) (t : Tree (suc h)) (f : List ℕ) → length t.elems ≡ 0 → lowered (suc h) t f ≡ bag (rooted h (kid h t 0)) (t.id ∷ f)
unfolding lowered
lowered-kid h t f e = go t.id t.elems t.kids e
  where
    go : (i : ℕ) (es : List ℕ) (ks : List (Tree h)) → length es ≡ 0
        → lowered (suc h) (node i es ks) f ≡ bag (rooted h (kid h (node i es ks) 0)) (i ∷ f)
    go i [] ks e = refl
    go i (x ∷ es) ks e = absurd (omega arith)

module _ {w : List ℕ} {known : Known} (s : LowerReady w known) where
  abbrev h : ℕ
  h = known.levels

  abbrev t : Tree h
  t = s.tree

  abbrev f : List ℕ
  f = s.free

  elements : count_at w known.root ≡ length t.elems
  elements = ap (count_at w) (sym s.here) ∙ at_count w h t s.owns.at.here

  unfree : count known.root f ≡ 0
  unfree =
      subst (λ (k : ℕ). count k f ≡ 0) s.here (omega (arith, s.owns.once t.id, held_id h t.id t, count_self t.id []))

  pub lower-stays : (n : ℕ) → n ≡ count_at w known.root → 0 < n → Became w w (bag (rooted h t) f) (lowered h t f) known
  unfolding root_id levels_of root_ids
  lower-stays n e l =
      subst (λ (d : Bag). Became w w (bag (rooted h t) f) d known) (sym (lowered-stays h t f (omega (arith, elements)))) (record {
        known = λ i. record { root = sym s.here i; levels = h; free = s.frees i };
        tree = s.owns.at;
        chain = s.owns.chain;
        untouched = untouched_none;
      })

  -- the root's node is freed
  module _ (e : count_at w known.root ≡ 0) (w₁ : List ℕ)
      (gave : (g : List ℕ) → ChainAt w g → count known.root g ≡ 0 → Gave w g known.root w₁) where
    G : Gave w f known.root w₁
    G = gave f s.owns.chain unfree

    empty : length t.elems ≡ 0
    empty = sym elements ∙ e

    freed : ChainAt w₁ (t.id ∷ f)
    freed = subst (λ (k : ℕ). ChainAt w₁ (k ∷ f)) (sym s.here) G.chain

    -- nothing but the tree's nodes was touched
    own : Untouched w w₁ (ids h t ++ f)
    own =
        untouched_more G.untouched
        (λ k z. omega (arith, count-append k (ids h t) f, held_id h k t, one_same k s.here))

    pub lower_gone : h ≡ 0 → (n : ℕ) → n ≡ known.free + 1
        → Became w w₁ (bag (rooted h t) f) (lowered h t f) (record { root = 0; levels = 0; free = n })
    unfolding root_id levels_of root_ids
    lower_gone z n q = go h t z s.frees freed own empty
      where
        go : (h : ℕ) (t : Tree h) → h ≡ 0 → known.free ≡ length f → ChainAt w₁ (t.id ∷ f) → Untouched w w₁ (ids h t ++ f)
            → length t.elems ≡ 0
            → Became w w₁ (bag (rooted h t) f) (lowered h t f) (record { root = 0; levels = 0; free = n })
        go zero t z m C U e =
            let N : n ≡ length (t.id ∷ f) = omega arith in
            subst (λ (d : Bag). Became w w₁ (bag (rooted 0 t) f) d (record { root = 0; levels = 0; free = n })) (sym (lowered_gone t f e)) (record {
              known = ap (λ (n : ℕ). record { root = 0; levels = 0; free = n }) N;
              tree = tt;
              chain = C;
              untouched = U;
            })
        go (suc h) t z m C U e = absurd (omega arith)

    pub lower-kid : h ≢ 0 → (k : ℕ) → k ≡ kid_at w known.root 0 → (n : ℕ) → n ≡ known.free + 1
        → Became w w₁ (bag (rooted h t) f) (lowered h t f) (record { root = k; levels = h - 1; free = n })
    unfolding root_id levels_of root_ids
    lower-kid z k ek n q = go h t z (ek ∙ ap (λ (j : ℕ). kid_at w j 0) (sym s.here)) s.frees freed own empty s.owns s.here
      where
        go : (h : ℕ) (t : Tree h) → h ≢ 0 → k ≡ kid_at w t.id 0 → known.free ≡ length f → ChainAt w₁ (t.id ∷ f)
            → Untouched w w₁ (ids h t ++ f) → length t.elems ≡ 0 → Owns w h t f → t.id ≡ known.root
            → Became w w₁ (bag (rooted h t) f) (lowered h t f) (record { root = k; levels = h - 1; free = n })
        go zero t z ek m C U e O p = absurd (z refl)
        go (suc h) t z ek m C U e O p =
            let l : 0 < length t.kids = omega (arith, O.fit.one_more) in
            let N : n ≡ length (t.id ∷ f) = omega arith in
            let L : suc h - 1 ≡ h = omega arith in
            let K : k ≡ (kid h t 0).id = ek ∙ at_kid w h t O.at.here O.fit.most 0 (omega arith) in
            subst (λ (d : Bag). Became w w₁ (bag (rooted (suc h) t) f) d (record { root = k; levels = suc h - 1; free = n }))
            (sym (lowered-kid h t f e)) (record {
              known = λ i. record { root = K i; levels = L i; free = N i };
              tree = at_untouched G.untouched h (kid h t 0)
                  (λ j m. omega (arith, O.once j, kids_held h j t 0 l, one_same j p)) (O.at.each 0 l);
              chain = C;
              untouched = U;
            })

  pub free_few : known.free ≤ length w
  free_few = omega (arith, s.frees, chain_few w f s.owns.chain (λ k. omega (arith, s.owns.once k)))

-- ---- the whole list

module _ {w : List ℕ} {known : Known} {index : ℕ} (b : BagHas w known index) where
  abbrev l : ℕ
  l = known.levels

  R : Rooted w known b.bag
  unfolding list_of
  R = is_rooted b.stands b.is (λ q. omega (arith, b.below, ap (λ (r : Root). length (list_of r)) q))

  below : index < size l R.tree
  below = omega (arith, b.below, R.long)

  frees : known.free ≡ length b.bag.free
  frees = ap (λ (k : Known). k.free) b.is

  pub root_ready : RemoveReady w l known.root index
  root_ready = record { tree = R.tree; free = b.bag.free; owns = R.owns; here = R.here; some = R.some; below = below }

  module _ (c : Cut) (w₁ : List ℕ) (cut : (s : RemoveReady w l known.root index)
      → Removes w w₁ l s.tree s.free (remove l s.tree index s.free) c) where
    abbrev S : Shrunk (Tree l)
    S = remove l R.tree index b.bag.free

    D : Removes w w₁ l R.tree b.bag.free S c
    unfolding root_ready
    D = cut root_ready

    law : Removed l R.tree index b.bag.free S
    law = remove_law l R.tree index b.bag.free R.owns.fit R.some below

    -- the root may have no element left
    pub left : (n : ℕ) → n ≡ known.free + c.freed → LowerReady w₁ (record { root = known.root; levels = l; free = n })
    left n e = record {
      tree = S.tree;
      free = S.free;
      owns = record {
        at = D.reshaped.at;
        fit = law.fit;
        chain = D.reshaped.chain;
        once = λ k. omega (arith, law.nodes k, R.owns.once k);
        small = omega (
          arith,
          R.owns.small,
          flat-length l R.tree R.owns.fit,
          flat-length l S.tree law.fit,
          ap length law.list,
          length-remove_at (flat l R.tree) index (omega (arith, below, flat-length l R.tree R.owns.fit)),
        );
      };
      here = remove_id l R.tree index b.bag.free R.owns.fit R.some below ∙ R.here;
      frees = omega (arith, D.freed, frees);
    }

    pub frees_few : known.free + c.freed ≤ length w
    frees_few = omega (arith, free_few (left (known.free + c.freed) refl), D.reshaped.untouched.long)

    pub removed : (n : ℕ) (e : n ≡ known.free + c.freed) (w₂ : List ℕ) (k : Known)
        → ((s : LowerReady w₁ (record { root = known.root; levels = l; free = n })) → Became w₁ w₂ (bag (rooted l s.tree) s.free)
        (lowered l s.tree s.free) k)
        → BagRemoves w w₂ b.bag index (record { old = c.old; known = k })
    unfolding bag_remove root_ids left
    removed n e w₂ k became =
        let B = became (left n e) in
        let o : List ℕ = ids l R.tree ++ b.bag.free in
        let o₁ : List ℕ = ids l S.tree ++ S.free in
        let U : Untouched w w₂ o =
        untouched_more (untouched_both D.reshaped.untouched B.untouched)
        (λ k z. omega (
          arith,
          law.nodes k,
          count-append k o o₁,
          count-append k (ids l R.tree) b.bag.free,
          count-append k (ids l S.tree)
              S.free,
        )) in
        subst (λ (r : Root). BagRemoves w w₂ (bag r b.bag.free) index (record { old = c.old; known = k })) (sym R.is) (record {
          old = D.old;
          became = record { known = B.known; tree = B.tree; chain = B.chain; untouched = U };
        })
