-- Two neighbouring children of a node: where their nodes are, and the tree that stands when they gave way to others.
use mathlib.Core.Path.{◌≡◌, refl, sym, ap, ◌∙◌}
use mathlib.Core.List.{List, [], ◌∷◌, ◌++◌, map, map-append}
use mathlib.Core.Logic.{◌≢◌}
use Prim.Native.Nat.{ℕ, suc, ◌+◌, ◌≤◌, ◌<◌}
use native.Mathlib.Numerals.{add-one, add-two}
use native.Mathlib.Omega.{arith}
use lib.ListN.{length, take, drop, get_or}
use lib.Seq.{take-suc, append_snoc}
use Rattle.lists.specs.Lists.{sum, count, remove_at}
use Rattle.lists.proofs.All.{All}
use Rattle.lists.proofs.Sums.{total, total_append}
use Rattle.lists.proofs.Counts.{count_self, one_same, ones_apart}
use Rattle.lists.proofs.Edits.{split_two, map-remove_at}
use Rattle.model.specs.Tree.{Tree, kid, none, size}
use Rattle.model.proofs.Nodes.{held, held_inner, held_id}
use Rattle.pool.specs.Layout.{chain_word, id_of, root_block}
use Rattle.pool.specs.Parts.{Stored, At, ChainAt, Inside, count_at, length_at, kid_at}
use Rattle.pool.specs.Frame.{Untouched}
use Rattle.pool.proofs.Node.{at_count, at_length}
use Rattle.pool.proofs.Frame.{chain_untouched}
use Rattle.tree.specs.Stands.{Owns, Reshaped}
use Rattle.tree.proofs.Edits.{KidAt, each_kid, kids_untouched, kids_reshaped, child_is}
use Rattle.repair.specs.Ready.{PairReady}
use Rattle.repair.proofs.Ends.{In}

-- the pair's children, as the words of the node name them
module _ {P : ℕ → ℕ → Type 0} {w : List ℕ} {id c : ℕ} (s : PairReady P w id c) (d : ℕ) (m : d ≤ c + 1) where
  abbrev D : Tree s.height
  D = kid s.height s.tree d

  here : Stored w D.id (root_block s.height D)
  here = (s.owns.at.each d (omega (arith, s.place, s.owns.fit.one_more))).here

  module _ (k : ℕ) (e : k ≡ kid_at w id d) where
    pub pair_is : D.id ≡ k
    pair_is = child_is s.owns s.here (omega (arith, s.place, s.owns.fit.one_more)) k e

    pub pair_inside : Inside w k
    pair_inside = rw (← pair_is) here.inside

    pub pair_count : (n : ℕ) → n ≡ count_at w k → n ≡ length D.elems
    pair_count n en = rw (en, ← pair_is) (at_count w s.height D here)

    pub pair_length : (n : ℕ) → n ≡ length_at w k → n ≡ size s.height D
    pair_length n en = rw (en, ← pair_is) (at_length w s.height D here)

-- ---- children c and c + 1 of t, in nodes l and r, with t itself in node i

pub record Pair (w : List ℕ) (h : ℕ) (t : Tree (suc h)) (f : List ℕ) (c i l r : ℕ) : Type 0 where
  pub owns : Owns w (suc h) t f
  pub place : c < length t.elems
  pub top : t.id ≡ i
  pub left : (kid h t c).id ≡ l
  pub right : (kid h t (c + 1)).id ≡ r

module _ {w : List ℕ} {h : ℕ} {t : Tree (suc h)} {f : List ℕ} {c i l r : ℕ} (Q : Pair w h t f c i l r) where
  abbrev O : Owns w (suc h) t f
  O = Q.owns

  abbrev A : Tree h
  A = kid h t c

  abbrev B : Tree h
  B = kid h t (c + 1)

  l_a : c < length t.kids
  l_a = omega (arith, Q.place, O.fit.one_more)

  l_b : c + 1 < length t.kids
  l_b = omega (arith, Q.place, O.fit.one_more)

  pub top_in : In w (suc h) t i
  top_in = record { id = Q.top; at = O.at; fit = O.fit }

  pub left_in : In w h A l
  left_in = record { id = Q.left; at = O.at.each c l_a; fit = (O.fit.each c l_a).fit }

  pub right_in : In w h B r
  right_in = record { id = Q.right; at = O.at.each (c + 1) l_b; fit = (O.fit.each (c + 1) l_b).fit }

  pub pair_sizes : size h A + size h B < size (suc h) t
  unfolding size sum
  pair_sizes =
      let xs : List (Tree h) = take c t.kids in
      omega (
        arith,
        ap (total (size h)) (split_two t.kids c (none h) l_b),
        total_append (size h) xs (A ∷ (B ∷ drop (suc (suc c)) t.kids)),
      )

  -- the children's ids, when the pair gave way to a pair in the same nodes, and to one child in the left one
  pub pair_ids : (a b : Tree h) → a.id ≡ l → b.id ≡ r
      → map (id_of h) (take c t.kids ++ (a ∷ (b ∷ drop (c + 2) t.kids))) ≡ map (id_of h) t.kids
  pair_ids a b p q =
      rw (add-two c, map-append (id_of h) (take c t.kids) (a ∷ (b ∷ drop (suc (suc c)) t.kids)), p, q, ← Q.left, ← Q.right)
      (sym (ap (map (id_of h)) (split_two t.kids c (none h) l_b) ∙ map-append (id_of h) (take c t.kids) (A ∷ (B ∷ drop (suc (suc c)) t.kids))))

  pub merged_ids : (a : Tree h) → a.id ≡ l
      → map (id_of h) (take c t.kids ++ (a ∷ drop (c + 2) t.kids)) ≡ remove_at (map (id_of h) t.kids) (c + 1)
  unfolding remove_at
  merged_ids a p =
      let D : List (Tree h) = drop (suc (suc c)) t.kids in
      rw (
        add-two c,
        add-one c,
        ← (map-remove_at (id_of h) t.kids (suc c)),
        take-suc t.kids c (none h) l_a,
        append_snoc (take c t.kids) A D,
        map-append (id_of h) (take c t.kids) (a ∷ D),
        map-append (id_of h) (take c t.kids) (A ∷ D),
        p,
        ← Q.left,
      )
      refl

  -- who holds node k
  record Holders (k : ℕ) : Type 0 where
    whole : held (suc h) k t
        ≡ count k (i ∷ [])
        + (total (held h k) (take c t.kids) + (held h k A + (held h k B + total (held h k) (drop (c + 2) t.kids))))
    left : count k (l ∷ []) ≤ held h k A
    right : count k (r ∷ []) ≤ held h k B
    once : held (suc h) k t + count k f ≤ 1

  holders : (k : ℕ) → Holders k
  unfolding sum
  holders k = record {
    whole = rw (← Q.top, add-two c) (omega (
      arith,
      held_inner h k t,
      ap (total (held h k)) (split_two t.kids c (none h) l_b),
      total_append (held h k) (take c t.kids) (A ∷ (B ∷ drop (suc (suc c)) t.kids)),
    ));
    left = rw (← Q.left) (held_id h k A);
    right = rw (← Q.right) (held_id h k B);
    once = O.once k;
  }

  pub left_below : l ≢ i
  left_below = ones_apart l i (λ k. omega (arith, holders k))

  pub right_below : r ≢ i
  right_below = ones_apart r i (λ k. omega (arith, holders k))

  pub left_right : l ≢ r
  left_right = ones_apart l r (λ k. omega (arith, holders k))

  pub right_in_use : count r f ≡ 0
  right_in_use = omega (arith, holders r, count_self r [])

  -- an edit of these three nodes
  module _ {w' own : List ℕ} (U : Untouched w w' own)
      (three : (k : ℕ) → count k own ≤ count k (i ∷ []) + (count k (l ∷ []) + count k (r ∷ []))) where
    pub left_kids : All (KidAt w' h) A.kids
    left_kids = kids_untouched U h A (λ k m. omega (arith, three k, holders k, one_same k Q.left)) (each_kid w h left_in.at.each)

    pub right_kids : All (KidAt w' h) B.kids
    right_kids = kids_untouched U h B (λ k m. omega (arith, three k, holders k, one_same k Q.right)) (each_kid w h right_in.at.each)

    pub pair_chain : get_or w' chain_word 0 ≡ get_or w chain_word 0 → ChainAt w' f
    pair_chain q = chain_untouched U (λ k m. omega (arith, three k, holders k)) q O.chain

    pub pair_rebuilt : (new : List (Tree h)) (s : Tree (suc h)) (g : List ℕ) → s.kids ≡ take c t.kids ++ (new ++ drop (c + 2) t.kids)
        → Stored w' s.id (root_block (suc h) s) → All (At w' h) new → ChainAt w' g → Reshaped w w' (suc h) t f s g
    pair_rebuilt new s g e S N C =
        kids_reshaped O U c (c + 2) new s e (λ k m. omega (arith, three k, holders k)) (λ k z. omega (arith, three k, holders k)) S N C
