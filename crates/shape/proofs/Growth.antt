-- The first pass: the nodes below a node; well grown node by node is well shaped as a tree.
use mathlib.Core.Path.{◌≡◌, refl, sym, ap, ◌∙◌}
use mathlib.Core.Bool.{Bool, false, false≢true}
use mathlib.Core.List.{List, [], ◌∷◌, ◌++◌}
use mathlib.Core.Logic.{inl, inr}
use Prim.Native.Nat.{ℕ, zero, suc, ◌+◌, ◌-◌, ◌*◌, ◌^◌, ◌≤◌, ◌<◌}
use native.Mathlib.Nat.{pow-le-pow_right}
use native.Mathlib.Decide.{dec_le}
use native.Mathlib.Omega.{arith}
use lib.ListN.{length, length-map, length-take, length-drop}
use Rattle.lists.specs.Lists.{count, from}
use Rattle.lists.proofs.All.{All, nil, cons, all_append, all_left, all_right, all_map, all_of, all_at}
use Rattle.lists.proofs.Counts.{count-append, counted, all_counted, count_in, count_out, length_from}
use Rattle.lists.proofs.Ranges.{count_most, get_d_map}
use Rattle.words.specs.Words.{run}
use Rattle.words.proofs.Laws.{run_length, run-get_or}
use Rattle.model.specs.Tree.{Tree, kid, none, ids}
use Rattle.model.specs.Fit.{Child, Fit}
use Rattle.model.proofs.Bounds.{size_most, height}
use Rattle.pool.specs.Layout.{head_words, node_words, block}
use Rattle.pool.specs.Parts.{Inside, count_at, kid_at, kid_ids_at, tree_at, levels_at}
use Rattle.pool.proofs.Block.{length-block}
use Rattle.pool.proofs.Whole.{Within}
use Rattle.pool.proofs.Read.{levels_leaf, levels_inner, levels_nodes}
use Rattle.marks.proofs.Laws.{seen-lt}
use Rattle.shape.specs.Shape.{Ends, WellShaped, InReach, Shapes, Sturdy, Grown, Grows, below}

-- ---- the tree that is read off a node

pub tree_id : (w : List ℕ) (h k : ℕ) → (tree_at w h k).id ≡ k
unfolding tree_at
tree_id w zero k = refl
tree_id w (suc h) k = refl

module _ (w : List ℕ) (k : ℕ) (I : Inside w k) where
  -- a count that is read from no fewer words is the number of elements
  few_elems : (h : ℕ) → length (tree_at w h k).elems ≤ 31 → count_at w k ≤ 31
  unfolding tree_at run
  few_elems zero l = omega (arith, length-block w k I, simp (length-take, length-drop) at l)
  few_elems (suc h) l = omega (arith, length-block w k I, simp (length-take, length-drop) at l)

  module _ (m : count_at w k ≤ 31) where
    pub elems_long : (h : ℕ) → length (tree_at w h k).elems ≡ count_at w k
    unfolding tree_at
    elems_long zero = run_length (block w k) 2 (count_at w k) (omega (arith, length-block w k I))
    elems_long (suc h) = run_length (block w k) 2 (count_at w k) (omega (arith, length-block w k I))

    pub ids_long : length (kid_ids_at w k) ≡ count_at w k + 1
    ids_long = run_length (block w k) 33 (count_at w k + 1) (omega (arith, length-block w k I))

    kids_long : (h : ℕ) → length (tree_at w (suc h) k).kids ≡ count_at w k + 1
    unfolding tree_at
    kids_long h = length-map (kid_ids_at w k) (tree_at w h) ∙ ids_long

    kid_is : (h c : ℕ) → c < count_at w k + 1 → kid h (tree_at w (suc h) k) c ≡ tree_at w h (kid_at w k c)
    unfolding tree_at
    kid_is h c l =
        get_d_map (tree_at w h) (kid_ids_at w k) c (none h) 0 (omega (arith, ids_long))
        ∙ ap (tree_at w h) (run-get_or (block w k) 33 (count_at w k + 1) c l)

    -- what holds of the trees at the words of the children holds of the children, and the other way round
    pub kids_of : (h : ℕ) (P : Tree h → Type 0) → ((c : ℕ) → c < count_at w k + 1 → P (tree_at w h (kid_at w k c)))
        → (c : ℕ) → c < length (tree_at w (suc h) k).kids → P (kid h (tree_at w (suc h) k) c)
    kids_of h P f c l = let n : c < count_at w k + 1 = omega (arith, kids_long h) in rw (kid_is h c n) (f c n)

    of_kids : (h : ℕ) (P : Tree h → Type 0) → ((c : ℕ) → c < length (tree_at w (suc h) k).kids → P (kid h (tree_at w (suc h) k) c))
        → (c : ℕ) → c < count_at w k + 1 → P (tree_at w h (kid_at w k c))
    of_kids h P f c l = rw (kid_is h c l) at (f c (omega (arith, kids_long h)))

    -- what holds of each child's word holds of the ids
    pub all_kids : (P : ℕ → Type 0) → ((c : ℕ) → c < count_at w k + 1 → P (kid_at w k c)) → All P (kid_ids_at w k)
    all_kids P f = all_of 0 (kid_ids_at w k) (λ c l.
        let m : c < count_at w k + 1 = omega (arith, ids_long) in
        rw (run-get_or (block w k) 33 (count_at w k + 1) c m) (f c m))

    pub kids_all : (P : ℕ → Type 0) → All P (kid_ids_at w k) → (c : ℕ) → c < count_at w k + 1 → P (kid_at w k c)
    kids_all P ps c l = rw (run-get_or (block w k) 33 (count_at w k + 1) c l) at (all_at 0 ps c (omega (arith, ids_long)))

-- ---- the nodes below

module _ (w : List ℕ) (h : ℕ) where
  below_all : {P : ℕ → Type 0} {ks : List ℕ} → All (λ k. All P (ids h (tree_at w h k))) ks → All P (below w h ks)
  unfolding below
  below_all nil = nil
  below_all (cons p ps) = all_append p (below_all ps)

  pub all_below : {P : ℕ → Type 0} (ks : List ℕ) → All P (below w h ks) → All (λ k. All P (ids h (tree_at w h k))) ks
  unfolding below
  all_below [] ps = nil
  all_below (k ∷ ks) ps =
      cons (all_left (ids h (tree_at w h k)) (below w h ks) ps) (all_below ks (all_right (ids h (tree_at w h k)) (below w h ks) ps))

  pub count-below : (j : ℕ) (xs ys : List ℕ) → count j (below w h (xs ++ ys)) ≡ count j (below w h xs) + count j (below w h ys)
  unfolding below count
  count-below j [] ys = omega arith
  count-below j (x ∷ xs) ys =
      omega (
        arith,
        count-below j xs ys,
        count-append j (ids h (tree_at w h x)) (below w h (xs ++ ys)),
        count-append j (ids h (tree_at w h x)) (below w h xs),
      )

-- the nodes of a tree with inner levels
pub ids_inner : (w : List ℕ) (h k : ℕ) → ids (suc h) (tree_at w (suc h) k) ≡ k ∷ below w h (kid_ids_at w k)
unfolding ids tree_at below
ids_inner w h k = refl

pub ids-leaf : (w : List ℕ) (k : ℕ) → ids zero (tree_at w zero k) ≡ k ∷ []
unfolding ids tree_at
ids-leaf w k = refl

-- ---- the numbers 1, 2, .. p

module _ (p : ℕ) where
  pub in_from : (j : ℕ) → 0 < count j (from 1 p) → Within p j
  in_from j l =
      elim (dec_le 1 j) [
        | no a ↦ absurd (omega (arith, count_out j 1 p (inl (omega arith))))
        | yes a ↦ elim (dec_le j p) [
          | yes b ↦ record { low = a; high = b }
          | no b ↦ absurd (omega (arith, count_out j 1 p (inr (omega arith))))
        ]
      ]

  within_all : (ks : List ℕ) → ((j : ℕ) → count j ks ≤ count j (from 1 p)) → All (Within p) ks
  within_all ks f = all_map (λ j l. in_from j (omega (arith, f j))) (all_counted ks)

  pub once_all : {ks : List ℕ} → All (Within p) ks → ((j : ℕ) → 1 ≤ j → count j ks ≤ 1) → (j : ℕ) → count j ks ≤ count j (from 1 p)
  once_all {ks} ps f j =
      elim (dec_le 1 (count j ks)) [
        | no a ↦ omega arith
        | yes a ↦ (let v = counted ps j a in omega (arith, f j v.low, count_in j 1 p v.low (omega arith)))
      ]

-- ---- well grown is well shaped

pub here : {w : List ℕ} {p : ℕ} (h : ℕ) {least k : ℕ} → Grown w p h least k → Sturdy w p least k
here zero G = G.0
here (suc h) G = G.0

module _ (w : List ℕ) (p : ℕ) (exact : length w ≡ head_words + node_words * p) where
  pub inside : {least k : ℕ} → Sturdy w p least k → Inside w k
  inside S = record { some = S.some; room = omega arith }

  enough_elems : (h least k : ℕ) → Grown w p h least k → least ≤ length (tree_at w h k).elems
  enough_elems h least k G = let S = here h G in rw (elems_long w k (inside S) S.most h) S.enough

  grown_fit : (h least k : ℕ) → Grown w p h least k → Fit h (tree_at w h k)
  grown_fit zero least k G = record { most = rw (elems_long w k (inside G.0) G.0.most zero) G.0.most }
  grown_fit (suc h) least k G =
      let I = inside G.0 in
      let m = G.0.most in
      let n = elems_long w k I m (suc h) in
      record {
        most = rw n m;
        one_more = kids_long w k I m h ∙ ap (λ (x : ℕ). x + 1) (sym n);
        each = kids_of w k I m h (Child h (Fit h)) (λ c l.
            record { least = enough_elems h 15 (kid_at w k c) (G.1 c l); fit = grown_fit h 15 (kid_at w k c) (G.1 c l) });
      }

  grown_ends : (h least k : ℕ) → Grown w p h least k → Ends w h (tree_at w h k)
  grown_ends zero least k G = rw (tree_id w zero k) G.1
  grown_ends (suc h) least k G = kids_of w k (inside G.0) G.0.most h (Ends w h) (λ c l. grown_ends h 15 (kid_at w k c) (G.1 c l))

  -- what holds of a node with a well grown tree holds of each node of the tree
  module _ (P : ℕ → Type 0) (f : (h least k : ℕ) → Grown w p h least k → P k) where
    pub grown_nodes : (h least k : ℕ) → Grown w p h least k → All P (ids h (tree_at w h k))
    grown_nodes zero least k G = rw (ids-leaf w k) (cons (f zero least k G) nil)
    grown_nodes (suc h) least k G =
        rw (ids_inner w h k)
        (cons (f (suc h) least k G)
        (below_all w h (all_kids w k (inside G.0) G.0.most _ (λ c l. grown_nodes h 15 (kid_at w k c) (G.1 c l)))))

  grown_within : (h least k : ℕ) → Grown w p h least k → Within p k
  grown_within h least k G = let S = here h G in record { low = S.some; high = S.within }

  -- the other way round
  sturdy : (h least k : ℕ) → Within p k → least ≤ length (tree_at w h k).elems → length (tree_at w h k).elems ≤ 31 → Sturdy w p least k
  sturdy h least k v l m =
      let I : Inside w k = record { some = v.low; room = omega (arith, v.high) } in
      let n = few_elems w k I h m in
      record { some = v.low; within = v.high; enough = rw (elems_long w k I n h) at l; most = n }

  shaped_grown : (h least k : ℕ) → least ≤ length (tree_at w h k).elems → Fit h (tree_at w h k) → Ends w h (tree_at w h k)
      → All (Within p) (ids h (tree_at w h k)) → Grown w p h least k
  shaped_grown zero least k l F E vs =
      let v = all_at 0 (rw (ids-leaf w k) at vs) 0 (omega arith) in
      (sturdy zero least k v l F.most, rw (tree_id w zero k) at E)
  shaped_grown (suc h) least k l F E vs =
      let us = rw (ids_inner w h k) at vs in
      let S = sturdy (suc h) least k (all_at 0 us 0 (omega arith)) l F.most in
      let I = inside S in
      let C = of_kids w k I S.most h (Child h (Fit h)) F.each in
      let rest = kids_all w k I S.most _ (all_below w h (kid_ids_at w k) (all_right (k ∷ []) (below w h (kid_ids_at w k)) us)) in
      (S, λ c m. shaped_grown h 15 (kid_at w k c) (C c m).least (C c m).fit (of_kids w k I S.most h (Ends w h) E c m) (rest c m))

  pub shape-grown : {h k : ℕ} → WellShaped w p h k → Grown w p h 1 k
  shape-grown {h} {k} W = shaped_grown h 1 k W.fit.some W.fit.fit W.ends (within_all p (ids h (tree_at w h k)) W.once)

  -- so the walk, begun at the root, says whether the tree is well shaped
  pub shapes : {r : Bool} {h k : ℕ} {m m' : List ℕ} → Grows r w p h 1 k m m' → Shapes r w p h k m m'
  shapes {r} {h} {k} {m} {m'} M = record {
    good = λ t.
        let G = (M.good t).0 in
        let A = (M.good t).1 in (
          record {
            fit = record { some = enough_elems h 1 k G; fit = grown_fit h 1 k G };
            once = once_all p (grown_nodes (Within p) grown_within h 1 k G) (λ j l. omega (arith, A j l, seen-lt m' j));
            ends = grown_ends h 1 k G;
          },
          A,
        );
    bad = λ f W U. M.bad f (shape-grown W) U;
    long = M.long;
  }

  -- ---- the levels: no tree has more than nodes

  grown_levels : (n h least k : ℕ) → h ≤ n → Grown w p h least k → levels_at n w k ≡ h
  grown_levels n zero least k l G = levels_leaf n w k G.1
  grown_levels zero (suc h) least k l G = absurd (omega arith)
  grown_levels (suc n) (suc h) least k l G =
      let K = G.1 0 (omega arith) in
      levels_inner n w k (kid_at w k 0) refl (here h K).some ∙ ap suc (grown_levels n h 15 (kid_at w k 0) (omega arith) K)

  pub shape_levels : {h k : ℕ} → WellShaped w p h k → levels_at p w k ≡ h
  shape_levels {h} {k} W =
      let few = count_most (ids h (tree_at w h k)) (from 1 p) W.once in
      grown_levels p h 1 k (omega (arith, few, length_from 1 p, levels_nodes h (tree_at w h k) W.fit.fit)) (shape-grown W)

-- ---- the levels: the fewest elements of a tree with h inner levels, against the most that p nodes hold

module _ {w : List ℕ} {p h k : ℕ} where
  reach : WellShaped w p h k → InReach p h
  reach W =
      let t : Tree h = tree_at w h k in
      let few = count_most (ids h t) (from 1 p) W.once in
      omega (arith, height h t W.fit, size_most h t W.fit.fit, few, length_from 1 p)

  pub too_deep : {m : List ℕ} → (InReach p h → ⊥) → Shapes false w p h k m m
  too_deep f = record { good = λ t. absurd (false≢true t); bad = λ t W U. f (reach W); long = refl }

pub reach_below : (p h : ℕ) → InReach p h → InReach p (h - 1)
reach_below p h R = let l : 16 ^ (h - 1) ≤ 16 ^ h = pow-le-pow_right (omega arith) (omega arith) in omega arith
