-- The second pass: what is found of one node, and what it comes to: the tree stands in the pool.
use mathlib.Core.Path.{◌≡◌, refl, sym, ap, ap₂, ◌∙◌}
use mathlib.Core.Bool.{Bool, false, false≢true}
use mathlib.Core.List.{List, [], ◌∷◌, map}
use Prim.Native.Nat.{ℕ, zero, suc, ◌+◌, ◌-◌, ◌*◌, ◌≤◌, ◌<◌}
use native.Mathlib.Decide.{dec_lt}
use native.Mathlib.Omega.{arith}
use borrow.Author.Tests.{eq-eqb, ne_eqb}
use lib.ListN.{length, length-map, get_or-eq_default}
use Rattle.lists.specs.Lists.{sum}
use Rattle.words.specs.Words.{run}
use Rattle.lists.proofs.All.{All, nil, cons, all_concat, all_of, all_at, all_right}
use Rattle.model.specs.Tree.{Tree, kid, none, size, ids}
use Rattle.model.specs.Fit.{Fit}
use Rattle.pool.specs.Layout.{head_words, node_words, block, node_block, id_of, kid_ids, root_block}
use Rattle.pool.specs.Parts.{Inside, Stored, At, count_at, length_at, kid_at, elems_at, kid_ids_at, tree_at}
use Rattle.pool.specs.Find.{kid_lengths}
use Rattle.pool.proofs.Block.{length-block}
use Rattle.pool.proofs.Node.{at_count, at_length, at_elem, at_link, at_leaf, at_kid, kids_read, kid_lengths_lem}
use Rattle.pool.proofs.Runs.{block_is}
use Rattle.shape.specs.Shape.{Decides, Grown, below}
use Rattle.shape.proofs.Growth.{tree_id, elems_long, ids_long, kids_of, all_kids, kids_all, ids-leaf, ids_inner, all_below, inside, here}
use Rattle.sound.specs.Filled.{Clear, Readable, kids_at, AddsUp, Filled}

-- ---- one node

module _ (w : List ℕ) (k : ℕ) where
  kids_leaf : kid_at w k 0 ≡ 0 → kids_at w k ≡ []
  unfolding kids_at
  kids_leaf e = rw (eq-eqb (kid_at w k 0) 0 e)

  kids_inner : (kid_at w k 0 ≡ 0 → ⊥) → kids_at w k ≡ kid_ids_at w k
  unfolding kids_at
  kids_inner n = rw (ne_eqb (kid_at w k 0) 0 n)

  pub not_filled : (Filled w k → ⊥) → Decides false (Filled w k)
  not_filled f = record { good = λ t. absurd (false≢true t); bad = λ t. f }

  module _ (R : Readable w k) where
    module _ (e : kid_at w k 0 ≡ 0) where
      pub leaf-length : (length_at w k ≡ count_at w k → ⊥) → Filled w k → ⊥
      unfolding sum
      leaf-length n F = n (omega (arith, rw (kids_leaf e) at F.total))

      pub leaf-filled : length_at w k ≡ count_at w k → {r : Bool}
          → Decides r (Clear (block w k) (2 + count_at w k) node_words) → Decides r (Filled w k)
      unfolding sum
      leaf-filled q T = record {
        good = λ t. record {
          elems = λ i a b. T.good t i a (omega arith);
          kids = rw (kids_leaf e) (λ i a b. T.good t i (omega (arith, R.most)) b);
          total = rw (kids_leaf e) (omega arith);
        };
        bad = λ f F. T.bad f (λ i a b. elim (dec_lt i 33) [
          | yes c ↦ F.elems i a c
          | no c ↦ rw (kids_leaf e) at F.kids i (omega arith) b
        ]);
      }

    module _ (n : kid_at w k 0 ≡ 0 → ⊥) where
      kids_many : length (kids_at w k) ≡ count_at w k + 1
      kids_many = rw (kids_inner n) (ids_long w k R.inside R.most)

      pub inner_kids : (Clear (block w k) (33 + count_at w k + 1) node_words → ⊥) → Filled w k → ⊥
      inner_kids f F = f (λ i a b. F.kids i (omega (arith, kids_many)) b)

      pub inner_filled : Clear (block w k) (2 + count_at w k) 33 → Clear (block w k) (33 + count_at w k + 1) node_words → {r : Bool}
          → Decides r (AddsUp w k (kid_ids_at w k)) → Decides r (Filled w k)
      inner_filled C D T = record {
        good = λ t. record {
          elems = C;
          kids = λ i a b. D i (omega (arith, kids_many)) b;
          total = rw (kids_inner n) (T.good t);
        };
        bad = λ f F. T.bad f (rw (kids_inner n) at F.total);
      }

-- ---- a tree that stands in the pool is filled

module _ (w : List ℕ) where
  module _ (h : ℕ) (t : Tree h) (F : Fit h t) (S : Stored w t.id (root_block h t)) where
    elems_clear : Clear (block w t.id) (2 + count_at w t.id) 33
    elems_clear i a b =
        let e : 2 + (i - 2) ≡ i = omega arith in
        rw e at (at_elem w h t S (i - 2) (omega arith)) ∙ get_or-eq_default t.elems 0 (omega (arith, at_count w h t S))

    kids_clear : (n : ℕ) → ((c : ℕ) → n ≤ c → c < 32 → kid_at w t.id c ≡ 0) → Clear (block w t.id) (33 + n) node_words
    kids_clear n f i a b =
        elim (dec_lt i 65) [
          | yes c ↦ (let e : 33 + (i - 33) ≡ i = omega arith in rw e at (f (i - 33) (omega arith) (omega arith)))
          | no c ↦ (let e : i ≡ 65 = omega arith in rw e (at_link w h t S F))
        ]

  here_filled : (h : ℕ) (t : Tree h) → Fit h t → At w h t → Filled w t.id
  unfolding size sum kid_lengths
  here_filled zero t F A =
      let S = A.here in
      let e = at_leaf w t S F.most 0 (omega arith) in
      record {
        elems = elems_clear zero t F S;
        kids = rw (kids_leaf w t.id e) (kids_clear zero t F S 0 (λ c a b. at_leaf w t S F.most c b));
        total = rw (kids_leaf w t.id e) (omega (arith, at_length w zero t S, at_count w zero t S));
      }
  here_filled (suc h) t F A =
      let S = A.here in
      let n : kid_at w t.id 0 ≡ 0 → ⊥ =
      λ e. omega (arith, at_kid w h t S F.most 0 (omega arith), (A.each 0 (omega arith)).here.inside.some) in
      record {
        elems = elems_clear (suc h) t F S;
        kids = rw (kids_inner w t.id n, kids_read w h t S F, length-map) (kids_clear (suc h) t F S (length t.kids) (λ c a b.
            at_kid w h t S F.most c b ∙ ap (id_of h) (get_or-eq_default t.kids (none h) a)));
        total = rw (kids_inner w t.id n)
            (omega (arith, at_length w (suc h) t S, at_count w (suc h) t S, ap sum (kid_lengths_lem w h t F A)));
      }

  pub at_filled : (h : ℕ) (t : Tree h) → Fit h t → At w h t → All (Filled w) (ids h t)
  unfolding ids
  at_filled zero t F A = cons (here_filled zero t F A) nil
  at_filled (suc h) t F A =
      cons (here_filled (suc h) t F A)
      (all_concat (all_of (none h) t.kids (λ c l. at_filled h (kid h t c) (F.each c l).fit (A.each c l))))

-- ---- a tree that is well grown and filled stands in the pool

-- the ids, and the sizes, of the trees that are read off the nodes in ks
names : (w : List ℕ) (h : ℕ) (ks : List ℕ) → map (id_of h) (map (tree_at w h) ks) ≡ ks
names w h [] = refl
names w h (k ∷ ks) = ap₂ (λ (j : ℕ) (js : List ℕ). j ∷ js) (tree_id w h k) (names w h ks)

sizes : (w : List ℕ) (h : ℕ) {ks : List ℕ} → All (λ k. At w h (tree_at w h k)) ks → map (size h) (map (tree_at w h) ks) ≡ map (length_at w) ks
sizes w h nil = refl
sizes w h (cons {x = k} {xs = ks} A As) =
    let e = ap (length_at w) (sym (tree_id w h k)) ∙ at_length w h (tree_at w h k) A.here in
    ap₂ (λ (j : ℕ) (js : List ℕ). j ∷ js) (sym e) (sizes w h As)

module _ (w : List ℕ) (k : ℕ) (I : Inside w k) (most : count_at w k ≤ 31) (F : Filled w k) where
  leaf_is : kid_at w k 0 ≡ 0 → block w k ≡ root_block zero (tree_at w zero k)
  unfolding tree_at root_block kid_ids size run sum
  leaf_is e =
      let q : length_at w k ≡ length (elems_at w k) = omega (arith, rw (kids_leaf w k e) at F.total, elems_long w k I most zero) in
      block_is (block w k) 0 (length-block w k I) most (omega arith) F.elems (rw (kids_leaf w k e) at F.kids)
      ∙ ap (λ (n : ℕ). node_block n (elems_at w k) []) q

  inner_is : (kid_at w k 0 ≡ 0 → ⊥) → (h : ℕ) → ((c : ℕ) → c < count_at w k + 1 → At w h (tree_at w h (kid_at w k c)))
      → block w k ≡ root_block (suc h) (tree_at w (suc h) k)
  unfolding tree_at root_block kid_ids size
  inner_is n h A =
      let As = sizes w h (all_kids w k I most (λ j. At w h (tree_at w h j)) A) in
      let q : length_at w k ≡ length (elems_at w k) + sum (map (length_at w) (kid_ids_at w k)) =
      omega (arith, rw (kids_inner w k n) at F.total, elems_long w k I most (suc h)) in
      block_is (block w k) (count_at w k + 1) (length-block w k I) most (omega arith) F.elems
      (rw (kids_inner w k n, ids_long w k I most) at F.kids)
      ∙ rw (q, As, names w h (kid_ids_at w k))

module _ (w : List ℕ) (p : ℕ) (exact : length w ≡ head_words + node_words * p) where
  -- what the first pass finds of a node is enough to read it
  pub grown_reads : (h least k : ℕ) → Grown w p h least k → Readable w k
  grown_reads zero least k G =
      record { inside = inside w p exact G.0; most = G.0.most; kids = λ n. absurd (n G.1) }
  grown_reads (suc h) least k G =
      record { inside = inside w p exact G.0; most = G.0.most; kids = λ n c l. inside w p exact (here h (G.1 c l)) }

  pub filled_at : (h least k : ℕ) → Grown w p h least k → All (Filled w) (ids h (tree_at w h k)) → At w h (tree_at w h k)
  unfolding tree_at
  filled_at zero least k G fs =
      let I = inside w p exact G.0 in
      let F = all_at 0 (rw (ids-leaf w k) at fs) 0 (omega arith) in
      record { here = record { inside = I; is = leaf_is w k I G.0.most F G.1 }; each = tt }
  filled_at (suc h) least k G fs =
      let I = inside w p exact G.0 in
      let gs = rw (ids_inner w h k) at fs in
      let rest = kids_all w k I G.0.most _ (all_below w h (kid_ids_at w k) (all_right (k ∷ []) (below w h (kid_ids_at w k)) gs)) in
      let n : kid_at w k 0 ≡ 0 → ⊥ = λ e. omega (arith, (here h (G.1 0 (omega arith))).some) in
      let A : (c : ℕ) → c < count_at w k + 1 → At w h (tree_at w h (kid_at w k c)) =
      λ c l. filled_at h 15 (kid_at w k c) (G.1 c l) (rest c l) in
      record {
        here = record { inside = I; is = inner_is w k I G.0.most (all_at 0 gs 0 (omega arith)) n h A };
        each = kids_of w k I G.0.most h (At w h) A;
      }
