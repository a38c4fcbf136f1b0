-- What the walk of the first pass has done, and found, at each step.
use mathlib.Core.Path.{◌≡◌, refl, sym, ◌∙◌}
use mathlib.Core.Bool.{Bool, true, false, false≢true}
use mathlib.Core.List.{List, [], ◌∷◌}
use Prim.Native.Nat.{ℕ, zero, suc, ◌+◌, ◌-◌, ◌≤◌, ◌<◌}
use native.Mathlib.Decide.{dec_lt}
use native.Mathlib.Numerals.{add-one}
use native.Mathlib.Omega.{arith}
use borrow.Author.Tests.{eqb-true, eqb-false}
use lib.Dec.{eqb}
use lib.ListN.{length, get_or}
use Rattle.lists.specs.Lists.{count}
use Rattle.lists.proofs.Counts.{count-append, count_self, count-nil}
use Rattle.words.specs.Words.{run}
use Rattle.words.proofs.Laws.{run-snoc}
use Rattle.model.specs.Tree.{ids}
use Rattle.pool.specs.Layout.{block}
use Rattle.pool.specs.Parts.{Inside, count_at, kid_at, kid_ids_at, tree_at}
use Rattle.pool.proofs.Block.{length-block}
use Rattle.pool.proofs.Runs.{run-append}
use Rattle.marks.specs.Marks.{seen}
use Rattle.shape.specs.Shape.{Adds, Unmet, Claims, Sturdy, Grows, GrownKids, GrowsKids, below}
use Rattle.shape.proofs.Growth.{count-below, ids-leaf, ids_inner}

-- ---- the nodes below the first c children

module _ (w : List ℕ) (h : ℕ) (b : List ℕ) where
  below_one : (j k : ℕ) → count j (below w h (k ∷ [])) ≡ count j (ids h (tree_at w h k))
  unfolding below
  below_one j k = omega (arith, count-append j (ids h (tree_at w h k)) [], count-nil j)

  below_next : (j c : ℕ) → 33 + c < length b
      → count j (below w h (run b 33 (c + 1))) ≡ count j (below w h (run b 33 c)) + count j (ids h (tree_at w h (get_or b (33 + c) 0)))
  below_next j c l =
      rw (add-one c, run-snoc b 33 c l)
      (omega (arith, count-below w h j (run b 33 c) (get_or b (33 + c) 0 ∷ []), below_one j (get_or b (33 + c) 0)))

  below_most : (j c n : ℕ) → c ≤ n → count j (below w h (run b 33 c)) ≤ count j (below w h (run b 33 n))
  below_most j c n l =
      let e : c + (n - c) ≡ n = omega arith in
      rw (← e, run-append b 33 c (n - c)) (omega (arith, count-below w h j (run b 33 c) (run b (33 + c) (n - c))))

-- ---- the answers

module _ {P : Type 0} {m ks m' : List ℕ} where
  refused : length m' ≡ length m → (P → Unmet m ks → ⊥) → Claims false P m ks m'
  refused e f = record { good = λ t. absurd (false≢true t); bad = λ t. f; long = e }

-- ---- one node

id_counted : (w : List ℕ) (h k : ℕ) → 0 < count k (ids h (tree_at w h k))
id_counted w zero k = rw (ids-leaf w k) (omega (arith, count_self k []))
id_counted w (suc h) k = rw (ids_inner w h k) (omega (arith, count_self k (below w h (kid_ids_at w k))))

module _ (w : List ℕ) (p h least k : ℕ) (m : List ℕ) where
  pub met_twice : {m' : List ℕ} → length m' ≡ length m → 1 ≤ k → seen m k ≡ 1
      → Grows false w p h least k m m'
  met_twice q l e = refused q (λ G U. omega (arith, U k l, id_counted w h k))

  -- the node is marked by now
  module _ (m₁ : List ℕ) (S : Sturdy w p least k) (new : Adds m (k ∷ []) m₁) (long : length m₁ ≡ length m) where
    pub leaf_found : h ≡ 0 → (r : Bool) → r ≡ eqb (kid_at w k 0) 0 → Grows r w p h least k m m₁
    leaf_found e r q =
        rw (e, ids-leaf w k) record {
          good = λ t. ((S, eqb-true (kid_at w k 0) 0 (sym q ∙ t)), new);
          bad = λ f G U. eqb-false (kid_at w k 0) 0 (sym q ∙ f) G.1;
          long = long;
        }

    pub inner_found : (l : ℕ) → (h ≡ 0 → ⊥) → l ≡ h - 1 → (r : Bool) (m' : List ℕ)
        → GrowsKids r w p l k m₁ m'
        → Grows r w p h least k m m'
    inner_found l n e r m' M =
        let up : h ≡ suc l = omega arith in
        let ks : List ℕ = below w l (kid_ids_at w k) in
        rw (up, ids_inner w l k) record {
          good = λ t. ((S, (M.good t).0), λ j a. omega (arith, (M.good t).1 j a, new j a, count-append j (k ∷ []) ks));
          bad = λ f G U. M.bad f G.1 (λ j a. omega (arith, U j a, new j a, count-append j (k ∷ []) ks));
          long = M.long ∙ long;
        }

-- ---- the children

-- the first c children of node k are well grown, and marked
pub record Walked (w : List ℕ) (p h k : ℕ) (m₀ m : List ℕ) (c : ℕ) : Type 0 where
  pub grown : GrownKids w p h k c
  pub adds : Adds m₀ (below w h (run (block w k) 33 c)) m
  pub long : length m ≡ length m₀

pub walked_none : (w : List ℕ) (p h k : ℕ) (m : List ℕ) → Walked w p h k m m 0
unfolding below run count
walked_none w p h k m = record { grown = λ c l. absurd (omega arith); adds = λ j a. omega arith; long = refl }

module _ (w : List ℕ) (p h k : ℕ) (I : Inside w k) (few : count_at w k ≤ 31) (m₀ m : List ℕ) (c : ℕ) (W : Walked w p h k m₀ m c) where
  -- child c, whose id is i
  module _ (i : ℕ) (e : i ≡ kid_at w k c) (l : c ≤ count_at w k) (r : Bool) (m' : List ℕ)
      (M : Grows r w p h 15 i m m') where
    next : (j : ℕ)
        → count j (below w h (run (block w k) 33 (c + 1))) ≡ count j (below w h (run (block w k) 33 c)) + count j (ids h (tree_at w h i))
    next j = rw e (below_next w h (block w k) j c (omega (arith, length-block w k I)))

    pub walked_more : r ≡ true → Walked w p h k m₀ m' (c + 1)
    walked_more t = record {
      grown = λ j a. elim (dec_lt j c) [
        | yes b ↦ W.grown j b
        | no b ↦ (let q : j ≡ c = omega arith in rw (q, ← e) (M.good t).0)
      ];
      adds = λ j a. omega (arith, W.adds j a, (M.good t).1 j a, next j);
      long = M.long ∙ W.long;
    }

    pub walked_bad : r ≡ false → GrowsKids false w p h k m₀ m'
    walked_bad f = refused (M.long ∙ W.long) (λ G U.
        let K = G c (omega arith) in
        M.bad f (rw e K) (λ j a.
        omega (arith, U j a, W.adds j a, next j, below_most w h (block w k) j (c + 1) (count_at w k + 1) (omega arith))))
