-- Laws of lists that the check of a pool wants besides.
use mathlib.Core.Path.{◌≡◌, refl}
use mathlib.Core.List.{List, [], ◌∷◌, map}
use mathlib.Core.Logic.{inl, inr}
use Prim.Native.Nat.{ℕ, zero, suc, ◌+◌, ◌≤◌, ◌<◌}
use native.Mathlib.Decide.{dec_le, dec_lt}
use native.Mathlib.Omega.{arith}
use lib.ListN.{length, get_or}
use Rattle.lists.specs.Lists.{count, from}
use Rattle.lists.proofs.Counts.{count_self, without, length_from, count_in, count_out}

-- a list in which no number stands more often than in another is no longer
pub count_most : (xs ys : List ℕ) → ((k : ℕ) → count k xs ≤ count k ys) → length xs ≤ length ys
unfolding count
count_most [] ys f = omega arith
count_most (x ∷ xs) ys f =
    let r = without x ys (omega (arith, f x, count_self x xs)) in
    omega (arith, r.long, count_most xs r.rest (λ k. omega (arith, f k, r.same k)))

-- numbers below n, none of them twice, are at most n
pub count-below : (n : ℕ) (xs : List ℕ) → ((k : ℕ) → count k xs ≤ 1) → ((k : ℕ) → 0 < count k xs → k < n) → length xs ≤ n
count-below n xs once low =
    let most = count_most xs (from 0 n) (λ k.
    elim (dec_lt 0 (count k xs)) [
      | yes l ↦ omega (arith, once k, count_in k 0 n (omega arith) (omega (arith, low k l)))
      | no l ↦ omega arith
    ]) in
    omega (arith, length_from 0 n)

-- an element of a mapped list, whatever stands past the ends
pub get_d_map : {A B : Type 0} (f : A → B) (xs : List A) (c : ℕ) (d : B) (e : A) → c < length xs → get_or (map f xs) c d ≡ f (get_or xs c e)
get_d_map f [] c d e l = absurd (omega arith)
get_d_map f (x ∷ xs) zero d e l = refl
get_d_map f (x ∷ xs) (suc c) d e l = get_d_map f xs c d e (omega arith)

-- no number stands twice in a row of numbers
pub count-from : (k s n : ℕ) → count k (from s n) ≤ 1
count-from k s n =
    elim (dec_le s k) [
      | no a ↦ omega (arith, count_out k s n (inl (omega arith)))
      | yes a ↦ elim (dec_lt k (s + n)) [
        | yes b ↦ omega (arith, count_in k s n a b)
        | no b ↦ omega (arith, count_out k s n (inr (omega arith)))
      ]
    ]
