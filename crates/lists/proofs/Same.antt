-- The test for the same list tells whether two lists are equal.
use mathlib.Core.Path.{◌≡◌, refl}
use mathlib.Core.Bool.{Bool, true, false, ◌&&◌}
use mathlib.Core.List.{List, [], ◌∷◌}
use Prim.Native.Nat.{ℕ}
use native.Mathlib.Omega.{arith}
use borrow.Author.Tests.{eqb-true, eq-eqb}
use lib.Dec.{eqb}
use Rattle.lists.specs.Lists.{same}

pub same_self : (xs : List ℕ) → same xs xs ≡ true
unfolding same
same_self [] = refl
same_self (x ∷ xs) = rw (eq-eqb x x refl, same_self xs)

same-equal : (xs ys : List ℕ) → same xs ys ≡ true → xs ≡ ys
unfolding same
same-equal [] [] e = refl
same-equal [] (y ∷ ys) e = let z : ◌≡◌ {A = ℕ} 0 1 = cc in absurd (omega arith)
same-equal (x ∷ xs) [] e = let z : ◌≡◌ {A = ℕ} 0 1 = cc in absurd (omega arith)
same-equal (x ∷ xs) (y ∷ ys) e = go (eqb x y) refl (same-equal xs ys) e
  where
    go : (b : Bool) → eqb x y ≡ b → (same xs ys ≡ true → xs ≡ ys) → (b && same xs ys) ≡ true → ◌≡◌ {A = List ℕ} (x ∷ xs) (y ∷ ys)
    go true q below e = let a : x ≡ y = eqb-true x y q in let t : xs ≡ ys = below e in cc
    go false q below e = let z : ◌≡◌ {A = ℕ} 0 1 = cc in absurd (omega arith)

-- where it is known that they differ
pub same_other : (xs ys : List ℕ) → (xs ≡ ys → ⊥) → same xs ys ≡ false
same_other xs ys n = go (same xs ys) refl
  where
    go : (b : Bool) → same xs ys ≡ b → same xs ys ≡ false
    go true e = absurd (n (same-equal xs ys e))
    go false e = e
