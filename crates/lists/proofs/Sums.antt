-- A number of every element, summed; and what is counted in a list of lists.
use mathlib.Core.Path.{◌≡◌, ap, ◌∙◌}
use mathlib.Core.List.{List, [], ◌∷◌, ◌++◌, map}
use Prim.Native.Nat.{ℕ, suc, ◌+◌, ◌*◌, ◌≤◌, ◌<◌}
use native.Mathlib.Omega.{arith}
use lib.ListN.{length, take, drop, get_or, set}
use lib.Seq.{split_at, set_split}
use Rattle.lists.specs.Lists.{sum, concat}
use Rattle.lists.proofs.All.{All, nil, cons}

abbrev pub total : {A : Type 0} → (A → ℕ) → List A → ℕ
total g xs = sum (map g xs)

module _ {A : Type 0} (g : A → ℕ) where
  pub total_append : (xs ys : List A) → total g (xs ++ ys) ≡ total g xs + total g ys
  unfolding sum
  total_append [] ys = omega arith
  total_append (x ∷ xs) ys = omega (arith, total_append xs ys)

  pub total_at : (xs : List A) (c : ℕ) (d : A) → c < length xs
      → total g xs ≡ total g (take c xs) + (g (get_or xs c d) + total g (drop (suc c) xs))
  unfolding sum
  total_at xs c d l = ap (total g) (split_at xs c d l) ∙ total_append (take c xs) (get_or xs c d ∷ drop (suc c) xs)

  -- one of them gives way to another
  pub total_set : (xs : List A) (c : ℕ) (d x : A) → c < length xs → total g (set xs c x) + g (get_or xs c d) ≡ total g xs + g x
  unfolding sum
  total_set xs c d x l =
      omega (arith, ap (total g) (set_split xs c x l), total_append (take c xs) (x ∷ drop (suc c) xs), total_at xs c d l)

-- a measure that adds up over `++` adds up over `concat`
pub measure_concat : {A B : Type 0} (m : List B → ℕ) → m [] ≡ 0 → ((xs ys : List B) → m (xs ++ ys) ≡ m xs + m ys)
    → (f : A → List B) (xs : List A) → m (concat (map f xs)) ≡ total (λ x. m (f x)) xs
unfolding concat sum
measure_concat m z add f [] = z
measure_concat m z add f (x ∷ xs) = omega (arith, add (f x) (concat (map f xs)), measure_concat m z add f xs)

-- where each number is m or more with 1 added
pub total_least : {A : Type 0} (g : A → ℕ) (m : ℕ) {xs : List A} → All (λ x. m ≤ g x + 1) xs → length xs * m ≤ total g xs + length xs
unfolding sum
total_least g m nil = omega arith
total_least g m (cons p ps) = omega (arith, total_least g m ps)
