-- What `Vec` says of a list, and the few list functions that the trees want.
use Rattle.std.specs.Prelude.{List, [], ◌∷◌, ◌++◌, Bool, true, false, cond, ◌&&◌, ℕ, zero, suc, ◌+◌, ◌-◌, eqb, length, take, drop, get_or}

-- `Vec::insert`: the element at position i, all elements after it shifted to the right
unfoldable pub insert_at : {A : Type 0} → List A → ℕ → A → List A
insert_at xs i x = take i xs ++ (x ∷ drop i xs)

-- `Vec::remove`: the list without the element at position i, all elements after it shifted to the left
unfoldable pub remove_at : {A : Type 0} → List A → ℕ → List A
remove_at xs i = take i xs ++ drop (suc i) xs

unfoldable pub last : {A : Type 0} → List A → A → A
last xs d = get_or xs (length xs - 1) d

unfoldable pub but_last : {A : Type 0} → List A → List A
but_last xs = take (length xs - 1) xs

unfoldable pub concat : {A : Type 0} → List (List A) → List A
concat [] = []
concat (xs ∷ xss) = xs ++ concat xss

unfoldable pub sum : List ℕ → ℕ
sum [] = 0
sum (x ∷ xs) = x + sum xs

-- how often k stands in a list: it adds up over `++`, so that sums tell who owns a node
unfoldable pub count : ℕ → List ℕ → ℕ
count k [] = 0
count k (x ∷ xs) = cond (eqb k x) 1 0 + count k xs

-- whether two lists are the same
unfoldable pub same : List ℕ → List ℕ → Bool
same [] [] = true
same [] (y ∷ ys) = false
same (x ∷ xs) [] = false
same (x ∷ xs) (y ∷ ys) = eqb x y && same xs ys

-- the n numbers from k on
unfoldable pub from : ℕ → ℕ → List ℕ
from k zero = []
from k (suc n) = k ∷ from (suc k) n
