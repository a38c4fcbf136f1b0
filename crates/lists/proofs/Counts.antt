-- How often numbers stand in a list.
use mathlib.Core.Path.{◌≡◌, refl, ap}
use mathlib.Core.List.{List, [], ◌∷◌, ◌++◌}
use mathlib.Core.Bool.{Bool, true, false}
use mathlib.Core.Logic.{◌≢◌, ◌⊎◌, inl, inr}
use Prim.Native.Nat.{ℕ, zero, suc, ◌+◌, ◌≤◌, ◌<◌}
use native.Mathlib.Decide.{ℕ_discrete, dec_le}
use native.Mathlib.Omega.{arith}
use borrow.Author.Tests.{eqb-true, eq-eqb, ne_eqb}
use lib.Dec.{eqb}
use lib.ListN.{length, get_or, drop}
use Rattle.lists.specs.Lists.{count, from}
use Rattle.lists.proofs.All.{All, nil, cons, all_of, all_dec}

pub count-append : (k : ℕ) (xs ys : List ℕ) → count k (xs ++ ys) ≡ count k xs + count k ys
unfolding count
count-append k [] ys = omega arith
count-append k (x ∷ xs) ys = omega (arith, count-append k xs ys)

pub count-nil : (k : ℕ) → count k [] ≡ 0
unfolding count
count-nil k = refl

pub count_self : (k : ℕ) (xs : List ℕ) → count k (k ∷ xs) ≡ 1 + count k xs
unfolding count
count_self k xs = rw (eq-eqb k k refl)

pub count_other : (k j : ℕ) (xs : List ℕ) → k ≢ j → count k (j ∷ xs) ≡ count k xs
unfolding count
count_other k j xs n = rw (ne_eqb k j n) (omega arith)

pub count_first : (k : ℕ) (xs : List ℕ) → 0 < length xs → count k xs ≡ count k (get_or xs 0 0 ∷ []) + count k (drop 1 xs)
count_first k [] l = absurd (omega arith)
count_first k (x ∷ xs) l = count-append k (x ∷ []) xs

-- ---- one number by itself

pub one_same : (k : ℕ) {i j : ℕ} → i ≡ j → count k (i ∷ []) ≡ count k (j ∷ [])
one_same k e = ap (λ (n : ℕ). count k (n ∷ [])) e

pub one_other : (k j : ℕ) → k ≢ j → count k (j ∷ []) ≡ 0
unfolding count
one_other k j n = count_other k j [] n

-- two of which each is counted apart are two
pub ones_apart : (i j : ℕ) → ((k : ℕ) → count k (i ∷ []) + count k (j ∷ []) ≤ 1) → i ≢ j
ones_apart i j a e = omega (arith, rw (← e) at (a i), count_self i [])

-- ---- what stands in a list is counted, and what is counted stands in it

pub count-get_or : (xs : List ℕ) (i d : ℕ) → i < length xs → 0 < count (get_or xs i d) xs
unfolding count
count-get_or [] i d l = absurd (omega arith)
count-get_or (x ∷ xs) zero d l = omega (arith, count_self x xs)
count-get_or (x ∷ xs) (suc i) d l = omega (arith, count-get_or xs i d (omega arith))

pub all_counted : (xs : List ℕ) → All (λ k. 0 < count k xs) xs
all_counted xs = all_of 0 xs (λ i l. count-get_or xs i 0 l)

pub counted : {P : ℕ → Type 0} {xs : List ℕ} → All P xs → (k : ℕ) → 0 < count k xs → P k
unfolding count
counted nil k l = absurd (omega arith)
counted {P} (cons {x = x} {xs = xs} p ps) k l = go (eqb k x) refl (counted ps k)
  where
    go : (t : Bool) → eqb k x ≡ t → (0 < count k xs → P k) → P k
    go true e ih = rw (eqb-true k x e) p
    go false e ih = ih (omega (arith, rw e at l))

-- ---- lists in which every number stands equally often

-- the list without one k
pub record Without (k : ℕ) (xs : List ℕ) : Type 0 where
  pub rest : List ℕ
  pub long : length xs ≡ length rest + 1
  pub same : (j : ℕ) → count j xs ≡ count j (k ∷ rest)

pub without : (k : ℕ) (xs : List ℕ) → 0 < count k xs → Without k xs
unfolding count
without k [] l = absurd (omega arith)
without k (x ∷ xs) l = go (eqb k x) refl (without k xs)
  where
    go : (t : Bool) → eqb k x ≡ t → (0 < count k xs → Without k xs) → Without k (x ∷ xs)
    go true e ih = record { rest = xs; long = omega arith; same = λ j. rw (eqb-true k x e) }
    go false e ih =
        let r = ih (omega (arith, rw e at l)) in
        record { rest = x ∷ r.rest; long = omega arith; same = λ j. omega (arith, r.same j) }

pub count-length : (xs ys : List ℕ) → ((k : ℕ) → count k xs ≡ count k ys) → length xs ≡ length ys
unfolding count
count-length [] [] e = refl
count-length [] (y ∷ ys) e = absurd (omega (arith, e y, count_self y ys))
count-length (x ∷ xs) ys e =
    let r = without x ys (omega (arith, e x, count_self x xs)) in
    omega (arith, count-length xs r.rest (λ k. omega (arith, e k, r.same k)))

pub same_counts? : (xs ys : List ℕ) → Dec ((k : ℕ) → count k xs ≡ count k ys)
same_counts? xs ys = go (all_dec (λ k. ℕ_discrete (count k xs) (count k ys)) (xs ++ ys))
  where
    go : Dec (All (λ k. count k xs ≡ count k ys) (xs ++ ys)) → Dec ((k : ℕ) → count k xs ≡ count k ys)
    go (no n) = no (λ e. n (all_of 0 (xs ++ ys) (λ c l. e (get_or (xs ++ ys) c 0))))
    go (yes a) =
        yes (λ k. elim (dec_le 1 (count k (xs ++ ys))) [
          | yes l ↦ counted a k l
          | no l ↦ omega (arith, count-append k xs ys)
        ])

-- ---- the numbers from s on

pub length_from : (s n : ℕ) → length (from s n) ≡ n
unfolding from
length_from s zero = refl
length_from s (suc n) = ap suc (length_from (suc s) n)

pub get_or-from : (s n j : ℕ) → j < n → get_or (from s n) j 0 ≡ s + j
unfolding from
get_or-from s zero j l = absurd (omega arith)
get_or-from s (suc n) zero l = omega arith
get_or-from s (suc n) (suc j) l = omega (arith, get_or-from (suc s) n j (omega arith))

pub count_out : (k s n : ℕ) → (k < s) ⊎ (s + n ≤ k) → count k (from s n) ≡ 0
unfolding count from
count_out k s zero o = refl
count_out k s (suc n) (inl l) = rw (ne_eqb k s (λ e. omega arith)) (omega (arith, count_out k (suc s) n (inl (omega arith))))
count_out k s (suc n) (inr l) = rw (ne_eqb k s (λ e. omega arith)) (omega (arith, count_out k (suc s) n (inr (omega arith))))

pub count_in : (k s n : ℕ) → s ≤ k → k < s + n → count k (from s n) ≡ 1
unfolding count from
count_in k s zero l m = absurd (omega arith)
count_in k s (suc n) l m =
    elim (ℕ_discrete k s) [
      | yes e ↦ rw (eq-eqb k s e) (omega (arith, count_out k (suc s) n (inl (omega arith))))
      | no e ↦ rw (ne_eqb k s e) (omega (arith, count_in k (suc s) n (omega arith) (omega arith)))
    ]
