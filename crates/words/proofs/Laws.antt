-- The laws of words stored from a place on, and of runs.
use mathlib.Core.Path.{◌≡◌, refl, ap, ◌∙◌}
use mathlib.Core.List.{List, [], ◌∷◌, ◌++◌, append-nil, append_assoc}
use mathlib.Core.Logic.{◌≢◌, ◌⊎◌, inl, inr}
use Prim.Native.Nat.{ℕ, zero, suc, ◌+◌, ◌-◌, ◌≤◌, ◌<◌}
use native.Mathlib.Nat.{add-zero, add-suc, suc-add}
use native.Mathlib.Omega.{arith}
use borrow.Rule.Slice.PartMut.{put_mid}
use lib.ListN.{length, get_or, set, take, drop, length-set, length-take, length-drop, drop_of_length-le}
use lib.Seq.{sets, sets-eq, set_comm, set-set, set-get_or, get_or-set_same, get_or-set_other, drop-set-lt, drop-set-add, take-set-le}
use lib.Seq.{get_or-take, get_or-drop, take-suc, drop-cons, length-take-le, take_at, drop_at, take-take, drop-drop, length-sets}
use Rattle.std.proofs.lemmas.Grind.{get_or-set_at, same_number_lists}
use Rattle.words.specs.Words.{run}

-- For `grind`: what one word is after stores. With so few laws a wrong store is told by a word that differs, not by a limit.
pub ruleset stores = (length-set, get_or-set_at, get_or-set_other)

-- ---- words stored from a place on

module _ {A : Type 0} where
  -- two lists stored one behind the other
  pub sets-append : (xs : List A) (at : ℕ) (ys zs : List A) → sets xs at (ys ++ zs) ≡ sets (sets xs at ys) (at + length ys) zs
  sets-append xs at [] zs = rw add-zero
  sets-append xs at (y ∷ ys) zs = rw (add-suc, ← (suc-add at (length ys))) (sets-append (set xs at y) (suc at) ys zs)

  -- a store before the run may as well be made first
  pub set-sets : (xs : List A) (at : ℕ) (ys : List A) (i : ℕ) (v : A) → i < at → set (sets xs at ys) i v ≡ sets (set xs i v) at ys
  set-sets xs at [] i v h = refl
  set-sets xs at (y ∷ ys) i v h =
      let ne : at ≢ i = omega arith in
      set-sets (set xs at y) (suc at) ys i v (omega arith) ∙ ap (λ (l : List A). sets l (suc at) ys) (set_comm xs at i y v ne)

  -- what is read elsewhere; and where it was stored, at i in xs and j in ys
  pub sets_outside : (xs : List A) (at : ℕ) (ys : List A) (i : ℕ) (d : A) → (i < at) ⊎ (at + length ys ≤ i)
      → get_or (sets xs at ys) i d ≡ get_or xs i d
  sets_outside xs at [] i d h = refl
  sets_outside xs at (y ∷ ys) i d (inl h) =
      sets_outside (set xs at y) (suc at) ys i d (inl (omega arith)) ∙ get_or-set_other xs at i y d (omega arith)
  sets_outside xs at (y ∷ ys) i d (inr h) =
      sets_outside (set xs at y) (suc at) ys i d (inr (omega arith)) ∙ get_or-set_other xs at i y d (omega arith)

  pub sets_inside : (xs : List A) (at : ℕ) (ys : List A) (i j : ℕ) (d : A) → at + j ≡ i → j < length ys → i < length xs
      → get_or (sets xs at ys) i d ≡ get_or ys j d
  sets_inside xs at [] i j d e l h = absurd (omega arith)
  sets_inside xs at (y ∷ ys) i zero d e l h =
      let f : at ≡ i = omega arith in
      rw f (sets_outside (set xs i y) (suc i) ys i d (inl (omega arith)) ∙ get_or-set_same xs i y d h)
  sets_inside xs at (y ∷ ys) i (suc j) d e l h = sets_inside (set xs at y) (suc at) ys i j d (omega arith) (omega arith) (rw length-set h)

  -- a store inside a list that was stored may as well be made in that list: one word, and several
  pub set_inside : (xs : List A) (at : ℕ) (ys : List A) (i : ℕ) (v : A) → i < length ys
      → set (sets xs at ys) (at + i) v ≡ sets xs at (set ys i v)
  set_inside xs at [] i v l = absurd (omega arith)
  set_inside xs at (y ∷ ys) zero v l =
      let h : at < suc at = omega arith in
      rw (add-zero, set-sets (set xs at y) (suc at) ys at v h, set-set)
  set_inside xs at (y ∷ ys) (suc i) v l = rw (add-suc, ← (suc-add at i)) (set_inside (set xs at y) (suc at) ys i v (omega arith))

  pub sets-sets : (xs : List A) (at : ℕ) (ys : List A) (i : ℕ) (zs : List A) → i + length zs ≤ length ys
      → sets (sets xs at ys) (at + i) zs ≡ sets xs at (sets ys i zs)
  sets-sets xs at ys i [] l = refl
  sets-sets xs at ys i (z ∷ zs) l =
      let h : i < length ys = omega arith in
      rw (set_inside xs at ys i z h, ← add-suc) (sets-sets xs at (set ys i z) (suc i) zs (rw length-set (omega arith)))

  -- a list stored over all of another
  pub sets_all : (xs ys : List A) → length xs ≡ length ys → sets xs 0 ys ≡ ys
  sets_all xs ys e =
      let past : length xs ≤ 0 + length ys = omega arith in
      rw (sets-eq ys xs 0 (omega arith), drop_of_length-le xs past, append-nil ys)

-- n words xs are stored from `at` on where each word of ys says so
pub stored : (w ys : List ℕ) (at n : ℕ) (xs : List ℕ) → length xs ≡ n → at + n ≤ length w → length ys ≡ length w
    → ((k : ℕ) → at ≤ k → k < at + n → get_or ys k 0 ≡ get_or xs (k - at) 0)
    → ((k : ℕ) → (k < at) ⊎ (at + n ≤ k) → get_or ys k 0 ≡ get_or w k 0) → ys ≡ sets w at xs
stored w ys at n xs e h l inside outside =
    same_number_lists ys (sets w at xs) (rw length-sets l)
    (λ k b. grind (arith, sets_inside w at xs k (k - at) 0, sets_outside, inside, outside))

-- ---- runs

pub run_length : (xs : List ℕ) (from n : ℕ) → from + n ≤ length xs → length (run xs from n) ≡ n
unfolding run
run_length xs from n h = length-take-le n (drop from xs) (rw length-drop (omega arith))

pub run-get_or : (xs : List ℕ) (from n i : ℕ) → i < n → get_or (run xs from n) i 0 ≡ get_or xs (from + i) 0
unfolding run
run-get_or xs from n i h = rw (get_or-take, get_or-drop)

-- one word more, at either end
pub run-snoc : (xs : List ℕ) (from n : ℕ) → from + n < length xs → run xs from (suc n) ≡ run xs from n ++ (get_or xs (from + n) 0 ∷ [])
unfolding run
run-snoc xs from n h = rw (← (get_or-drop from xs n 0)) (take-suc (drop from xs) n 0 (rw length-drop (omega arith)))

pub run-cons : (xs : List ℕ) (from n : ℕ) → from < length xs → run xs from (suc n) ≡ get_or xs from 0 ∷ run xs (suc from) n
unfolding run
run-cons xs from n h = rw (drop-cons xs from 0)

-- a run elsewhere than what was stored, and the run just stored
pub run_sets_outside : (xs : List ℕ) (at : ℕ) (ys : List ℕ) (from n : ℕ) → (from + n ≤ at) ⊎ (at + length ys ≤ from)
    → run (sets xs at ys) from n ≡ run xs from n
unfolding run
run_sets_outside xs at [] from n h = refl
run_sets_outside xs at (y ∷ ys) from n (inl h) =
    let e : from + (at - from) ≡ at = omega arith in
    let le : n ≤ at - from = omega arith in
    run_sets_outside (set xs at y) (suc at) ys from n (inl (omega arith)) ∙ rw (← e, drop-set-add, take-set-le)
run_sets_outside xs at (y ∷ ys) from n (inr h) =
    run_sets_outside (set xs at y) (suc at) ys from n (inr (omega arith)) ∙ ap (take n) (drop-set-lt from xs at y (omega arith))

pub run-sets : (xs : List ℕ) (at : ℕ) (ys : List ℕ) (n : ℕ) → length ys ≡ n → at + n ≤ length xs → run (sets xs at ys) at n ≡ ys
unfolding run
run-sets xs at ys n e h =
    let rest : List ℕ = drop (at + length ys) xs in
    rw (sets-eq ys xs at (omega arith), append_assoc, drop_at (take at xs) (ys ++ rest) at (length-take-le at xs (omega arith)))
    (take_at ys rest n e)

-- a run stored where it was read, and a run of a run
pub sets-run : (xs : List ℕ) (at n : ℕ) → at + n ≤ length xs → sets xs at (run xs at n) ≡ xs
unfolding run
sets-run xs at zero h = refl
sets-run xs at (suc n) h = rw (run-cons xs at n (omega arith), set-get_or xs at 0, sets) (sets-run xs (suc at) n (omega arith))

pub run-run : (xs : List ℕ) (from n i m : ℕ) → i + m ≤ n → run (run xs from n) i m ≡ run xs (from + i) m
unfolding run
run-run xs from n i m h = rw (← drop-drop) (go (drop from xs) n i h)
  where
    go : (l : List ℕ) (n i : ℕ) → i + m ≤ n → take m (drop i (take n l)) ≡ take m (drop i l)
    go l n zero h = take-take m n l (omega arith)
    go l zero (suc i) h = absurd (omega arith)
    go [] (suc n) (suc i) h = refl
    go (x ∷ l) (suc n) (suc i) h = go l n i (omega arith)

-- ---- a part that is lent

-- n words lent from `at` on that have come back as ys
pub part_put : (w : List ℕ) (at n : ℕ) (ys : List ℕ) → at + n ≤ length w → length ys ≡ n → put_mid at n w ys ≡ sets w at ys
part_put w at n ys h l = rw (sets-eq ys w at (omega arith), append_assoc, ← l, drop-drop (length ys) at w)

-- the list then: its length, and one word of it, inside the part and elsewhere
pub part_length : (w : List ℕ) (i m : ℕ) (part : List ℕ) → i + m ≤ length w → length part ≡ m → length (put_mid i m w part) ≡ length w
part_length w i m part h l = rw (part_put w i m part h l) (length-sets w i part)

pub part_inside : (w : List ℕ) (i m : ℕ) (part : List ℕ) (k : ℕ) → i + m ≤ length w → length part ≡ m → i ≤ k → k < i + m
    → get_or (put_mid i m w part) k 0 ≡ get_or part (k - i) 0
part_inside w i m part k h l low high =
    rw (part_put w i m part h l) (sets_inside w i part k (k - i) 0 (omega arith) (omega arith) (omega arith))

pub part_outside : (w : List ℕ) (i m : ℕ) (part : List ℕ) (k : ℕ) → i + m ≤ length w → length part ≡ m → (k < i) ⊎ (i + m ≤ k)
    → get_or (put_mid i m w part) k 0 ≡ get_or w k 0
part_outside w i m part k h l (inl o) = rw (part_put w i m part h l) (sets_outside w i part k 0 (inl o))
part_outside w i m part k h l (inr o) = rw (part_put w i m part h l) (sets_outside w i part k 0 (inr (omega arith)))

-- For `grind`: the length, and what one word is, after a part has come back.
pub ruleset parts = (part_length, part_inside, part_outside, length-take, length-drop)
