-- What a call is on a bag, case by case, with its answer in figures; that a refusal gives zeros and keeps the bag; and which numbers a
-- call can answer.
use mathlib.Core.Path.{◌≡◌, refl, ap}
use mathlib.Core.Bool.{Bool, true, false}
use mathlib.Core.List.{List, [], ◌∷◌}
use mathlib.Core.Logic.{inl, inr}
use Prim.Native.Nat.{ℕ, ◌+◌, ◌-◌, ◌≤◌, ◌<◌}
use native.Mathlib.Decide.{dec_lt}
use native.Mathlib.Omega.{arith}
use borrow.Author.Tests.{le-leb, lt-leb, lt-ltb, le-ltb}
use lib.Dec.{leb, ltb}
use lib.ListN.{length}
use Rattle.lists.proofs.OneOf.{OneOf}
use Rattle.lists.proofs.Same.{same_self, same_other}
use Rattle.model.specs.declared.Answer.{Answer}
use Rattle.model.specs.declared.Walked.{Walked}
use Rattle.model.specs.Tree.{Bag, list_of, bag_get, bag_replace}
use Rattle.model.specs.Insert.{needed, bag_insert}
use Rattle.model.specs.Remove.{bag_remove}
use Rattle.model.specs.Calls.{answer, walked, length_of, Outcome, outcome, refuse, insert_call, push_call, replace_call, remove_call}
use Rattle.model.specs.Calls.{check_call, len_call, get_call, skip_call, equal_call}

-- ---- case by case

module _ (b : Bag) (i x : ℕ) where
  pub insert_beyond : length_of b < i → insert_call i x b ≡ outcome (answer 2 0 0) b
  unfolding insert_call
  insert_beyond l = rw (lt-ltb (length_of b) i l)

  pub insert_full : i ≤ length_of b → length b.free < needed b.root i → insert_call i x b ≡ outcome (answer 3 0 0) b
  unfolding insert_call
  insert_full l n = rw (le-ltb (length_of b) i l, lt-ltb (length b.free) (needed b.root i) n)

  pub insert-done : i ≤ length_of b → needed b.root i ≤ length b.free → insert_call i x b ≡ outcome (answer 0 0 0) (bag_insert b i x)
  unfolding insert_call
  insert-done l n = rw (le-ltb (length_of b) i l, le-ltb (length b.free) (needed b.root i) n)

  pub replace_beyond : length_of b ≤ i → replace_call i x b ≡ outcome (answer 2 0 0) b
  unfolding replace_call
  replace_beyond l = rw (le-leb (length_of b) i l)

  pub replace-done : i < length_of b → replace_call i x b ≡ outcome (answer 0 (bag_get b i).element 0) (bag_replace b i x)
  unfolding replace_call
  replace-done l = rw (lt-leb (length_of b) i l)

-- a push is an insertion at the end
pub push_at_end : (x : ℕ) (b : Bag) → push_call x b ≡ insert_call (length_of b) x b
unfolding push_call
push_at_end x b = refl

module _ (b : Bag) (i : ℕ) where
  pub remove_beyond : length_of b ≤ i → remove_call i b ≡ outcome (answer 2 0 0) b
  unfolding remove_call
  remove_beyond l = rw (le-leb (length_of b) i l)

  pub remove-done : i < length_of b → remove_call i b ≡ outcome (answer 0 (bag_remove b i).old 0) (bag_remove b i).bag
  unfolding remove_call
  remove-done l = rw (lt-leb (length_of b) i l)

  pub get_beyond : length_of b ≤ i → get_call i b ≡ answer 2 0 0
  unfolding get_call
  get_beyond l = rw (le-leb (length_of b) i l)

  pub get-done : i < length_of b → get_call i b ≡ answer 0 (bag_get b i).element (bag_get b i).compared
  unfolding get_call
  get-done l = rw (lt-leb (length_of b) i l)

module _ (b : Bag) (p m : ℕ) where
  pub skip_beyond : length_of b - p ≤ m → skip_call p m b ≡ walked 2 0 (length_of b)
  unfolding skip_call
  skip_beyond l = rw (le-leb (length_of b - p) m l)

  pub skip-done : m < length_of b - p → skip_call p m b ≡ walked 0 (bag_get b (p + m)).element (p + m + 1)
  unfolding skip_call
  skip-done l = rw (lt-leb (length_of b - p) m l)

pub check_done : (b : Bag) → check_call b ≡ answer 0 0 0
check_done b = refl

pub len-done : (b : Bag) → len_call b ≡ answer 0 (length_of b) 0
unfolding len_call
len-done b = refl

module _ (a b : Bag) where
  pub equal-same : list_of a.root ≡ list_of b.root → equal_call a b ≡ answer 0 1 0
  unfolding equal_call
  equal-same e = rw (e, same_self)

  pub equal_differ : (list_of a.root ≡ list_of b.root → ⊥) → equal_call a b ≡ answer 0 0 0
  unfolding equal_call
  equal_differ n = rw (same_other (list_of a.root) (list_of b.root) n)

-- ---- a refusal gives zeros and keeps the bag

abbrev Kept : Bag → Outcome → Type 0
Kept b o = (o.answer.number ≡ 0 → ⊥) → o ≡ outcome (answer o.answer.number 0 0) b

abbrev pub Keeps : (Bag → Outcome) → Type 0
Keeps call = (b : Bag) → Kept b (call b)

refuse_keeps : (t : Bool) (n : ℕ) (b : Bag) (o : Outcome) → Kept b o → Kept b (refuse t n b o)
refuse_keeps true n b o k z = refl
refuse_keeps false n b o k z = k z

pub insert_keeps : (i x : ℕ) → Keeps (insert_call i x)
unfolding insert_call
insert_keeps i x b =
    refuse_keeps (ltb (length_of b) i) 2 b _
    (refuse_keeps (ltb (length b.free) (needed b.root i)) 3 b (outcome (answer 0 0 0) (bag_insert b i x)) (λ z. absurd (z refl)))

pub push_keeps : (x : ℕ) → Keeps (push_call x)
push_keeps x b = rw (push_at_end x b) (insert_keeps (length_of b) x b)

pub replace_keeps : (i x : ℕ) → Keeps (replace_call i x)
unfolding replace_call
replace_keeps i x b =
    refuse_keeps (leb (length_of b) i) 2 b (outcome (answer 0 (bag_get b i).element 0) (bag_replace b i x)) (λ z. absurd (z refl))

pub remove_keeps : (i : ℕ) → Keeps (remove_call i)
unfolding remove_call
remove_keeps i b =
    refuse_keeps (leb (length_of b) i) 2 b (outcome (answer 0 (bag_remove b i).old 0) (bag_remove b i).bag) (λ z. absurd (z refl))

-- a call that reads gives zeros where it refuses; a walk gives no element
abbrev pub Zeros : (Bag → Answer) → Type 0
Zeros ask = (b : Bag) → ((ask b).number ≡ 0 → ⊥) → ask b ≡ answer (ask b).number 0 0

pub check-zeros : Zeros check_call
check-zeros b z = absurd (z refl)

pub len-zeros : Zeros len_call
unfolding len_call
len-zeros b z = absurd (z refl)

pub get-zeros : (i : ℕ) → Zeros (get_call i)
get-zeros i b z =
    elim (dec_lt i (length_of b)) [
      | yes l ↦ absurd (z (ap (λ (a : Answer). a.number) (get-done b i l)))
      | no l ↦ rw (get_beyond b i (omega arith))
    ]

pub equal-zeros : (a : Bag) → Zeros (equal_call a)
unfolding equal_call
equal-zeros a b z = absurd (z refl)

pub skip-zeros : (p m : ℕ) (b : Bag) → ((skip_call p m b).number ≡ 0 → ⊥) → skip_call p m b ≡ walked 2 0 (length_of b)
skip-zeros p m b z =
    elim (dec_lt m (length_of b - p)) [
      | yes l ↦ absurd (z (ap (λ (r : Walked). r.number) (skip-done b p m l)))
      | no l ↦ skip_beyond b p m (omega arith)
    ]

-- ---- which numbers a call can answer, the refusals in the order in which they are tried

refuse_numbers : (t : Bool) (n : ℕ) (b : Bag) (o : Outcome) (ns : List ℕ) → OneOf ns o.answer.number
    → OneOf (n ∷ ns) (refuse t n b o).answer.number
refuse_numbers true n b o ns e = inl refl
refuse_numbers false n b o ns e = inr e

pub insert_numbers : (i x : ℕ) (b : Bag) → OneOf (2 ∷ 3 ∷ 0 ∷ []) (insert_call i x b).answer.number
unfolding insert_call
insert_numbers i x b =
    refuse_numbers (ltb (length_of b) i) 2 b _ (3 ∷ 0 ∷ [])
    (refuse_numbers (ltb (length b.free) (needed b.root i)) 3 b _ (0 ∷ []) (inl refl))

pub push_numbers : (x : ℕ) (b : Bag) → OneOf (3 ∷ 0 ∷ []) (push_call x b).answer.number
unfolding push_call insert_call
push_numbers x b =
    rw (le-ltb (length_of b) (length_of b) (omega arith))
    (refuse_numbers (ltb (length b.free) (needed b.root (length_of b))) 3 b (outcome (answer 0 0 0) (bag_insert b (length_of b) x)) (0 ∷ []) (inl refl))

pub replace_numbers : (i x : ℕ) (b : Bag) → OneOf (2 ∷ 0 ∷ []) (replace_call i x b).answer.number
unfolding replace_call
replace_numbers i x b = refuse_numbers (leb (length_of b) i) 2 b _ (0 ∷ []) (inl refl)

pub remove_numbers : (i : ℕ) (b : Bag) → OneOf (2 ∷ 0 ∷ []) (remove_call i b).answer.number
unfolding remove_call
remove_numbers i b = refuse_numbers (leb (length_of b) i) 2 b _ (0 ∷ []) (inl refl)

pub get_numbers : (i : ℕ) (b : Bag) → OneOf (2 ∷ 0 ∷ []) (get_call i b).number
get_numbers i b =
    elim (dec_lt i (length_of b)) [ yes l ↦ rw (get-done b i l) (inr (inl refl)) | no l ↦ rw (get_beyond b i (omega arith)) (inl refl) ]

pub skip_numbers : (p m : ℕ) (b : Bag) → OneOf (2 ∷ 0 ∷ []) (skip_call p m b).number
skip_numbers p m b =
    elim (dec_lt m (length_of b - p)) [
      | yes l ↦ rw (skip-done b p m l) (inr (inl refl))
      | no l ↦ rw (skip_beyond b p m (omega arith)) (inl refl)
    ]

pub check_numbers : (b : Bag) → OneOf (0 ∷ []) (check_call b).number
check_numbers b = inl refl

pub len_numbers : (b : Bag) → OneOf (0 ∷ []) (len_call b).number
unfolding len_call
len_numbers b = inl refl

pub equal_numbers : (a b : Bag) → OneOf (0 ∷ []) (equal_call a b).number
unfolding equal_call
equal_numbers a b = inl refl
