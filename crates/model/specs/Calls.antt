-- What a call means on the bag that a sound pool holds: what it answers and leaves. The first refusal that applies decides, in 01's order.
use Rattle.std.specs.Prelude.{Bool, true, false, cond, Result, Ok, Err, ℕ, zero, suc, ◌+◌, ◌-◌, leb, ltb, length}
use Rattle.lists.specs.Lists.{same}
use Rattle.model.specs.declared.Answer.{Answer}
use Rattle.model.specs.declared.Walked.{Walked}
use Rattle.model.specs.declared.Found.{Found}
use Rattle.model.specs.declared.Refusal.{Refusal}
use Rattle.model.specs.declared.Refusal.TheVariants.{Unsound, PastTheEnd, NoRoom, Misfit}
use Rattle.model.specs.declared.Stretch.{Stretch}
use Rattle.model.specs.Tree.{Tree, kid, size, find_in, find, at_separator, Bag, list_of, bag_get, bag_replace}
use Rattle.model.specs.Insert.{bag_insert, needed}
use Rattle.model.specs.Remove.{bag_remove}

-- an answer in figures, and a walk's
abbrev pub answer : ℕ → ℕ → ℕ → Answer
answer n v c = record { number = n; value = v; compared = c }

abbrev pub walked : ℕ → ℕ → ℕ → Walked
walked n x p = record { number = n; element = x; position = p }

abbrev pub refused : ℕ → Answer
refused n = answer n 0 0

abbrev pub gives : ℕ → Answer
gives v = answer 0 v 0

-- ---- what C is told of an outcome

abbrev pub number_of : Refusal → ℕ
number_of Unsound = 1
number_of PastTheEnd = 2
number_of NoRoom = 3
number_of Misfit = 4

abbrev pub refusal : Refusal → Answer
refusal why = refused (number_of why)

-- what is given: nothing, yes or no, or what a lookup found
abbrev pub done : Unit {0} → Answer
done nothing = gives 0

abbrev pub whether : Bool → Answer
whether b = gives (cond b 1 0)

abbrev pub found : Found → Answer
found f = answer 0 f.element f.compared

abbrev pub told : {A : Type 0} → (A → Answer) → Result A Refusal → Answer
told give (Ok x) = give x
told give (Err why) = refusal why

abbrev pub length_of : Bag → ℕ
length_of b = length (list_of b.root)

-- ---- calls that edit

pub record Outcome : Type 0 where
  pub answer : Answer
  pub bag : Bag

abbrev pub outcome : Answer → Bag → Outcome
outcome a b = record { answer = a; bag = b }

-- a refusal leaves the bag; else the rest
abbrev pub refuse : Bool → ℕ → Bag → Outcome → Outcome
refuse true n b rest = outcome (refused n) b
refuse false n b rest = rest

unfoldable pub insert_call : ℕ → ℕ → Bag → Outcome
unfolding bag_insert needed list_of
insert_call i x b =
    refuse (ltb (length_of b) i) 2 b
    (refuse (ltb (length b.free) (needed b.root i)) 3 b
    (outcome (gives 0) (bag_insert b i x)))

unfoldable pub push_call : ℕ → Bag → Outcome
unfolding insert_call
push_call x b = insert_call (length_of b) x b

unfoldable pub replace_call : ℕ → ℕ → Bag → Outcome
unfolding bag_get bag_replace list_of
replace_call i x b =
    refuse (leb (length_of b) i) 2 b
    (outcome (gives (bag_get b i).element) (bag_replace b i x))

unfoldable pub remove_call : ℕ → Bag → Outcome
unfolding bag_remove list_of
remove_call i b =
    refuse (leb (length_of b) i) 2 b
    (outcome (gives (bag_remove b i).old) (bag_remove b i).bag)

-- ---- calls that read

abbrev pub check_call : Bag → Answer
check_call b = gives 0

unfoldable pub len_call : Bag → Answer
unfolding list_of
len_call b = gives (length_of b)

unfoldable pub get_call : ℕ → Bag → Answer
unfolding bag_get list_of
get_call i b =
    let r = bag_get b i in
    cond (leb (length_of b) i) (refused 2) (answer 0 r.element r.compared)

-- a walk at a position: m elements are passed, and the place after the one given is the next; none is given at or past the end
unfoldable pub skip_call : ℕ → ℕ → Bag → Walked
unfolding bag_get list_of
skip_call p m b =
    cond (leb (length_of b - p) m) (walked 2 0 (length_of b)) (walked 0 (bag_get b (p + m)).element (p + m + 1))

-- a refused walk keeps its position
abbrev pub stays : ℕ → ℕ → Walked
stays p n = walked n 0 p

unfoldable pub equal_call : Bag → Bag → Answer
unfolding same list_of
equal_call a b = gives (cond (same (list_of a.root) (list_of b.root)) 1 0)

-- ---- the window: element i and those after it in the same leaf, or an inner node's by itself

unfoldable pub stretch : (h : ℕ) → Tree h → ℕ → Stretch
unfolding find_in size
stretch zero t i = record { node = t.id; slot = i; count = length t.elems - i }
stretch (suc h) t i =
    let p = find h t i in
    let r = stretch h (kid h t p.child) p.sub in
    elim (at_separator h t i) [ true ↦ record { node = t.id; slot = p.child; count = 1 } | false ↦ r ]
