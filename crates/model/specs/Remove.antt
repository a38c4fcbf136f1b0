-- Removal (01, modules 6 and 7): before it goes into a child of 15 elements, that child borrows from a sibling or merges with one.
-- A node that is freed goes to the front of the free list.
use Rattle.std.specs.Prelude.{List, [], ◌∷◌, ◌++◌, Bool, true, false, ℕ, zero, suc, ◌+◌, ◌-◌, leb, ltb, length, take, drop, get_or, set}
use Rattle.lists.specs.Lists.{remove_at, last, but_last}
use Rattle.model.specs.declared.Repair.{Repair}
use Rattle.model.specs.declared.Repair.TheVariants.{Nothing, FromLeft, FromRight, WithLeft, WithRight}
use Rattle.model.specs.declared.Way.{Way}
use Rattle.model.specs.declared.Way.TheVariants.{Inside, ByLast, ByFirst, ByMerge}
use Rattle.model.specs.Tree.{Node, Tree, kid, size, find_in, find, before, at_separator, with_kid, with_elem, bare, rooted, Bag}

-- no element to spare
unfoldable pub is_thin : (h : ℕ) → Tree h → Bool
is_thin h t = leb (length t.elems) 15

-- ---- merge: children c and c + 1 and the separator between them become one child; the right node is freed

abbrev pub joined : {A : Type 0} → Node A → ℕ → Node A → Node A
joined a e b = record { id = a.id; elems = a.elems ++ (e ∷ b.elems); kids = a.kids ++ b.kids }

unfoldable pub merge : (h : ℕ) → Tree (suc h) → ℕ → Tree (suc h)
unfolding remove_at
merge h t c =
    record {
      id = t.id;
      elems = remove_at t.elems c;
      kids = take c t.kids ++ (joined (kid h t c) (get_or t.elems c 0) (kid h t (c + 1)) ∷ drop (c + 2) t.kids);
    }

-- ---- borrow: an element goes up from one of two neighbours, the separator goes down to the other, and an end child goes along

-- children c and c + 1 and the separator between them give way to others
abbrev pub with_pair : (h : ℕ) → Tree (suc h) → ℕ → Tree h → ℕ → Tree h → Tree (suc h)
with_pair h t c a e b =
    record { id = t.id; elems = set t.elems c e; kids = take c t.kids ++ (a ∷ (b ∷ drop (c + 2) t.kids)) }

abbrev pub gave_last : {A : Type 0} → Node A → Node A
gave_last a = record { id = a.id; elems = but_last a.elems; kids = but_last a.kids }

abbrev pub took_front : {A : Type 0} → Node A → ℕ → Node A → Node A
took_front a e b = record { id = b.id; elems = e ∷ b.elems; kids = drop (length a.kids - 1) a.kids ++ b.kids }

abbrev pub gave_first : {A : Type 0} → Node A → Node A
gave_first b = record { id = b.id; elems = drop 1 b.elems; kids = drop 1 b.kids }

abbrev pub took_back : {A : Type 0} → Node A → ℕ → Node A → Node A
took_back a e b = record { id = a.id; elems = a.elems ++ (e ∷ []); kids = a.kids ++ take 1 b.kids }

-- child c + 1 borrows from child c
unfoldable pub borrow_left : (h : ℕ) → Tree (suc h) → ℕ → Tree (suc h)
unfolding last but_last
borrow_left h t c =
    let a = kid h t c in
    with_pair h t c (gave_last a) (last a.elems 0) (took_front a (get_or t.elems c 0) (kid h t (c + 1)))

-- child c borrows from child c + 1
unfoldable pub borrow_right : (h : ℕ) → Tree (suc h) → ℕ → Tree (suc h)
borrow_right h t c =
    let b = kid h t (c + 1) in
    with_pair h t c (took_back (kid h t c) (get_or t.elems c 0) b) (get_or b.elems 0 0) (gave_first b)

-- ---- the choice: borrow from the left, else from the right, else merge with the left, or with the right if there is no left

-- by whether the child is thin, has a left sibling, that one is thin, has a right sibling, and that one is thin
abbrev pub choose : Bool → Bool → Bool → Bool → Bool → Repair
choose false left leftThin right rightThin = Nothing
choose true true false right rightThin = FromLeft
choose true true true true false = FromRight
choose true true true true true = WithLeft
choose true true true false rightThin = WithLeft
choose true false leftThin true false = FromRight
choose true false leftThin true true = WithRight
choose true false leftThin false rightThin = WithRight

unfoldable pub repair_for : (h : ℕ) → Tree (suc h) → ℕ → Repair
unfolding is_thin
repair_for h t c =
    choose (is_thin h (kid h t c)) (ltb 0 c) (is_thin h (kid h t (c - 1))) (ltb (c + 1) (length t.kids)) (is_thin h (kid h t (c + 1)))

-- a node, the child that the removal goes into, and the free nodes
pub record Filled (h : ℕ) : Type 0 where
  pub node : Tree (suc h)
  pub child : ℕ
  pub free : List ℕ

unfoldable pub repaired : (h : ℕ) → Repair → Tree (suc h) → ℕ → List ℕ → Filled h
unfolding merge borrow_left borrow_right
repaired h Nothing t c f = record { node = t; child = c; free = f }
repaired h FromLeft t c f = record { node = borrow_left h t (c - 1); child = c; free = f }
repaired h FromRight t c f = record { node = borrow_right h t c; child = c; free = f }
repaired h WithLeft t c f = record { node = merge h t (c - 1); child = c - 1; free = (kid h t c).id ∷ f }
repaired h WithRight t c f = record { node = merge h t c; child = c; free = (kid h t (c + 1)).id ∷ f }

-- child c brought to 16 elements or more
unfoldable pub fill : (h : ℕ) → Tree (suc h) → ℕ → List ℕ → Filled h
unfolding repair_for repaired
fill h t c f = repaired h (repair_for h t c) t c f

-- ---- removal below a node

pub record Shrunk (A : Type 0) : Type 0 where
  pub tree : A
  pub old : ℕ
  pub free : List ℕ

-- by whether the index is at a separator, the child before that is thin, and the child after it is thin
abbrev pub choose_way : Bool → Bool → Bool → Way
choose_way false leftThin rightThin = Inside
choose_way true false rightThin = ByLast
choose_way true true false = ByFirst
choose_way true true true = ByMerge

unfoldable pub way_for : (h : ℕ) → Tree (suc h) → ℕ → Way
unfolding is_thin find_in size
way_for h t i =
    let c = (find h t i).child in
    choose_way (at_separator h t i) (is_thin h (kid h t c)) (is_thin h (kid h t (c + 1)))

-- child c after a removal below it
abbrev pub back : (h : ℕ) → Tree (suc h) → ℕ → Shrunk (Tree h) → Shrunk (Tree (suc h))
back h t c r = record { tree = with_kid h t c r.tree; old = r.old; free = r.free }

-- the same for child d, where what was removed takes the place of separator c
abbrev pub swapped : (h : ℕ) → Tree (suc h) → ℕ → ℕ → Shrunk (Tree h) → Shrunk (Tree (suc h))
swapped h t c d r =
    record { tree = with_elem (suc h) (with_kid h t d r.tree) c r.old; old = get_or t.elems c 0; free = r.free }

-- one level, at or in child c; `below` is the removal one level down
unfoldable pub remove_step : (h : ℕ) → (Tree h → ℕ → List ℕ → Shrunk (Tree h)) → Way
    → Tree (suc h) → ℕ → ℕ → List ℕ → Shrunk (Tree (suc h))
unfolding fill before size
remove_step h below Inside t c i f =
    let s = fill h t c f in
    let d = s.child in
    back h s.node d (below (kid h s.node d) (i - before h s.node d) s.free)
remove_step h below ByLast t c i f = swapped h t c c (below (kid h t c) (size h (kid h t c) - 1) f)
remove_step h below ByFirst t c i f = swapped h t c (c + 1) (below (kid h t (c + 1)) 0 f)
remove_step h below ByMerge t c i f =
    let s = merge h t c in
    back h s c (below (kid h s c) (i - before h s c) ((kid h t (c + 1)).id ∷ f))

unfoldable pub remove : (h : ℕ) → Tree h → ℕ → List ℕ → Shrunk (Tree h)
unfolding remove_step way_for
remove zero t i f =
    record { tree = record { id = t.id; elems = remove_at t.elems i; kids = t.kids }; old = get_or t.elems i 0; free = f }
remove (suc h) t i f = remove_step h (λ u j g. remove h u j g) (way_for h t i) t (find h t i).child i f

-- ---- removal at the root: one left without elements is freed, and its one child, if any, takes over

unfoldable pub lowered : (h : ℕ) → Tree h → List ℕ → Bag
lowered zero t f =
    elim t.elems [ [] ↦ record { root = bare; free = t.id ∷ f } | e ∷ es ↦ record { root = rooted 0 t; free = f } ]
lowered (suc h) t f =
    elim t.elems [
      | [] ↦ record { root = rooted h (kid h t 0); free = t.id ∷ f }
      | e ∷ es ↦ record { root = rooted (suc h) t; free = f }
    ]

pub record Removal : Type 0 where
  pub bag : Bag
  pub old : ℕ

unfoldable pub bag_remove : Bag → ℕ → Removal
unfolding remove lowered
bag_remove b i =
    elim b.root [
      | bare ↦ record { bag = b; old = 0 }
      | rooted h t ↦ (let r = remove h t i b.free in record { bag = lowered h r.tree r.free; old = r.old })
    ]
