-- The tree that a pool holds: each node with its id, its elements and its children. All leaves lie at one depth by the type.
-- With it the source's lookups: `find_child_index`, `get`, and `get_mut`, which is `replace` here (01, modules 1, 2 and 5).
use Rattle.std.specs.Prelude.{List, [], ◌∷◌, ◌++◌, map, Bool, true, false, cond, ℕ, zero, suc, ◌+◌, ◌-◌, eqb, leb, length, take, get_or, set}
use Rattle.lists.specs.Lists.{sum, count, concat, from}
use Rattle.model.specs.declared.Place.{Place}
use Rattle.model.specs.declared.Found.{Found}

pub record Node (A : Type 0) : Type 0 where
  pub id : ℕ
  pub elems : List ℕ
  pub kids : List A

-- what a node's children are with h levels of inner nodes above the leaves; a leaf can have none
abbrev pub Below : ℕ → Type 0
Below zero = ⊥
Below (suc h) = Node (Below h)

abbrev pub Tree : ℕ → Type 0
Tree h = Node (Below h)

-- no node: what stands past the end of a list of children
abbrev pub none : (h : ℕ) → Tree h
none h = record { id = 0; elems = []; kids = [] }

abbrev pub kid : (h : ℕ) → Tree (suc h) → ℕ → Tree h
kid h t c = get_or t.kids c (none h)

-- ---- what a tree holds

-- the elements in the whole subtree
unfoldable pub size : (h : ℕ) → Tree h → ℕ
unfolding sum
size zero t = length t.elems
size (suc h) t = length t.elems + sum (map (size h) t.kids)

-- the nodes in use
unfoldable pub ids : (h : ℕ) → Tree h → List ℕ
unfolding concat
ids zero t = t.id ∷ []
ids (suc h) t = t.id ∷ concat (map (ids h) t.kids)

-- the children's lists with the separators between them
unfoldable pub weave : List (List ℕ) → List ℕ → List ℕ
weave [] es = []
weave (c ∷ cs) [] = c
weave (c ∷ cs) (e ∷ es) = c ++ (e ∷ weave cs es)

-- the list of samples
unfoldable pub flat : (h : ℕ) → Tree h → List ℕ
unfolding weave
flat zero t = t.elems
flat (suc h) t = weave (map (flat h) t.kids) t.elems

-- ---- finding the child

-- among children of these sizes: the first whose end, counted with the separators before it, is at least the index;
-- compared are the children up to and including it
unfoldable pub find_in : List ℕ → ℕ → Place
find_in [] i = record { child = 0; sub = i; compared = 0 }
find_in (n ∷ ns) i =
    let p = find_in ns (i - (n + 1)) in
    cond (leb i n)
    (record { child = 0; sub = i; compared = 1 })
    (record { child = suc p.child; sub = p.sub; compared = suc p.compared })

abbrev pub find : (h : ℕ) → Tree (suc h) → ℕ → Place
find h t i = find_in (map (size h) t.kids) i

-- the elements before child c
unfoldable pub before : (h : ℕ) → Tree (suc h) → ℕ → ℕ
before h t c = sum (map (size h) (take c t.kids)) + c

-- an index at its child's very end is that of the separator after the child
abbrev pub at_separator : (h : ℕ) → Tree (suc h) → ℕ → Bool
at_separator h t i = eqb (find h t i).sub (size h (kid h t (find h t i).child))

-- ---- get and replace

unfoldable pub get : (h : ℕ) → Tree h → ℕ → Found
unfolding find_in size
get zero t i = record { element = get_or t.elems i 0; compared = 0 }
get (suc h) t i =
    let p = find h t i in
    let r = get h (kid h t p.child) p.sub in
    elim (at_separator h t i) [
      | true ↦ record { element = get_or t.elems p.child 0; compared = p.compared }
      | false ↦ record { element = r.element; compared = p.compared + r.compared }
    ]

abbrev pub with_kid : (h : ℕ) → Tree (suc h) → ℕ → Tree h → Tree (suc h)
with_kid h t c k = record { id = t.id; elems = t.elems; kids = set t.kids c k }

abbrev pub with_elem : (h : ℕ) → Tree h → ℕ → ℕ → Tree h
with_elem h t c x = record { id = t.id; elems = set t.elems c x; kids = t.kids }

unfoldable pub replace : (h : ℕ) → Tree h → ℕ → ℕ → Tree h
unfolding find_in size
replace zero t i x = with_elem zero t i x
replace (suc h) t i x =
    let p = find h t i in
    let k = replace h (kid h t p.child) p.sub x in
    elim (at_separator h t i) [ true ↦ with_elem (suc h) t p.child x | false ↦ with_kid h t p.child k ]

-- ---- a bag: a list's root, if it has one, and the nodes that are free, first to be taken first

pub data Root : Type 0 where
  bare : Root
  rooted : (h : ℕ) → Tree h → Root

pub record Bag : Type 0 where
  pub root : Root
  pub free : List ℕ

-- what formatting makes of p nodes: an empty list, and the chain 1, 2, .. p
unfoldable pub empty : ℕ → Bag
unfolding from
empty p = record { root = bare; free = from 1 p }

unfoldable pub list_of : Root → List ℕ
unfolding flat
list_of bare = []
list_of (rooted h t) = flat h t

unfoldable pub root_ids : Root → List ℕ
unfolding ids
root_ids bare = []
root_ids (rooted h t) = ids h t

-- its inner levels
unfoldable pub levels_of : Root → ℕ
levels_of bare = 0
levels_of (rooted h t) = h

-- how often node k is met, from the root and among the free nodes
abbrev pub met : ℕ → Bag → ℕ
met k b = count k (root_ids b.root) + count k b.free

unfoldable pub bag_get : Bag → ℕ → Found
unfolding get
bag_get b i = elim b.root [ bare ↦ record { element = 0; compared = 0 } | rooted h t ↦ get h t i ]

unfoldable pub bag_replace : Bag → ℕ → ℕ → Bag
unfolding replace
bag_replace b i x = elim b.root [ bare ↦ b | rooted h t ↦ record { root = rooted h (replace h t i x); free = b.free } ]
