-- Insertion (01, modules 1, 3 and 4): full nodes are split on the way down, and the nodes taken come off the front of the free list.
use Rattle.std.specs.Prelude.{List, [], ◌∷◌, ◌++◌, Bool, true, false, cond, ℕ, zero, suc, ◌+◌, leb, length, take, drop, get_or}
use Rattle.lists.specs.Lists.{insert_at}
use Rattle.model.specs.Tree.{Node, Tree, kid, size, find_in, find, with_kid, Root, bare, rooted, Bag}

-- the source's `is_full`
unfoldable pub is_full : (h : ℕ) → Tree h → Bool
is_full h t = leb 31 (length t.elems)

-- ---- split: the left half keeps 15 elements and 16 children, the 16th element goes up, the rest goes to the right sibling, node k

abbrev pub left_half : {A : Type 0} → Node A → Node A
left_half n = record { id = n.id; elems = take 15 n.elems; kids = take 16 n.kids }

abbrev pub right_half : {A : Type 0} → ℕ → Node A → Node A
right_half k n = record { id = k; elems = drop 16 n.elems; kids = drop 16 n.kids }

-- the source's `split_child`, of child c
unfoldable pub split_child : (h : ℕ) → Tree (suc h) → ℕ → ℕ → Tree (suc h)
unfolding insert_at
split_child h t c k =
    let full = kid h t c in
    record {
      id = t.id;
      elems = insert_at t.elems c (get_or full.elems 15 0);
      kids = take c t.kids ++ (left_half full ∷ (right_half k full ∷ drop (suc c) t.kids));
    }

-- ---- insertion below a node that is not full

-- a tree, and the nodes that are free beside it
pub record Grown (A : Type 0) : Type 0 where
  pub tree : A
  pub free : List ℕ

-- the source's `insert_into_non_full_node`
unfoldable pub insert_non_full : (h : ℕ) → Tree h → ℕ → ℕ → List ℕ → Grown (Tree h)
unfolding is_full split_child find_in size
insert_non_full zero t i x f = record { tree = record { id = t.id; elems = insert_at t.elems i x; kids = t.kids }; free = f }
insert_non_full (suc h) t i x f =
    let below : Tree (suc h) → List ℕ → Grown (Tree (suc h)) =
    (λ s g.
    let p = find h s i in
    let r = insert_non_full h (kid h s p.child) p.sub x g in
    record { tree = with_kid h s p.child r.tree; free = r.free }) in
    let c = (find h t i).child in
    elim (is_full h (kid h t c)) [
      | false ↦ below t f
      | true ↦ below (split_child h t c (get_or f 0 0)) (drop 1 f)
    ]

-- ---- the nodes needed: the full nodes on the path, and one more if the root is full; 1 for an empty list

unfoldable pub needed_below : (h : ℕ) → Tree h → ℕ → ℕ
unfolding is_full find_in size
needed_below zero t i = 0
needed_below (suc h) t i =
    let p = find h t i in
    cond (is_full h (kid h t p.child)) 1 0 + needed_below h (kid h t p.child) p.sub

unfoldable pub needed : Root → ℕ → ℕ
unfolding needed_below
needed bare i = 1
needed (rooted h t) i = cond (is_full h t) 2 0 + needed_below h t i

-- ---- insertion at the root

-- a full root goes under a new root, the first node taken, and is split, its sibling the second
abbrev pub above_root : (h : ℕ) → Tree h → List ℕ → Tree (suc h)
above_root h t f = split_child h (record { id = get_or f 0 0; elems = []; kids = t ∷ [] }) 0 (get_or f 1 0)

abbrev pub grown_bag : (h : ℕ) → Grown (Tree h) → Bag
grown_bag h g = record { root = rooted h g.tree; free = g.free }

-- the source's `insert`
unfoldable pub bag_insert : Bag → ℕ → ℕ → Bag
unfolding insert_non_full
bag_insert b i x =
    let f = b.free in
    elim b.root [
      | bare ↦ record { root = rooted 0 (record { id = get_or f 0 0; elems = x ∷ []; kids = [] }); free = drop 1 f }
      | rooted h t ↦ elim (is_full h t) [
        | false ↦ grown_bag h (insert_non_full h t i x f)
        | true ↦ grown_bag (suc h) (insert_non_full (suc h) (above_root h t f) i x (drop 2 f))
      ]
    ]
