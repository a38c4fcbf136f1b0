-- What the functions on the words of nodes ask and leave. An element and a child that go from place to place together are a piece.
use Rattle.std.specs.Prelude.{◌≡◌, List, [], ◌∷◌, ◌≢◌, ℕ, zero, suc, ◌+◌, ◌-◌, ◌^◌, ◌≤◌, ◌<◌, length, get_or, set}
use Rattle.lists.specs.Lists.{insert_at, remove_at}
use Rattle.pool.specs.Layout.{chain_word, node_block, with_block}
use Rattle.pool.specs.Parts.{Inside, Stored, length_at}
use Rattle.pool.specs.Frame.{Untouched}
use Rattle.tree.specs.Node.{Node}
use Rattle.tree.specs.Lookup.{HasElement}
use Rattle.pieces.specs.declared.Piece.{Piece}
use Rattle.pieces.specs.declared.Spot.{Spot}

-- a node with one child slot more than elements; in a leaf, where the first is 0, they all are
pub record Seated (w : List ℕ) (k : ℕ) : Type 0 where
  pub node : Node w k
  pub seats : length node.kids ≡ length node.elems + 1
  pub leaf : get_or node.kids 0 0 ≡ 0 → (c : ℕ) → c < length node.kids → get_or node.kids c 0 ≡ 0

-- the element and the child at a spot can be taken out of its node, and n elements of the subtree with them
pub record Takes (w : List ℕ) (from : Spot) (n : ℕ) : Type 0 where
  pub seated : Seated w from.node
  pub elem : from.elem < length seated.node.elems
  pub kid : from.kid ≤ length seated.node.elems
  pub less : n ≤ seated.node.size

pub record TookOut (w w' : List ℕ) (from : Spot) (n : ℕ) (m : Node w from.node) (r : Piece) : Type 0 where
  pub elem : r.elem ≡ get_or m.elems from.elem 0
  pub kid : r.kid ≡ get_or m.kids from.kid 0
  pub words : w' ≡ with_block w from.node (node_block (m.size - n) (remove_at m.elems from.elem) (remove_at m.kids from.kid))

-- a piece can be put into a node, at a spot
pub record Puts (w : List ℕ) (to : Spot) (n : ℕ) : Type 0 where
  pub seated : Seated w to.node
  pub elem : to.elem ≤ length seated.node.elems
  pub kid : to.kid ≤ length seated.node.elems + 1
  pub room : length seated.node.elems ≤ 30
  pub small : seated.node.size + n < 2 ^ 64

abbrev pub put_in : {w : List ℕ} {k : ℕ} → Node w k → ℕ → ℕ → ℕ → ℕ → ℕ → List ℕ
put_in m i j x y n = node_block (m.size + n) (insert_at m.elems i x) (insert_at m.kids j y)

-- all of node r can go behind node l's own
pub record Joins (w : List ℕ) (l r : ℕ) : Type 0 where
  pub left : Seated w l
  pub right : Seated w r
  pub apart : l ≢ r
  pub room : length left.node.elems + length right.node.elems ≤ 30
  pub small : left.node.size + right.node.size < 2 ^ 32

-- the elements below a child, none where there is no child
unfoldable pub length_or : List ℕ → ℕ → ℕ
length_or w zero = 0
length_or w (suc k) = length_at w (suc k)

-- child slot j of node k holds 0 or a node
pub record HasSlot (w : List ℕ) (k j : ℕ) : Type 0 where
  pub seated : Seated w k
  pub place : j ≤ length seated.node.elems
  pub inside : get_or seated.node.kids j 0 ≢ 0 → Inside w (get_or seated.node.kids j 0)

-- a piece can go from a spot in one node into the place of separator c of node id, and what stood there to a spot in another;
-- a piece without a child goes into a leaf
pub record Lends (w : List ℕ) (id c : ℕ) (from to : Spot) : Type 0 where
  pub parent : HasElement w id c
  pub lender : HasSlot w from.node from.kid
  pub taker : Seated w to.node
  pub from_below : from.node ≢ id
  pub to_below : to.node ≢ id
  pub apart : from.node ≢ to.node
  pub elem : from.elem < length lender.seated.node.elems
  pub less : length_or w (get_or lender.seated.node.kids from.kid 0) < lender.seated.node.size
  pub new_elem : to.elem ≤ length taker.node.elems
  pub new_kid : to.kid ≤ length taker.node.elems + 1
  pub alike : get_or lender.seated.node.kids from.kid 0 ≡ 0 → get_or taker.node.kids 0 0 ≡ 0
  pub room : length taker.node.elems ≤ 30
  pub small : taker.node.size + length_or w (get_or lender.seated.node.kids from.kid 0) < 2 ^ 32

pub record Lent (w w' : List ℕ) (id c : ℕ) (from to : Spot) (a : Node w from.node) (e : Node w id) (b : Node w to.node) : Type 0 where
  pub lender : Stored w' from.node
      (node_block (a.size - (length_or w (get_or a.kids from.kid 0) + 1)) (remove_at a.elems from.elem) (remove_at a.kids from.kid))
  pub parent : Stored w' id (node_block e.size (set e.elems c (get_or a.elems from.elem 0)) e.kids)
  pub taker : Stored w' to.node
      (put_in b to.elem to.kid (get_or e.elems c 0) (get_or a.kids from.kid 0) (length_or w (get_or a.kids from.kid 0) + 1))
  pub untouched : Untouched w w' (from.node ∷ (id ∷ (to.node ∷ [])))
  pub chain : get_or w' chain_word 0 ≡ get_or w chain_word 0
