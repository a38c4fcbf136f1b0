-- Looking for an index: what is asked of the pool, and what is found.
use Rattle.std.specs.Prelude.{◌≡◌, List, ℕ, suc, ◌+◌, ◌≤◌, ◌<◌, length, get_or, set}
use Rattle.model.specs.declared.Found.{Found}
use Rattle.model.specs.declared.Stretch.{Stretch}
use Rattle.model.specs.Calls.{stretch}
use Rattle.model.specs.Tree.{Tree, kid, size, ids, find, at_separator, get, replace}
use Rattle.model.specs.Fit.{Fit}
use Rattle.pool.specs.Layout.{chain_word, node_block, with_block}
use Rattle.pool.specs.Parts.{At}
use Rattle.pool.specs.Frame.{Untouched}
use Rattle.tree.specs.declared.Turn.{Turn}
use Rattle.tree.specs.Node.{Node}
use Rattle.tree.specs.Stands.{Stands}

-- node id has children, and the index is in one of them or at the end of one; it may have lost its last element
pub record Above (w : List ℕ) (id index : ℕ) : Type 0 where
  pub height : ℕ
  pub tree : Tree (suc height)
  pub here : tree.id ≡ id
  pub at : At w (suc height) tree
  pub fit : Fit (suc height) tree
  pub upto : index ≤ size (suc height) tree

-- where the index goes from there
pub record Turns (h : ℕ) (t : Tree (suc h)) (index : ℕ) (r : Turn) : Type 0 where
  pub child : r.child ≡ (find h t index).child
  pub sub : r.sub ≡ (find h t index).sub
  pub compared : r.compared ≡ (find h t index).compared
  pub id : r.id ≡ (kid h t (find h t index).child).id
  pub separator : r.separator ≡ at_separator h t index

-- the tree at node id has the index
pub record Has (w : List ℕ) (h id index : ℕ) : Type 0 where
  pub stands : Stands w h id
  pub below : index < size h stands.tree

-- what is found is what the model finds
abbrev pub Got : List ℕ → ℕ → ℕ → ℕ → Found → Type 0
Got w h id index r = (s : Has w h id index) → r ≡ get h s.stands.tree index

-- x is the element that the model finds, and n' is n with the model's comparisons added
pub record Counted (h : ℕ) (t : Tree h) (index n n' x : ℕ) : Type 0 where
  pub element : x ≡ (get h t index).element
  pub compared : n' ≡ n + (get h t index).compared

abbrev pub Spans : List ℕ → ℕ → ℕ → ℕ → Stretch → Type 0
Spans w h id index r = (s : Has w h id index) → r ≡ stretch h s.stands.tree index

-- node k has element i
pub record HasElement (w : List ℕ) (k i : ℕ) : Type 0 where
  pub node : Node w k
  pub below : i < length node.elems

-- x stands in the place of the old one
pub record Swapped (w w' : List ℕ) (k i x : ℕ) (m : Node w k) (old : ℕ) : Type 0 where
  pub given : old ≡ get_or m.elems i 0
  pub words : w' ≡ with_block w k (node_block m.size (set m.elems i x) m.kids)

pub record Replaced (w w' : List ℕ) (h : ℕ) (t : Tree h) (index x old : ℕ) : Type 0 where
  pub given : old ≡ (get h t index).element
  pub at : At w' h (replace h t index x)
  pub untouched : Untouched w w' (ids h t)
  pub chain : get_or w' chain_word 0 ≡ get_or w chain_word 0
