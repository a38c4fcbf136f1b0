-- When an element can be inserted, and what an insertion into the whole list leaves.
use Rattle.std.specs.Prelude.{◌≡◌, List, ℕ, ◌≤◌, ◌<◌, length, Option, Some, None}
use Rattle.model.specs.Tree.{Tree, size, Bag, list_of}
use Rattle.model.specs.Insert.{needed_below, needed, bag_insert}
use Rattle.tree.specs.declared.Known.{Known}
use Rattle.tree.specs.Stands.{Owns, known_of, BagStands, Became}

-- an element can be inserted at the index below node id, which is not full
pub record InsertReady (w : List ℕ) (h id index : ℕ) : Type 0 where
  pub tree : Tree h
  pub free : List ℕ
  pub owns : Owns w h tree free
  pub here : tree.id ≡ id
  pub some : 1 ≤ length tree.elems
  pub room : length tree.elems < 31
  pub upto : index ≤ size h tree
  pub enough : needed_below h tree index ≤ length free

-- the whole list: its bag stands in the pool, and the index is one that an insertion takes
pub record BagReady (w : List ℕ) (known : Known) (index : ℕ) : Type 0 where
  pub bag : Bag
  pub stands : BagStands w bag
  pub is : known ≡ known_of bag
  pub upto : index ≤ length (list_of bag.root)

-- what is known of the bag then, if the nodes needed are free; and else nothing is done
pub record Inserts (w w' : List ℕ) (b : Bag) (index x : ℕ) (r : Option Known) : Type 0 where
  pub accepted : needed b.root index ≤ length b.free
      → (r ≡ Some (known_of (bag_insert b index x))) × Became w w' b (bag_insert b index x) (known_of (bag_insert b index x))
  pub refused : length b.free < needed b.root index → (r ≡ None) × (w' ≡ w)
