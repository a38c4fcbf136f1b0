-- When an element can be removed, and what a removal from a tree and from the whole list leaves.
use Rattle.std.specs.Prelude.{◌≡◌, List, ℕ, ◌+◌, ◌<◌, length}
use Rattle.model.specs.Tree.{Tree, size, Bag, list_of}
use Rattle.model.specs.Remove.{Shrunk, bag_remove}
use Rattle.tree.specs.declared.Known.{Known}
use Rattle.tree.specs.Stands.{Owns, Reshaped, known_of, BagStands, Became}
use Rattle.removal.specs.declared.Taken.{Taken}
use Rattle.removal.specs.declared.Cut.{Cut}

-- the tree at node id has the index
pub record RemoveReady (w : List ℕ) (h id index : ℕ) : Type 0 where
  pub tree : Tree h
  pub free : List ℕ
  pub owns : Owns w h tree free
  pub here : tree.id ≡ id
  pub some : 0 < length tree.elems
  pub below : index < size h tree

-- the element that was taken out, and how many nodes were freed for it
pub record Removes (w w' : List ℕ) (h : ℕ) (t : Tree h) (f : List ℕ) (s : Shrunk (Tree h)) (r : Cut) : Type 0 where
  pub old : r.old ≡ s.old
  pub freed : length f + r.freed ≡ length s.free
  pub reshaped : Reshaped w w' h t f s.tree s.free

-- a tree whose root may have no element left, and the free nodes, as far as they are known
pub record LowerReady (w : List ℕ) (known : Known) : Type 0 where
  pub tree : Tree known.levels
  pub free : List ℕ
  pub owns : Owns w known.levels tree free
  pub here : tree.id ≡ known.root
  pub frees : known.free ≡ length free

-- the whole list: its bag stands in the pool, and has the index
pub record BagHas (w : List ℕ) (known : Known) (index : ℕ) : Type 0 where
  pub bag : Bag
  pub stands : BagStands w bag
  pub is : known ≡ known_of bag
  pub below : index < length (list_of bag.root)

pub record BagRemoves (w w' : List ℕ) (b : Bag) (index : ℕ) (r : Taken) : Type 0 where
  pub old : r.old ≡ (bag_remove b index).old
  pub became : Became w w' b (bag_remove b index).bag r.known
