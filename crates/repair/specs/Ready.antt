-- When children can be merged or lend to each other, and what filling a child leaves.
use Rattle.std.specs.Prelude.{◌≡◌, List, ℕ, suc, ◌+◌, ◌≤◌, ◌<◌, length}
use Rattle.model.specs.Tree.{Tree, kid, before}
use Rattle.model.specs.Remove.{Filled}
use Rattle.tree.specs.Stands.{Owns, Reshaped}
use Rattle.repair.specs.declared.Refill.{Refill}

-- children c and c + 1 of node id have as many elements as P says
pub record PairReady (P : ℕ → ℕ → Type 0) (w : List ℕ) (id c : ℕ) : Type 0 where
  pub height : ℕ
  pub tree : Tree (suc height)
  pub free : List ℕ
  pub owns : Owns w (suc height) tree free
  pub here : tree.id ≡ id
  pub place : c < length tree.elems
  pub counts : P (length (kid height tree c).elems) (length (kid height tree (c + 1)).elems)

-- both fit into one node; the left one has an element to lend; the right one has
abbrev pub Few : ℕ → ℕ → Type 0
Few a b = a + b ≤ 30

abbrev pub LeftLends : ℕ → ℕ → Type 0
LeftLends a b = (16 ≤ a) × (b ≤ 30)

abbrev pub RightLends : ℕ → ℕ → Type 0
RightLends a b = (a ≤ 30) × (16 ≤ b)

-- child c of node id can be brought to 16 elements
pub record FillReady (w : List ℕ) (id c : ℕ) : Type 0 where
  pub height : ℕ
  pub tree : Tree (suc height)
  pub free : List ℕ
  pub owns : Owns w (suc height) tree free
  pub here : tree.id ≡ id
  pub some : 0 < length tree.elems
  pub place : c < length tree.kids

-- child c was filled: r names its node then, how many elements came in front of its own, and how many nodes were freed
pub record Fills (w w' : List ℕ) (h : ℕ) (t : Tree (suc h)) (f : List ℕ) (c : ℕ) (s : Filled h) (r : Refill) : Type 0 where
  pub id : r.id ≡ (kid h s.node s.child).id
  pub ahead : before h t c ≡ before h s.node s.child + r.ahead
  pub freed : length f + r.freed ≡ length s.free
  pub reshaped : Reshaped w w' (suc h) t f s.node s.free
