-- What functions on single nodes ask of them.
use Rattle.std.specs.Prelude.{List, ℕ, ◌^◌, ◌≤◌, ◌<◌, length}
use Rattle.tree.specs.Node.{Node}

-- node k has room for an element at place i
pub record HasRoom (w : List ℕ) (k i : ℕ) : Type 0 where
  pub node : Node w k
  pub place : i ≤ length node.elems
  pub room : length node.elems < 31
  pub small : node.size < 2 ^ 32

-- node k can count one element more
pub record Counts (w : List ℕ) (k : ℕ) : Type 0 where
  pub node : Node w k
  pub small : node.size < 2 ^ 32
