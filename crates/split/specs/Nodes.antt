-- What functions on single nodes ask of them.
use Rattle.std.specs.Prelude.{◌≡◌, List, map, ℕ, ◌+◌, ◌^◌, ◌≤◌, ◌<◌, length, get_or}
use Rattle.lists.specs.Lists.{sum}
use Rattle.pool.specs.Parts.{Inside, length_at}
use Rattle.chain.specs.Chain.{Blank}
use Rattle.tree.specs.Node.{Node}

-- node k has children, and room for an element at place c and a child behind it
pub record HasKidRoom (w : List ℕ) (k c : ℕ) : Type 0 where
  pub node : Node w k
  pub place : c ≤ length node.elems
  pub room : length node.elems < 31
  pub one_more : length node.kids ≡ length node.elems + 1

-- all children of node k lie in the pool
pub record Summed (w : List ℕ) (k from : ℕ) : Type 0 where
  pub node : Node w k
  pub start : from ≤ 16
  pub kids : (c : ℕ) → c < length node.kids → Inside w (get_or node.kids c 0)
  pub small : sum (map (length_at w) node.kids) < 2 ^ 32

-- node k has 31 elements
pub record Full (w : List ℕ) (k : ℕ) : Type 0 where
  pub node : Node w k
  pub full : length node.elems ≡ 31

-- node k is full, and node j blank
pub record Moves (w : List ℕ) (k j : ℕ) : Type 0 where
  pub node : Node w k
  pub full : length node.elems ≡ 31
  pub blank : Blank w j
