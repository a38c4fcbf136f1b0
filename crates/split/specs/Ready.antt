-- When a child or the root can be split, and what a raised root leaves.
use Rattle.std.specs.Prelude.{◌≡◌, List, ◌++◌, ℕ, suc, ◌≤◌, ◌<◌, length, get_or, drop}
use Rattle.model.specs.Tree.{Tree, kid, ids}
use Rattle.model.specs.Insert.{above_root}
use Rattle.pool.specs.Parts.{At, ChainAt}
use Rattle.pool.specs.Frame.{Untouched}
use Rattle.tree.specs.Stands.{Owns}

-- child c of node id is full, there is room for one more beside it, and a node is free
pub record SplitReady (w : List ℕ) (id c : ℕ) : Type 0 where
  pub height : ℕ
  pub tree : Tree (suc height)
  pub free : List ℕ
  pub owns : Owns w (suc height) tree free
  pub here : tree.id ≡ id
  pub place : c < length tree.kids
  pub full : length (kid height tree c).elems ≡ 31
  pub room : length tree.elems < 31
  pub some : 0 < length free

-- the root is full, and two nodes are free
pub record RaiseReady (w : List ℕ) (old : ℕ) : Type 0 where
  pub height : ℕ
  pub tree : Tree height
  pub free : List ℕ
  pub owns : Owns w height tree free
  pub here : tree.id ≡ old
  pub full : length tree.elems ≡ 31
  pub two : 2 ≤ length free

-- the first free node became the new root, the second the sibling
pub record Raised (w w' : List ℕ) (h : ℕ) (t : Tree h) (f : List ℕ) (r : ℕ) : Type 0 where
  pub first : r ≡ get_or f 0 0
  pub at : At w' (suc h) (above_root h t f)
  pub chain : ChainAt w' (drop 2 f)
  pub untouched : Untouched w w' (ids h t ++ f)
