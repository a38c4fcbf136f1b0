-- One node of a tree in the pool, by its elements and its children's ids: what functions on single nodes ask.
use Rattle.std.specs.Prelude.{ℕ, ◌≤◌, List, length}
use Rattle.pool.specs.Layout.{node_block}
use Rattle.pool.specs.Parts.{Stored}

pub record Node (w : List ℕ) (k : ℕ) : Type 0 where
  pub size : ℕ
  pub elems : List ℕ
  pub kids : List ℕ
  pub stored : Stored w k (node_block size elems kids)
  pub few_elems : length elems ≤ 31
  pub few_kids : length kids ≤ 32
