-- What the child finder reads: a node's words, lent as a part of the pool, and word 1 of each child.
use Rattle.std.specs.Prelude.{◌≡◌, List, map, ℕ, ◌+◌, ◌≤◌, ◌<◌, length, get_or}
use Rattle.lists.specs.Lists.{sum}
use Rattle.words.specs.Words.{run}
use Rattle.pool.specs.Layout.{node_words}
use Rattle.pool.specs.Parts.{Inside, length_at}

-- the lengths of the children of a node, in their order
unfoldable pub kid_lengths : List ℕ → List ℕ → List ℕ
kid_lengths w node = map (length_at w) (run node 33 (get_or node 0 0 + 1))

-- the node has children, all in the pool, and the index is in one of them or at the end of one
pub record Inner (w node : List ℕ) (index : ℕ) : Type 0 where
  pub long : length node ≡ node_words
  pub few : get_or node 0 0 ≤ 31
  pub kids : (c : ℕ) → c < get_or node 0 0 + 1 → Inside w (get_or node (33 + c) 0)
  pub below : index ≤ get_or node 0 0 + sum (kid_lengths w node)
