-- What an edit leaves as it was.
use Rattle.std.specs.Prelude.{◌≡◌, List, ◌≢◌, ℕ, ◌<◌, length, get_or}
use Rattle.lists.specs.Lists.{count}
use Rattle.pool.specs.Layout.{chain_word, head_words, block}
use Rattle.pool.specs.Parts.{Inside}

-- everything but the nodes in own, and the chain word, is as it was
pub record Untouched (w w' : List ℕ) (own : List ℕ) : Type 0 where
  pub long : length w' ≡ length w
  pub head : (i : ℕ) → i < head_words → i ≢ chain_word → get_or w' i 0 ≡ get_or w i 0
  pub others : (k : ℕ) → Inside w k → count k own ≡ 0 → block w' k ≡ block w k
