-- What the program writes for what it reads (01, Commands and answers).
use Rattle.std.specs.Prelude.{◌≡◌, cond, List, ◌∷◌, ◌++◌, ℕ, ◌+◌, ◌*◌, ◌≤◌, ltb, length}
use Rattle.words.specs.Words.{run}
use Rattle.model.specs.Tree.{Bag, empty}
use Rattle.records.specs.Numbers.{bytes_of}
use Rattle.commands.specs.Steps.{Ended, batch_of}
use Rattle.commands.specs.OnBag.{on_bag}

-- the most input that is run, and the nodes of the pool
abbrev pub most_input : ℕ
most_input = 2048

abbrev pub pool_nodes : ℕ
pool_nodes = 60

-- the last record, of kind 8F: the stop number, the commands run, the bytes read
unfoldable pub closing : ℕ → ℕ → ℕ → List ℕ
unfolding bytes_of
closing number commands read = 143 ∷ bytes_of 1 number ++ bytes_of 4 commands ++ bytes_of 4 read

-- 18,436 bytes for the answers, and 10 for the last record
abbrev pub output_bytes : ℕ
output_bytes = 9 * most_input + 4 + 10

-- the batch from an empty list
abbrev pub ended : List ℕ → Ended Bag
ended input = batch_of on_bag input output_bytes (empty pool_nodes)

unfoldable pub scan_of : List ℕ → List ℕ
unfolding closing
scan_of input =
    let e = ended input in
    let p = e.progress in
    cond (ltb most_input (length input)) (closing 8 0 0) (p.answers ++ closing e.number p.commands p.read)

-- the first r bytes of the output are it
pub record Scans (input : List ℕ) (r : ℕ) (out : List ℕ) : Type 0 where
  pub fits : r ≤ length out
  pub bytes : run out 0 r ≡ scan_of input
