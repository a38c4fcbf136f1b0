-- `lowest` meets its contract: the bit stands above the word's zeros, and one less takes it out.
use native.Mathlib.Omega.{arith}
use Rattle.marks.proofs.Laws.{takes_out}
use Rattle.marks.proofs.lowest.Goals as goal

pub returns : goal.returns
returns c =
    takes_out _ (omega arith) (omega arith)
