-- `copy_run` meets its contract, word by word: those of the run stand where they were to go, and the others where they stood.
use Rattle.std.proofs.Common.{arith}
use Rattle.words.specs.Words.{run}
use Rattle.words.proofs.Laws.{run_length, run-get_or, stored}
use Rattle.words.proofs.copy_run.Goals as goal

pub returns : goal.returns
returns c =
    let a = c.args in
    let w = a.w.now in
    stored w _ a.to a.n (run w a.from a.n) (run_length w a.from a.n (omega arith)) (omega arith) (grind arith)
    (λ k low high. grind (arith, run-get_or)) (λ k o. grind arith)
