-- `scan` meets its contract: too much input is not run; else the answers of the batch, and the last record behind them.
use mathlib.Core.Path.{refl}
use native.Mathlib.Omega.{arith}
use Rattle.scan.proofs.Laws.{formatted, too_much, answers_fit, scans}
use Rattle.scan.proofs.scan.Goals as goal

pub returns-then-input-gt-MOST_INPUT : goal.returns-then-input-gt-MOST_INPUT
returns-then-input-gt-MOST_INPUT c =
    let k = c.close in
    rw k.ensures.value (too_much _ _ (omega arith) c.requires k.ensures.output_after)

pub close-requires-2 : goal.close-requires-2
close-requires-2 c =
    answers_fit _ _ (formatted _ refl c.format.ensures) c.requires (omega arith) c.batch-ran.ensures

pub returns : goal.returns
returns c =
    let k = c.close-2 in
    rw k.ensures.value
    (scans _ _ (formatted _ refl c.format.ensures) c.requires (omega arith) c.batch-ran.ensures
    k.ensures.output_after)
