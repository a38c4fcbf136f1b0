-- What the batch wrote lies in the output.
use Rattle.std.proofs.Common.{sym, arith}
use Rattle.std.proofs.lemmas.List.{length-take-le}
use Rattle.batch.proofs.Room.{written_fits}
use Rattle.replay.proofs.answer.Goals as goal

pub slice_bounds-result-end : goal.slice_bounds-result-end
slice_bounds-result-end c =
    let n = c.batch-ran.result.written in
    let written = c.batch-ran.new.output in
    sym (length-take-le n written (omega (arith, written_fits _ c.batch-ran.ensures, c.batch-ran.auto.output)))
