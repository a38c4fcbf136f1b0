-- `close` meets its contract: two fields, and a number behind them.
use Rattle.words.specs.Words.{run}
use Rattle.scan.proofs.Laws.{closed}
use Rattle.scan.proofs.close.Goals as goal

pub returns-clause-output_after : goal.returns-clause-output_after
unfolding run
returns-clause-output_after c =
    let f = c.write_fields-end.ensures in
    closed _ _ _ _ _ _ _ _ c.requires f.value f.s_after c.write_number.ensures
