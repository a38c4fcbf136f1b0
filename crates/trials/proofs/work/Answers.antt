-- The answer has a last record.
use Rattle.scan.proofs.Laws.{at_least_last}
use Rattle.trials.proofs.work.Goals as goal

pub overflow_sub-last : goal.overflow_sub-last
overflow_sub-last g c = at_least_last c.scan-n.ensures
