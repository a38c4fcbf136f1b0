-- `move_upper` meets its contract: two runs of words are copied, and the count and the length stored.
use Rattle.split.proofs.Nodes.{upper_moved}
use Rattle.split.proofs.move_upper.Goals as goal

pub returns : goal.returns
returns c =
    λ s. upper_moved s _ _ c.start_of-a.ensures c.start_of-b.ensures _ _ _ c.copy_run.ensures c.copy_run-2.ensures
