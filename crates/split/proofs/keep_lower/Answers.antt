-- `keep_lower` meets its contract: the upper slots are cleared, and the count and the length stored.
use Rattle.split.proofs.Nodes.{lower_kept}
use Rattle.split.proofs.keep_lower.Goals as goal

pub returns : goal.returns
returns c =
    λ s. lower_kept s _ c.start_of-a.ensures _ _ _ c.clear_run.ensures c.clear_run-2.ensures
