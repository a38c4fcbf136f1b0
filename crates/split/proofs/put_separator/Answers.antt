-- `put_separator` meets its contract: the elements and the children behind the place move up, and the count grows by one.
use Rattle.split.proofs.Nodes.{separator_put}
use Rattle.split.proofs.put_separator.Goals as goal

pub returns : goal.returns
returns c =
    λ s. separator_put s _ c.start_of-a.ensures _ _ _ _ c.open_gap.ensures c.open_gap-2.ensures
