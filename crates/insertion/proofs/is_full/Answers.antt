-- `is_full` meets its contract: the count that is read is the node's.
use mathlib.Core.Path.{ap, ◌∙◌}
use lib.Dec.{leb}
use Rattle.tree.proofs.Standing.{lent_count}
use Rattle.insertion.proofs.is_full.Goals as goal

pub returns : goal.returns
returns c m =
    c.is_full.ensures ∙ ap (leb 31) (lent_count m _ c.start_of-a.ensures)
