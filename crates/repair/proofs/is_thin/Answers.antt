-- `is_thin` meets its contract: the count read is the child's.
use Rattle.repair.proofs.Choice.{kid_inside, thin_is}
use Rattle.repair.proofs.is_thin.Goals as goal

pub count_at-requires : goal.count_at-requires
count_at-requires c =
    kid_inside c.requires _ c.kid_at-k.ensures

pub returns : goal.returns
returns c s =
    thin_is s _ c.kid_at-k.ensures _ c.count_at.ensures
