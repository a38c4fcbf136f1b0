-- `shape` meets its contract: a tree that is well grown from the root on is well shaped, and none has more levels than p nodes reach.
use Rattle.shape.proofs.Growth.{shapes, too_deep}
use Rattle.shape.proofs.shape.Goals as goal

pub returns-then-not-within_reach : goal.returns-then-not-within_reach
returns-then-not-within_reach c =
    too_deep (c.within_reach.ensures.bad (c.if-not-within_reach.true))

pub returns : goal.returns
returns c =
    shapes _ _ c.requires.exact c.grown.ensures
