-- `length_below` meets its contract: the slot holds 0, or a node whose length is read.
use Rattle.pieces.proofs.Pieces.{below_none, below_inside, below_some}
use Rattle.pieces.proofs.length_below.Goals as goal

pub returns-then-y-eq0 : goal.returns-then-y-eq0
returns-then-y-eq0 c =
    λ s. below_none s _ c.kid_at-y.ensures c.if-y-eq0.true

pub length_at-requires : goal.length_at-requires
length_at-requires c =
    below_inside c.requires _ c.kid_at-y.ensures c.if-y-eq0.false

pub returns : goal.returns
returns c =
    λ s. below_some s _ c.kid_at-y.ensures c.if-y-eq0.false _ c.length_at.ensures
