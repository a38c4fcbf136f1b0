-- `len` meets its contract: no root, no elements; else the root's length word.
use Rattle.calls.proofs.Reading.{len-none, root_inside, len_root}
use Rattle.calls.proofs.len.Goals as goal

pub returns-then-root-eq0 : goal.returns-then-root-eq0
returns-then-root-eq0 c s =
    len-none s c.if-root-eq0.true

pub length_at-requires : goal.length_at-requires
length_at-requires c =
    root_inside c.requires c.if-root-eq0.false

pub returns : goal.returns
returns c s =
    len_root s c.if-root-eq0.false _ c.length_at.ensures
