-- `fill_from_left` meets its contract: the child has so many elements more than before, and they came in front.
use native.Mathlib.Omega.{arith}
use Rattle.repair.proofs.Pairing.{pair_inside}
use Rattle.repair.proofs.Places.{lent_inside, lent_more, from_left_filled}
use Rattle.repair.proofs.fill_from_left.Goals as goal

pub length_at-n-requires : goal.length_at-n-requires
length_at-n-requires c =
    pair_inside c.requires.pair_ready _ (omega arith) _ c.kid_at-k.ensures

pub length_at-requires : goal.length_at-requires
length_at-requires c =
    lent_inside c.requires.c_nonzero c.requires.pair_ready _
    c.kid_at-k.ensures _ c.length_at-n.ensures _ c.borrow_left.ensures

pub overflow_sub-result : goal.overflow_sub-result
overflow_sub-result c =
    lent_more c.requires.c_nonzero c.requires.pair_ready _
    c.kid_at-k.ensures _ c.length_at-n.ensures _ c.borrow_left.ensures _ c.length_at.ensures

pub returns : goal.returns
returns c s =
    from_left_filled c.requires.c_nonzero s _
    c.kid_at-k.ensures _ c.length_at-n.ensures _ c.borrow_left.ensures _ c.length_at.ensures
