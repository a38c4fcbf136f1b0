-- `fill_with_left` meets its contract: all that the left child had stands in front, and the separator.
use native.Mathlib.Omega.{arith}
use Rattle.repair.proofs.Pairing.{pair_inside}
use Rattle.repair.proofs.Places.{with_left_fits, with_left_filled}
use Rattle.repair.proofs.fill_with_left.Goals as goal

pub length_at-n-requires : goal.length_at-n-requires
length_at-n-requires c =
    pair_inside c.requires.pair_ready _ (omega arith) _ c.kid_at-l.ensures

pub overflow_add-result : goal.overflow_add-result
overflow_add-result c =
    omega (
      arith,
      with_left_fits c.requires.c_nonzero c.requires.pair_ready _
          c.kid_at-l.ensures _ c.length_at-n.ensures,
    )

pub returns : goal.returns
returns c s =
    with_left_filled c.requires.c_nonzero s _ c.kid_at-l.ensures _ c.length_at-n.ensures _
    c.merge.ensures
