-- `way_in` meets its contract: an index that is not before the node's end is at it, and what is read then is the last child's.
use native.Mathlib.Omega.{arith}
use Rattle.insertion.proofs.Ways.{end_readable, end_inside, end_turns}
use Rattle.insertion.proofs.way_in.Goals as goal

pub kid_at-k-requires : goal.kid_at-k-requires
kid_at-k-requires c =
    let p = end_readable c.requires _ c.count_at-child.ensures in
    record { inside = p.0; c_bound = p.1 }

pub length_at-sub-requires : goal.length_at-sub-requires
length_at-sub-requires c =
    end_inside c.requires _ c.count_at-child.ensures _ c.kid_at-k.ensures

pub overflow_add-result : goal.overflow_add-result
overflow_add-result c =
    omega (arith, (end_readable c.requires _ c.count_at-child.ensures).1)

pub returns : goal.returns
returns c =
    λ s. end_turns s _ c.count_at-child.ensures _ c.kid_at-k.ensures _ c.length_at.ensures (omega arith) _ c.length_at-sub.ensures
