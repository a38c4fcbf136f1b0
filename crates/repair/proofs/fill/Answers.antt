-- `fill` meets its contract: each arm does what the repair found asks for.
use Rattle.repair.proofs.Choice.{from_left, from_right, with_left, with_right}
use Rattle.repair.proofs.Choice.{nothing_done, left_borrowed, right_borrowed, left_merged, right_merged}
use Rattle.repair.proofs.fill.Goals as goal

pub returns-in-Nothing : goal.returns-in-Nothing
returns-in-Nothing c s =
    rw c.in_place.ensures (nothing_done _ c.repair_for.ensures s _ c.kid_at-k.ensures c.in-Nothing.is)

pub fill_from_left-requires : goal.fill_from_left-requires
fill_from_left-requires c =
    let p = from_left _ c.repair_for.ensures c.requires
    c.in-FromLeft.is in
    record { c_nonzero = p.0; pair_ready = p.1 }

pub returns-in-FromLeft : goal.returns-in-FromLeft
returns-in-FromLeft c s =
    left_borrowed _ c.repair_for.ensures s _ _ c.in-FromLeft.is c.fill_from_left.ensures

pub borrow_right-requires : goal.borrow_right-requires
borrow_right-requires c =
    from_right _ c.repair_for.ensures c.requires
    c.in-FromRight.is

pub returns-in-FromRight : goal.returns-in-FromRight
returns-in-FromRight c s =
    rw c.in_place-in-FromRight.ensures
    (right_borrowed _ c.repair_for.ensures s _ c.kid_at-k.ensures _ c.in-FromRight.is c.borrow_right.ensures)

pub fill_with_left-requires : goal.fill_with_left-requires
fill_with_left-requires c =
    let p = with_left _ c.repair_for.ensures c.requires
    c.in-WithLeft.is in
    record { c_nonzero = p.0; pair_ready = p.1 }

pub returns-in-WithLeft : goal.returns-in-WithLeft
returns-in-WithLeft c s =
    left_merged _ c.repair_for.ensures s _ _ c.in-WithLeft.is c.fill_with_left.ensures

pub merge-requires : goal.merge-requires
merge-requires c =
    with_right _ c.repair_for.ensures c.requires
    c.in-WithRight.is

pub returns-in-WithRight : goal.returns-in-WithRight
returns-in-WithRight c s =
    rw c.in_place-in-WithRight.ensures
    (right_merged _ c.repair_for.ensures s _ c.kid_at-k.ensures _ c.in-WithRight.is c.merge.ensures)
