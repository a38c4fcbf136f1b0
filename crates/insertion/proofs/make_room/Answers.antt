-- `make_room` meets its contract: each answer hands what the calls ensured to a law of `Inserting`.
use native.Mathlib.Omega.{arith}
use Rattle.insertion.proofs.Inserting.{way_node, split_ready, no_room_made, half_inside, right_few, left_made, right_made}
use Rattle.insertion.proofs.make_room.Goals as goal

pub is_full-requires : goal.is_full-requires
is_full-requires c =
    way_node c.requires.ready _ c.way_in-t.ensures

pub returns-then-not-is_full : goal.returns-then-not-is_full
returns-then-not-is_full c =
    λ q. no_room_made q.ready _ c.way_in-t.ensures _ c.is_full.ensures c.if-not-is_full.true

pub split_child-requires : goal.split_child-requires
split_child-requires c =
    split_ready c.requires.ready _ c.way_in-t.ensures _ c.is_full.ensures c.if-not-is_full.false

pub length_at-n-requires : goal.length_at-n-requires
length_at-n-requires c =
    half_inside c.requires.ready _ c.way_in-t.ensures _ c.is_full.ensures c.if-not-is_full.false _ c.split_child.ensures

pub returns-then-t-n : goal.returns-then-t-n
returns-then-t-n c =
    λ q. left_made q.ready _ c.way_in-t.ensures _ c.is_full.ensures c.if-not-is_full.false _ c.split_child.ensures
    _ c.length_at-n.ensures (omega arith)

pub overflow_add-t : goal.overflow_add-t
overflow_add-t c =
    omega (arith, right_few c.requires.ready _ c.way_in-t.ensures _ c.is_full.ensures c.if-not-is_full.false _ c.split_child.ensures)

pub kid_at-requires-clause-c_bound : goal.kid_at-requires-clause-c_bound
kid_at-requires-clause-c_bound c =
    right_few c.requires.ready _ c.way_in-t.ensures _ c.is_full.ensures c.if-not-is_full.false _ c.split_child.ensures

pub returns-else-t-n : goal.returns-else-t-n
returns-else-t-n c =
    λ q. right_made q.ready _ c.way_in-t.ensures _ c.is_full.ensures c.if-not-is_full.false _ c.split_child.ensures
    _ c.length_at-n.ensures (omega arith) _ c.kid_at.ensures
