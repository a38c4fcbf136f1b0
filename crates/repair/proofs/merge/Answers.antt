-- `merge` meets its contract: the piece taken out of the node goes with the right node's words behind the left one's.
use Rattle.repair.proofs.Moves.{merge-take, merge-append, merge-give, merged}
use Rattle.repair.proofs.merge.Goals as goal

pub take_out-p-requires : goal.take_out-p-requires
take_out-p-requires c =
    merge-take c.requires _ c.kid_at-l.ensures

pub append-requires : goal.append-requires
append-requires c =
    merge-append c.requires _
    c.kid_at-l.ensures _ _
    c.take_out-p.ensures

pub give_node-requires : goal.give_node-requires
give_node-requires c =
    merge-give c.requires _ c.kid_at-l.ensures _ _ c.take_out-p.ensures _
    c.append.ensures

pub returns : goal.returns
returns c s =
    merged s _ c.kid_at-l.ensures _ _ c.take_out-p.ensures _ c.append.ensures _
    c.give_node.ensures
