-- `lend` meets its contract: each step leaves the other two nodes as they were.
use Rattle.pieces.proofs.Lending.{lend-take, lend_swap, lend_put, lend-leaf, lent}
use Rattle.pieces.proofs.lend.Goals as goal

pub take_out-p-requires : goal.take_out-p-requires
take_out-p-requires c =
    lend-take c.requires _ c.length_below-n.ensures

pub swap_element-elem-requires : goal.swap_element-elem-requires
swap_element-elem-requires c =
    lend_swap c.requires _
    c.length_below-n.ensures _ _
    c.take_out-p.ensures

pub put_in-requires : goal.put_in-requires
put_in-requires c =
    let s = c.requires in
    let r = c.length_below-n.ensures in
    let x = c.swap_element-elem.ensures in
    record {
      puts = lend_put s _ r _ _ c.take_out-p.ensures _ _ x;
      k_value = lend-leaf s _ r _ _ c.take_out-p.ensures _ _ x;
    }

pub returns : goal.returns
returns c s =
    lent s _ c.length_below-n.ensures _ _ c.take_out-p.ensures _ _
    c.swap_element-elem.ensures _
    c.put_in.ensures
