use native.Mathlib.Omega.{arith}
use Rattle.insertion.proofs.Inserting.{as_leaf, leaf-done, as_next, as_counts, as_few, all_done}
use Rattle.insertion.proofs.+insert_into_non_full_node.Goals as goal

pub put_element-requires : goal.put_element-requires
put_element-requires t c =
    as_leaf _ c.if-levels-eq0.true c.requires

pub returns-then-levels-eq0 : goal.returns-then-levels-eq0
returns-then-levels-eq0 t c =
    leaf-done _ c.if-levels-eq0.true _ _ c.put_element.ensures

pub insert_into_non_full_node-below-requires : goal.insert_into_non_full_node-below-requires
insert_into_non_full_node-below-requires t c =
    (omega (arith), as_next _ _ c.make_room-r.ensures _ _ (omega arith) c.requires)

pub lengthen-requires : goal.lengthen-requires
lengthen-requires t c =
    as_counts _ _ c.make_room-r.ensures _ _ _ _ _ (omega arith) c.insert_into_non_full_node-below.ensures c.requires

pub overflow_add-result : goal.overflow_add-result
overflow_add-result t c =
    omega (arith, as_few _ _ c.make_room-r.ensures _ _ _ _ _ (omega arith) c.insert_into_non_full_node-below.ensures c.requires)

pub returns : goal.returns
returns t c =
    all_done _ _ c.make_room-r.ensures _ _ _ _ _ (omega arith) c.insert_into_non_full_node-below.ensures _ c.lengthen.ensures
