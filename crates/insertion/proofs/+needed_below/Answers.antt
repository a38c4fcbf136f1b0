use native.Mathlib.Omega.{arith}
use Rattle.insertion.proofs.Needing.{leaf_needs, as_above, as_below, as_node, as_few, one_more, no_more}
use Rattle.insertion.proofs.+needed_below.Goals as goal

pub returns-then-levels-eq0 : goal.returns-then-levels-eq0
returns-then-levels-eq0 t c =
    leaf_needs _ c.if-levels-eq0.true

pub way_in-t-requires : goal.way_in-t-requires
way_in-t-requires t c =
    as_above _ c.if-levels-eq0.false c.requires

pub needed_below-below-requires : goal.needed_below-below-requires
needed_below-below-requires t c =
    (omega (arith), as_below _ c.way_in-t.ensures _ _ (omega arith) c.requires)

pub is_full-requires : goal.is_full-requires
is_full-requires t c =
    as_node _ c.way_in-t.ensures _ c.if-levels-eq0.false c.requires

pub overflow_add-result : goal.overflow_add-result
overflow_add-result t c =
    omega (arith, as_few _ c.way_in-t.ensures _ _ _ (omega arith) c.needed_below-below.ensures c.requires)

pub returns-then-is_full : goal.returns-then-is_full
returns-then-is_full t c =
    one_more _ c.way_in-t.ensures _ _ c.is_full.ensures _ _ (omega arith) c.needed_below-below.ensures c.if-is_full.true

pub returns-else-is_full : goal.returns-else-is_full
returns-else-is_full t c =
    no_more _ c.way_in-t.ensures _ _ c.is_full.ensures _ _ (omega arith) c.needed_below-below.ensures c.if-is_full.false
