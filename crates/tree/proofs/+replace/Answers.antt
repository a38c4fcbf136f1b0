use native.Mathlib.Omega.{arith}
use Rattle.tree.proofs.Getting.{leaf_has, has_above, has_separator, has_below}
use Rattle.tree.proofs.Replacing.{leaf_replaced, separator_replaced, child_replaced}
use Rattle.tree.proofs.+replace.Goals as goal

pub swap_element-requires : goal.swap_element-requires
swap_element-requires t c =
    leaf_has c.if-levels-eq0.true c.requires

pub returns-then-levels-eq0 : goal.returns-then-levels-eq0
returns-then-levels-eq0 t c s =
    leaf_replaced _ c.if-levels-eq0.true s _ _ _ c.swap_element.ensures

pub way_to-t-requires : goal.way_to-t-requires
way_to-t-requires t c =
    has_above _ c.if-levels-eq0.false c.requires

pub swap_element-requires-then-t : goal.swap_element-requires-then-t
swap_element-requires-then-t t c =
    has_separator _ c.if-levels-eq0.false c.requires _
    c.way_to-t.ensures c.if-t.true

pub returns-then-t : goal.returns-then-t
returns-then-t t c s =
    separator_replaced _ c.if-levels-eq0.false s _ c.way_to-t.ensures c.if-t.true _ _ _
    c.swap_element-then-t.ensures

pub replace-requires : goal.replace-requires
replace-requires t c = (
  omega (arith),
  has_below _ _ (omega arith) c.requires _ c.way_to-t.ensures
      c.if-t.false,
)

pub returns : goal.returns
returns t c s =
    child_replaced _ _ (omega arith) s _ c.way_to-t.ensures c.if-t.false _ _ _
    c.replace.ensures
