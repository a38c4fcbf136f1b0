use native.Mathlib.Omega.{arith}
use Rattle.tree.proofs.Getting.{leaf_has, leaf_counted, has_above, has_separator, few_compared, separator_counted, has_below, child_counted}
use Rattle.tree.proofs.+get.Goals as goal

pub element-requires : goal.element-requires
element-requires t c =
    leaf_has c.if-levels-eq0.true c.requires.has

pub returns-then-levels-eq0 : goal.returns-then-levels-eq0
returns-then-levels-eq0 t c s =
    leaf_counted _ c.if-levels-eq0.true s _ _ c.element.ensures

pub way_to-t-requires : goal.way_to-t-requires
way_to-t-requires t c =
    has_above _ c.if-levels-eq0.false c.requires.has

pub overflow_add-compared : goal.overflow_add-compared
overflow_add-compared t c =
    let l = few_compared _ c.if-levels-eq0.false c.requires.has _ c.way_to-t.ensures in
    omega (arith, c.requires.levels_bound)

pub element-requires-then-t : goal.element-requires-then-t
element-requires-then-t t c =
    has_separator _ c.if-levels-eq0.false c.requires.has _ c.way_to-t.ensures c.if-t.true

pub returns-then-t : goal.returns-then-t
returns-then-t t c s =
    separator_counted _ c.if-levels-eq0.false s _ c.way_to-t.ensures c.if-t.true _ _ c.element-then-t.ensures

pub get-requires : goal.get-requires
get-requires t c =
    let p = c.requires in
    let l = few_compared _ c.if-levels-eq0.false p.has _ c.way_to-t.ensures in (
      omega arith,
      (has_below _ _ (omega arith) p.has _ c.way_to-t.ensures c.if-t.false, omega (arith, p.levels_bound)),
    )

pub returns : goal.returns
returns t c s =
    child_counted _ _ (omega arith) s _ c.way_to-t.ensures c.if-t.false _ _ _ c.get.ensures
