use native.Mathlib.Omega.{arith}
use Rattle.tree.proofs.Getting.{has_above, has_below}
use Rattle.tree.proofs.Spanning.{leaf_within, leaf_spans, separator_spans, child_spans}
use Rattle.tree.proofs.+stretch.Goals as goal

pub overflow_sub-result : goal.overflow_sub-result
overflow_sub-result t c =
    leaf_within _ c.if-levels-eq0.true c.requires _ c.count_at.ensures

pub returns-then-levels-eq0 : goal.returns-then-levels-eq0
returns-then-levels-eq0 t c s =
    leaf_spans _ c.if-levels-eq0.true s _ c.count_at.ensures

pub way_to-t-requires : goal.way_to-t-requires
way_to-t-requires t c =
    has_above _ c.if-levels-eq0.false c.requires

pub returns-then-t : goal.returns-then-t
returns-then-t t c s =
    separator_spans _ c.if-levels-eq0.false s _ c.way_to-t.ensures c.if-t.true

pub stretch-requires : goal.stretch-requires
stretch-requires t c = (
  omega (arith),
  has_below _ _ (omega arith) c.requires _ c.way_to-t.ensures c.if-t.false,
)

pub returns : goal.returns
returns t c s =
    child_spans _ _ (omega arith) s _ c.way_to-t.ensures c.if-t.false _ c.stretch.ensures
