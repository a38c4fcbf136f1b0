use native.Mathlib.Omega.{arith}
use Rattle.removal.proofs.Rising.{at_leaf, cut_leaf, to_go, to_remove, to_rise, cut_below}
use Rattle.removal.proofs.+remove.Goals as goal

pub take_out-p-requires : goal.take_out-p-requires
take_out-p-requires t c =
    at_leaf _ c.if-levels-eq0.true c.requires

pub returns-then-levels-eq0 : goal.returns-then-levels-eq0
returns-then-levels-eq0 t c =
    cut_leaf _ c.if-levels-eq0.true _ _ c.take_out-p.ensures

pub go_down-d-requires : goal.go_down-d-requires
go_down-d-requires t c =
    to_go _ c.if-levels-eq0.false c.requires

pub remove-below-requires : goal.remove-below-requires
remove-below-requires t c = (
  omega (arith),
  to_remove _ _ c.go_down-d.ensures _ _ (omega arith) c.requires,
)

pub come_up-old-requires : goal.come_up-old-requires
come_up-old-requires t c =
    (to_rise _ _ c.go_down-d.ensures _ _ (omega arith) _ _ c.remove-below.ensures c.requires).ready

pub overflow_add-result : goal.overflow_add-result
overflow_add-result t c =
    omega (
      arith,
      (to_rise _ _ c.go_down-d.ensures _ _ (omega arith) _ _ c.remove-below.ensures
          c.requires).few,
    )

pub returns : goal.returns
returns t c =
    cut_below _ _ c.go_down-d.ensures _ _ (omega arith) _ _
    c.remove-below.ensures _ _ c.come_up-old.ensures
