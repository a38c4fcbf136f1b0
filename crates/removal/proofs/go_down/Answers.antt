-- `go_down` meets its contract: each return is a row of the table `choose_way`.
use mathlib.Core.Path.{sym, ◌∙◌}
use native.Mathlib.Omega.{arith}
use borrow.Author.Tests.{not-true, not-false}
use Rattle.removal.proofs.Going.{turn_kid, few_kids, sub-fits, went_inside}
use Rattle.removal.proofs.Going.{next_kid, next_few, last_some, went_last, went_first, merge_ready, went_merged}
use Rattle.removal.proofs.go_down.Goals as goal

pub fill-f-requires : goal.fill-f-requires
fill-f-requires c =
    turn_kid c.requires _ c.way_to-t.ensures

pub overflow_add-result : goal.overflow_add-result
overflow_add-result c =
    omega (
      arith,
      sub-fits c.requires _ c.way_to-t.ensures _ _
          c.fill-f.ensures,
    )

pub returns-then-not-t : goal.returns-then-not-t
returns-then-not-t c s =
    went_inside s _ c.way_to-t.ensures _ _ c.fill-f.ensures (not-true _ c.if-not-t.true)

pub is_thin-requires : goal.is_thin-requires
is_thin-requires c =
    turn_kid c.requires _ c.way_to-t.ensures

pub overflow_sub-result : goal.overflow_sub-result
overflow_sub-result c =
    last_some c.requires _
    c.way_to-t.ensures
    (not-false _ c.if-not-t.false) (λ q. sym (c.is_thin.ensures q) ∙ c.if-not-is_thin.true)

pub returns-then-not-is_thin : goal.returns-then-not-is_thin
returns-then-not-is_thin c s =
    went_last s _ c.way_to-t.ensures (not-false _ c.if-not-t.false)
    (λ q. sym (c.is_thin.ensures q) ∙ c.if-not-is_thin.true)

pub overflow_add-c : goal.overflow_add-c
overflow_add-c c =
    omega (
      arith,
      few_kids c.requires _
          c.way_to-t.ensures,
    )

pub is_thin-requires-else-not-is_thin : goal.is_thin-requires-else-not-is_thin
is_thin-requires-else-not-is_thin c =
    next_kid c.requires _
    c.way_to-t.ensures (not-false _ c.if-not-t.false)

pub overflow_add-c-then-not-is_thin-2 : goal.overflow_add-c-then-not-is_thin-2
overflow_add-c-then-not-is_thin-2 c =
    omega (
      arith,
      few_kids c.requires _
          c.way_to-t.ensures,
    )

pub kid_at-k-requires-clause-c_bound : goal.kid_at-k-requires-clause-c_bound
kid_at-k-requires-clause-c_bound c =
    next_few c.requires _ c.way_to-t.ensures (not-false _ c.if-not-t.false)

pub returns-then-not-is_thin-2 : goal.returns-then-not-is_thin-2
returns-then-not-is_thin-2 c s =
    went_first s _ c.way_to-t.ensures (not-false _ c.if-not-t.false) (λ q. sym (c.is_thin.ensures q) ∙ c.if-not-is_thin.false)
    (λ q. sym (c.is_thin-else-not-is_thin.ensures q) ∙ c.if-not-is_thin-2.true) _ c.kid_at-k.ensures

pub merge-requires : goal.merge-requires
merge-requires c =
    merge_ready c.requires _
    c.way_to-t.ensures (not-false _ c.if-not-t.false)
    (λ q. sym (c.is_thin.ensures q) ∙ c.if-not-is_thin.false) (λ q. sym (c.is_thin-else-not-is_thin.ensures q) ∙ c.if-not-is_thin-2.false)

pub returns-else-not-is_thin-2 : goal.returns-else-not-is_thin-2
returns-else-not-is_thin-2 c s =
    went_merged s _ c.way_to-t.ensures (not-false _ c.if-not-t.false) (λ q. sym (c.is_thin.ensures q) ∙ c.if-not-is_thin.false)
    (λ q. sym (c.is_thin-else-not-is_thin.ensures q) ∙ c.if-not-is_thin-2.false) _
    c.merge.ensures
