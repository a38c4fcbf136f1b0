-- `repair_for` meets its contract: each return is a row of the table `choose`, or two.
use mathlib.Core.Path.{sym, ◌∙◌}
use native.Mathlib.Omega.{arith}
use Rattle.repair.proofs.Choice.{sibling, count_is, row_nothing, row_from_left, row_from_right, row_with_left, row_with_right}
use Rattle.repair.proofs.repair_for.Goals as goal
use Rattle.repair.proofs.repair_for.Goals.{else-c-gt0-via-then-c-gt0+else-not-is_thin-2, else-c-gt0-via-else-c-gt0}
use Rattle.repair.proofs.repair_for.Goals.{else-c-count_at-via-then-c-count_at+else-not-is_thin-3, else-c-count_at-via-else-c-count_at}

pub returns-then-not-is_thin : goal.returns-then-not-is_thin
returns-then-not-is_thin c s =
    row_nothing s (λ q. sym (c.is_thin.ensures q) ∙ c.if-not-is_thin.true)

pub returns-then-not-is_thin-2 : goal.returns-then-not-is_thin-2
returns-then-not-is_thin-2 c s =
    row_from_left s (λ q. sym (c.is_thin.ensures q) ∙ c.if-not-is_thin.false) c.if-c-gt0.true
    (λ q. sym (c.is_thin-then-c-gt0.ensures q) ∙ c.if-not-is_thin-2.true)

pub is_thin-requires-then-c-count_at : goal.is_thin-requires-then-c-count_at
is_thin-requires-then-c-count_at c =
    sibling c.requires _
    (omega (arith, count_is c.requires _ c.count_at.ensures))

pub returns-then-not-is_thin-3 : goal.returns-then-not-is_thin-3
returns-then-not-is_thin-3 c s =
    row_from_right s (λ q. sym (c.is_thin.ensures q) ∙ c.if-not-is_thin.false) (λ l q.
    elim c.else-c-gt0.branch [
      | else-c-gt0-via-then-c-gt0+else-not-is_thin-2 w ↦ sym (w.is_thin-then-c-gt0.ensures q) ∙ w.if-not-is_thin-2.false
      | else-c-gt0-via-else-c-gt0 w ↦ absurd (omega arith)
    ]) _
    c.count_at.ensures c.if-c-count_at.true
    (λ q. sym (c.is_thin-then-c-count_at.ensures q) ∙ c.if-not-is_thin-3.true)

pub returns-then-c-gt0-2 : goal.returns-then-c-gt0-2
returns-then-c-gt0-2 c s =
    row_with_left s (λ q. sym (c.is_thin.ensures q) ∙ c.if-not-is_thin.false) (λ l q.
    elim c.else-c-gt0.branch [
      | else-c-gt0-via-then-c-gt0+else-not-is_thin-2 w ↦ sym (w.is_thin-then-c-gt0.ensures q) ∙ w.if-not-is_thin-2.false
      | else-c-gt0-via-else-c-gt0 w ↦ absurd (omega arith)
    ]) _ c.count_at.ensures
    (λ l q.
    elim c.else-c-count_at.branch [
      | else-c-count_at-via-then-c-count_at+else-not-is_thin-3 w ↦ sym (w.is_thin-then-c-count_at.ensures q) ∙ w.if-not-is_thin-3.false
      | else-c-count_at-via-else-c-count_at w ↦ absurd (omega arith)
    ]) c.if-c-gt0-2.true

pub returns-else-c-gt0-2 : goal.returns-else-c-gt0-2
returns-else-c-gt0-2 c s =
    row_with_right s (λ q. sym (c.is_thin.ensures q) ∙ c.if-not-is_thin.false) (λ l q.
    elim c.else-c-gt0.branch [
      | else-c-gt0-via-then-c-gt0+else-not-is_thin-2 w ↦ sym (w.is_thin-then-c-gt0.ensures q) ∙ w.if-not-is_thin-2.false
      | else-c-gt0-via-else-c-gt0 w ↦ absurd (omega arith)
    ]) _ c.count_at.ensures
    (λ l q.
    elim c.else-c-count_at.branch [
      | else-c-count_at-via-then-c-count_at+else-not-is_thin-3 w ↦ sym (w.is_thin-then-c-count_at.ensures q) ∙ w.if-not-is_thin-3.false
      | else-c-count_at-via-else-c-count_at w ↦ absurd (omega arith)
    ]) (omega arith)
