-- `filled` meets its contract: each test is a part of it.
use mathlib.Core.Path.{sym, ◌∙◌}
use native.Mathlib.Omega.{arith}
use borrow.Author.Tests.{eqb-true, eqb-false, ne_eqb}
use Rattle.sound.proofs.Contents.{not_filled, leaf-length, leaf-filled, inner_kids, inner_filled}
use Rattle.sound.proofs.filled.Goals as goal

pub returns-then-length_at-n : goal.returns-then-length_at-n
returns-then-length_at-n c =
    leaf-filled _ _ c.requires (eqb-true _ _ (sym c.leaf_at.ensures ∙ c.if-leaf_at.true)) (omega arith)
    (rw c.count_at-n.ensures at c.rest_zeros.ensures)

pub returns-else-length_at-n : goal.returns-else-length_at-n
returns-else-length_at-n c =
    rw (ne_eqb _ _ c.if-length_at-n.false)
    (not_filled _ _
    (leaf-length _ _ c.requires (eqb-true _ _ (sym c.leaf_at.ensures ∙ c.if-leaf_at.true)) (λ e.
    c.if-length_at-n.false (c.length_at.ensures ∙ e ∙ sym c.count_at-n.ensures))))

pub returns-then-not-zeros_at-2 : goal.returns-then-not-zeros_at-2
returns-then-not-zeros_at-2 c =
    not_filled _ _
    (inner_kids _ _ c.requires (eqb-false _ _ (sym c.leaf_at.ensures ∙ c.if-leaf_at.false))
    (rw c.count_at-n.ensures at (c.zeros_at-2.ensures.bad (c.if-not-zeros_at-2.true))))

pub returns : goal.returns
returns c =
    inner_filled _ _ c.requires (eqb-false _ _ (sym c.leaf_at.ensures ∙ c.if-leaf_at.false))
    (rw c.count_at-n.ensures at (c.zeros_at.ensures.good (c.if-not-zeros_at.false)))
    (rw c.count_at-n.ensures at (c.zeros_at-2.ensures.good (c.if-not-zeros_at-2.false)))
    c.adds_up.ensures
