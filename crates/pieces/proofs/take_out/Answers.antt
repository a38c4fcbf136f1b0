-- `take_out` meets its contract: the two gaps closed leave the lists without the piece, and a leaf's child words are as before.
use mathlib.Core.Path.{sym, ◌∙◌}
use mathlib.Core.Logic.{inl, inr}
use native.Mathlib.Omega.{arith}
use borrow.Author.Tests.{eqb-true}
use Rattle.tree.proofs.Standing.{lent_length}
use Rattle.pieces.proofs.Pieces.{took_out}
use Rattle.pieces.proofs.take_out.Goals as goal
use Rattle.pieces.proofs.take_out.Goals.{then-is_leaf, else-is_leaf}

pub overflow_sub-node-2 : goal.overflow_sub-node-2
overflow_sub-node-2 c =
    omega (arith, lent_length c.requires.seated.node _ c.start_of-a.ensures)

pub returns : goal.returns
returns c s =
    let e = c.close_gap-elem.ensures in
    took_out s _ c.start_of-a.ensures _ _ _ _ (e.value, e.w_after)
    (elim c.if-is_leaf.branch [
      | then-is_leaf w ↦ inr (eqb-true _ _ (sym c.is_leaf.ensures ∙ w.if-is_leaf.true), w.kid-is, w.node-is)
      | else-is_leaf w ↦ inl (w.kid-is ∙ w.close_gap.ensures.value, w.node-is ∙ w.close_gap.ensures.w_after)
    ])
