-- `put_in` meets its contract: the two gaps opened take the piece in, and a leaf's child words are as before.
use mathlib.Core.Path.{◌∙◌}
use mathlib.Core.Logic.{inl, inr}
use native.Mathlib.Omega.{arith}
use Rattle.tree.proofs.Standing.{lent_length}
use Rattle.pieces.proofs.Pieces.{put_in_lem}
use Rattle.pieces.proofs.put_in.Goals as goal
use Rattle.pieces.proofs.put_in.Goals.{then-p-ne0, else-p-ne0}

pub overflow_add-node-3 : goal.overflow_add-node-3
overflow_add-node-3 c =
    omega (arith, lent_length c.requires.puts.seated.node _ c.start_of-a.ensures)

pub returns : goal.returns
returns c s =
    put_in_lem s _ c.start_of-a.ensures _ _ c.requires.k_value _ _ c.open_gap.ensures
    (elim c.if-p-ne0.branch [
      | then-p-ne0 w ↦ inl (w.node-is ∙ w.open_gap-then-p-ne0.ensures)
      | else-p-ne0 w ↦ inr (w.if-p-ne0.false, w.node-is)
    ])
