-- `claim` meets its contract: k was marked, or its bit is set now.
use mathlib.Core.Path.{sym, ◌∙◌}
use native.Mathlib.Omega.{arith}
use Rattle.marks.proofs.Laws.{claimed}
use Rattle.marks.proofs.claim.Goals as goal

pub returns : goal.returns
returns c =
    claimed _ _ (omega arith) (omega arith) _ c.mask_of.ensures
    (sym c.is_marked.ensures ∙ c.if-is_marked.false)
