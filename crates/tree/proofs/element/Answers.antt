-- `element` meets its contract: the node's words are lent, and the element stands at its place among them.
use mathlib.Core.Path.{◌∙◌}
use native.Mathlib.Omega.{arith}
use Rattle.tree.proofs.Standing.{lent_elem}
use Rattle.tree.proofs.element.Goals as goal

pub returns : goal.returns
returns c s =
    c.elem.ensures ∙ lent_elem s.node _ c.start_of-a.ensures _ (omega (arith, s.below, s.node.few_elems))
