-- `put_element` meets its contract: the elements behind the place move up, and the count and the length grow by one.
use native.Mathlib.Omega.{arith}
use Rattle.tree.proofs.Standing.{lent_length}
use Rattle.insertion.proofs.Nodes.{element_put}
use Rattle.insertion.proofs.put_element.Goals as goal

pub overflow_add-node-3 : goal.overflow_add-node-3
overflow_add-node-3 c =
    omega (arith, lent_length c.requires.node _ c.start_of-a.ensures)

pub returns : goal.returns
returns c =
    λ s. element_put s _ c.start_of-a.ensures _ _ c.open_gap.ensures
