-- `lengthen` meets its contract: one word is stored, the node's second.
use native.Mathlib.Omega.{arith}
use Rattle.tree.proofs.Standing.{length_word}
use Rattle.insertion.proofs.Nodes.{lengthened}
use Rattle.insertion.proofs.lengthen.Goals as goal

pub overflow_add-pool-2 : goal.overflow_add-pool-2
overflow_add-pool-2 c =
    omega (arith, length_word c.requires.node _ c.start_of-a.ensures)

pub returns : goal.returns
returns c =
    λ s. lengthened s _ c.start_of-a.ensures
