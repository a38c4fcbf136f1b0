-- `swap_element` meets its contract: one word of the node is read and stored. That it is the one given back is found by arithmetic.
use native.Mathlib.Omega.{arith}
use Rattle.tree.proofs.Standing.{swaps}
use Rattle.tree.proofs.swap_element.Goals as goal

pub returns : goal.returns
returns c s = rw c.replace.ensures.after (swaps s _ c.start_of-a.ensures c.args.x _ (omega arith))
