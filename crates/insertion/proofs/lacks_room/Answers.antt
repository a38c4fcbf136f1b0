-- `lacks_room` meets its contract: each answer hands what the calls ensured to a law of `Rooting`.
use mathlib.Core.Path.{sym, ◌∙◌}
use native.Mathlib.Omega.{arith}
use borrow.Author.Tests.{le-ltb}
use Rattle.insertion.proofs.Rooting.{few_levels, ample}
use Rattle.insertion.proofs.lacks_room.Goals as goal

pub overflow_add-known : goal.overflow_add-known
overflow_add-known c =
    omega (arith, few_levels c.requires)

pub returns-else-known : goal.returns-else-known
returns-else-known c =
    λ b. le-ltb _ _ (omega arith) ∙ sym (ample b (omega arith))
