-- `lower` meets its contract: the root stays, or its node is freed and the child that it had takes over.
use mathlib.Core.Path.{refl}
use native.Mathlib.Omega.{arith}
use Rattle.removal.proofs.Lowering.{free_few, lower-stays, lower_gone, lower-kid}
use Rattle.removal.proofs.lower.Goals as goal

pub returns-then-count_at-gt0 : goal.returns-then-count_at-gt0
returns-then-count_at-gt0 c s =
    lower-stays s _ c.count_at.ensures c.if-count_at-gt0.true

pub overflow_add-free : goal.overflow_add-free
overflow_add-free c =
    omega (arith, free_few c.requires, c.well_formed.0.0)

pub returns-then-known-eq0 : goal.returns-then-known-eq0
returns-then-known-eq0 c =
    λ s. lower_gone s (omega (arith, c.count_at.ensures, c.if-count_at-gt0.false)) _ c.give_node.ensures c.if-known-eq0.true _ refl

pub returns-else-known-eq0 : goal.returns-else-known-eq0
returns-else-known-eq0 c =
    λ s. lower-kid s (omega (arith, c.count_at.ensures, c.if-count_at-gt0.false)) _ c.give_node.ensures c.if-known-eq0.false _ c.kid_at-k.ensures _ refl
