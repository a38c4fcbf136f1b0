-- `needed` meets its contract: each answer hands what the calls ensured to a law of `Rooting`.
use native.Mathlib.Omega.{arith}
use Rattle.insertion.proofs.Rooting.{few_levels, root_upto, root_node, root_few, needs_one, two_more, none_more}
use Rattle.insertion.proofs.needed.Goals as goal

pub returns-then-known-eq0 : goal.returns-then-known-eq0
returns-then-known-eq0 c =
    needs_one c.if-known-eq0.true

pub needed_below-below-requires : goal.needed_below-below-requires
needed_below-below-requires c =
    root_upto c.requires c.if-known-eq0.false

pub is_full-requires : goal.is_full-requires
is_full-requires c =
    root_node c.requires c.if-known-eq0.false

pub overflow_add-result : goal.overflow_add-result
overflow_add-result c =
    omega (arith, few_levels c.requires, root_few c.requires c.if-known-eq0.false _ c.needed_below-below.ensures)

pub returns-then-is_full : goal.returns-then-is_full
returns-then-is_full c =
    λ b. two_more b c.if-known-eq0.false _ c.needed_below-below.ensures _ c.is_full.ensures c.if-is_full.true

pub returns-else-is_full : goal.returns-else-is_full
returns-else-is_full c =
    λ b. none_more b c.if-known-eq0.false _ c.needed_below-below.ensures _ c.is_full.ensures c.if-is_full.false
