-- `split_child` meets its contract: each answer hands what the calls ensured to a law of `Splitting`.
use mathlib.Core.Path.{refl}
use native.Mathlib.Omega.{arith}
use Rattle.split.proofs.Halves.{summed_less}
use Rattle.split.proofs.Splitting.{has_middle, has_summed, moves, keeps, takes, split_done}
use Rattle.split.proofs.split_child.Goals as goal

pub element-middle-requires : goal.element-middle-requires
element-middle-requires c =
    has_middle c.requires _ c.kid_at-child.ensures

pub sum_lengths-left-requires : goal.sum_lengths-left-requires
sum_lengths-left-requires c =
    has_summed c.requires _ c.kid_at-child.ensures 0 (omega arith)

pub overflow_add-left : goal.overflow_add-left
overflow_add-left c =
    let s = has_summed c.requires _ c.kid_at-child.ensures 0 (omega arith) in
    omega (arith, c.sum_lengths-left.ensures s, summed_less s 16)

pub sum_lengths-right-requires : goal.sum_lengths-right-requires
sum_lengths-right-requires c =
    has_summed c.requires _ c.kid_at-child.ensures 16 (omega arith)

pub overflow_add-right : goal.overflow_add-right
overflow_add-right c =
    let s = has_summed c.requires _ c.kid_at-child.ensures 16 (omega arith) in
    omega (arith, c.sum_lengths-right.ensures s, summed_less s 16)

pub move_upper-requires : goal.move_upper-requires
move_upper-requires c =
    moves c.requires _ c.kid_at-child.ensures _ _ c.take_node-sibling.ensures

pub keep_lower-requires : goal.keep_lower-requires
keep_lower-requires c =
    keeps c.requires _ c.kid_at-child.ensures _ _ c.take_node-sibling.ensures _ _ c.move_upper.ensures

pub put_separator-requires : goal.put_separator-requires
put_separator-requires c =
    takes c.requires _ c.kid_at-child.ensures _ _ c.take_node-sibling.ensures _ _ c.move_upper.ensures _ _ c.keep_lower.ensures

pub returns : goal.returns
returns c =
    λ s.
    split_done s _ c.kid_at-child.ensures _ _ c.take_node-sibling.ensures _ _ c.move_upper.ensures _ _ c.keep_lower.ensures
    _ _ _ _ c.sum_lengths-left.ensures c.sum_lengths-right.ensures refl refl c.element-middle.ensures c.put_separator.ensures
