-- `append` meets its contract: the separator, the right node's elements and its children, if it has any, stand behind the left node's own.
use mathlib.Core.Path.{◌≡◌, sym, ◌∙◌}
use mathlib.Core.Logic.{inl, inr}
use native.Mathlib.Omega.{arith}
use borrow.Author.Tests.{eqb-true}
use lib.ListN.{length, length-set}
use Rattle.pieces.proofs.Pieces.{bounds, appended}
use Rattle.pieces.proofs.append.Goals as goal
use Rattle.pieces.proofs.append.Goals.{then-not-leaf_at, else-not-leaf_at}

pub overflow_add-s : goal.overflow_add-s
overflow_add-s c =
    omega (arith, bounds c.requires c.count_at-m.ensures c.count_at-n.ensures c.length_at.ensures c.length_at-2.ensures)

pub overflow_add-s-2 : goal.overflow_add-s-2
overflow_add-s-2 c =
    omega (arith, bounds c.requires c.count_at-m.ensures c.count_at-n.ensures c.length_at.ensures c.length_at-2.ensures)

pub copy_run-requires-clause-n_in_bounds : goal.copy_run-requires-clause-n_in_bounds
copy_run-requires-clause-n_in_bounds c =
    simp length-set (omega (arith, bounds c.requires c.count_at-m.ensures c.count_at-n.ensures c.length_at.ensures c.length_at-2.ensures))

pub copy_run-requires-clause-n_in_bounds_2 : goal.copy_run-requires-clause-n_in_bounds_2
copy_run-requires-clause-n_in_bounds_2 c =
    simp length-set (omega (arith, bounds c.requires c.count_at-m.ensures c.count_at-n.ensures c.length_at.ensures c.length_at-2.ensures))

pub copy_run-requires-then-not-leaf_at-clause-n_in_bounds : goal.copy_run-requires-then-not-leaf_at-clause-n_in_bounds
copy_run-requires-then-not-leaf_at-clause-n_in_bounds c =
    let l : length c.copy_run.new.w ≡ length c.args.pool.now = simp length-set at c.copy_run.auto.w in
    omega (arith, bounds c.requires c.count_at-m.ensures c.count_at-n.ensures c.length_at.ensures c.length_at-2.ensures, l)

pub copy_run-requires-then-not-leaf_at-clause-n_in_bounds_2 : goal.copy_run-requires-then-not-leaf_at-clause-n_in_bounds_2
copy_run-requires-then-not-leaf_at-clause-n_in_bounds_2 c =
    let l : length c.copy_run.new.w ≡ length c.args.pool.now = simp length-set at c.copy_run.auto.w in
    omega (arith, bounds c.requires c.count_at-m.ensures c.count_at-n.ensures c.length_at.ensures c.length_at-2.ensures, l)

pub returns : goal.returns
returns c s =
    appended s _ _ c.start_of-a.ensures c.start_of-b.ensures _ _ _ _ _ _ _ c.count_at-m.ensures c.count_at-n.ensures
    c.length_at.ensures c.length_at-2.ensures c.copy_run.ensures
    (elim c.if-not-leaf_at.branch [
      | then-not-leaf_at w ↦ inl (w.pool-is ∙ w.copy_run-then-not-leaf_at.ensures)
      | else-not-leaf_at w ↦ inr (eqb-true _ _ (sym c.leaf_at.ensures ∙ w.if-not-leaf_at.false), w.pool-is)
    ])
