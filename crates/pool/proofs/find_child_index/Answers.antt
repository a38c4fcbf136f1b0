use Rattle.std.proofs.Common.{arith}
use Rattle.lists.specs.Lists.{sum}
use Rattle.words.specs.Words.{run}
use Rattle.pool.proofs.Finding.{stops, goes_on}
use Rattle.pool.proofs.find_child_index.Goals as goal
use Rattle.pool.proofs.find_child_index.Goals.{else-loop-child-test, then-loop-child-test+else-sub-n+else-child-child-end}

pub loop-child-init : goal.loop-child-init
unfolding run sum
loop-child-init c =
    omega arith

pub returns-then-sub-n : goal.returns-then-sub-n
returns-then-sub-n c =
    stops _ _ _ c.requires _ _ (omega arith) c.kid.ensures _ _ c.length_at-n.ensures c.loop-child.invariant (omega arith)

pub loop-child-preserved : goal.loop-child-preserved
loop-child-preserved c =
    (goes_on _ _ _ c.requires _ _ (omega arith) c.kid.ensures _ _ c.length_at-n.ensures c.loop-child.invariant (omega arith)).1

pub unreachable-requires : goal.unreachable-requires
unreachable-requires c =
    elim c.loop-child-test.branch [
      | else-loop-child-test w ↦ omega arith
      | then-loop-child-test+else-sub-n+else-child-child-end w ↦
          omega (arith, goes_on _ _ _ c.requires _ _ (omega arith) w.kid.ensures _ _ w.length_at-n.ensures c.loop-child.invariant (omega arith))
    ]
