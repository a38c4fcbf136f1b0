-- `rest_zeros` meets its contract. Invariant: the words passed are 0. Measure: the element slots left.
use Prim.Native.Nat.{◌-◌, ◌≤◌}
use Rattle.pool.specs.Layout.{block}
use Rattle.sound.specs.Filled.{Clear}
use Rattle.sound.proofs.rest_zeros.Given as goal

abbrev pub invariant-loop-i : goal.invariant-loop-i
invariant-loop-i l =
    (l.from ≤ l.i) × Clear (block l.pool l.k) l.from l.i

abbrev pub decreases-loop-i : goal.decreases-loop-i
decreases-loop-i l =
    33 - l.i
