-- `grown` and `grown_kids`, which call each other. Measures: twice the levels, and one more for the children.
-- Invariant of the loop: the children before c are well grown, and their nodes are marked.
use Prim.Native.Nat.{◌+◌, ◌*◌}
use Rattle.shape.proofs.Walk.{Walked}
use Rattle.shape.proofs.+grown_grown_kids.Given as goal

abbrev pub decreases-grown : goal.decreases-grown
decreases-grown l = 2 * l.levels

abbrev pub decreases-grown_kids : goal.decreases-grown_kids
decreases-grown_kids l = 2 * l.levels + 1

abbrev pub invariant-grown_kids-loop-c : goal.invariant-grown_kids-loop-c
invariant-grown_kids-loop-c l = Walked l.pool l.p l.levels l.k l.initial.marks l.marks l.c
