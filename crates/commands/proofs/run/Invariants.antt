-- `run` meets its contract. Invariant: the batch has come so far (`Going`). Measure: the input that is left.
use Prim.Native.Nat.{◌-◌}
use lib.ListN.{length}
use Rattle.calls.specs.Does.{Ready}
use Rattle.commands.proofs.Going.{Going}
use Rattle.commands.proofs.run.Given as goal

abbrev pub invariant-loop-turn : goal.invariant-loop-turn
invariant-loop-turn l =
    (s : Ready l.initial.pool l.initial.known) → Going s.bag l.input l.initial.output l.pool l.output l.known l.commands l.read l.written

abbrev pub decreases-loop-turn : goal.decreases-loop-turn
decreases-loop-turn l = length l.input - l.read
