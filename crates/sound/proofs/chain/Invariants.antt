-- `chain` meets its contract. Invariant: the nodes passed are free, and marked.
use Rattle.sound.proofs.Chaining.{Passed}
use Rattle.sound.proofs.chain.Given as goal

abbrev pub invariant-loop-free : goal.invariant-loop-free
invariant-loop-free l =
    Passed l.pool l.p l.initial.marks l.marks l.k l.free
