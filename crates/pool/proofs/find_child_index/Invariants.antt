-- `find_child_index` meets its contract. Invariant: the index is `sub` more than what comes before the child.
use Rattle.std.proofs.Common.{◌≡◌, ◌+◌}
use Rattle.pool.proofs.Finding.{before}
use Rattle.pool.proofs.find_child_index.Given as goal

abbrev pub invariant-loop-child : goal.invariant-loop-child
invariant-loop-child l =
    l.index ≡ before l.pool l.node l.child + l.sub
