-- `sum_lengths` meets its contract. Invariant: the sum is that of the children passed.
use Rattle.std.proofs.Common.{◌≡◌, take, drop}
use Rattle.lists.proofs.Sums.{total}
use Rattle.pool.specs.Parts.{length_at}
use Rattle.split.specs.Nodes.{Summed}
use Rattle.split.proofs.sum_lengths.Given as goal

abbrev pub invariant-loop-j : goal.invariant-loop-j
invariant-loop-j l =
    (s : Summed l.pool l.k l.from) → l.sum ≡ total (length_at l.pool) (take l.j-index (drop l.from s.node.kids))
