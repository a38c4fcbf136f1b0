-- `within_reach` meets its contract. Invariant: what is left was divided once for each level passed.
use mathlib.Core.Path.{◌≡◌}
use Prim.Native.Nat.{◌+◌, ◌*◌, ◌/◌, ◌^◌}
use Rattle.shape.proofs.within_reach.Given as goal

abbrev pub invariant-loop : goal.invariant-loop
invariant-loop l =
    l.left ≡ (31 * l.p + 1) / 2 / 16 ^ l.counter
