-- `depth` meets its contract. Invariant: the levels passed and those from `at` on are those from k on.
use mathlib.Core.Path.{◌≡◌}
use mathlib.Core.List.{List}
use Prim.Native.Nat.{ℕ, ◌+◌, ◌-◌, ◌≤◌}
use Rattle.pool.specs.Parts.{levels_at}
use Rattle.shape.proofs.depth.Given as goal

abbrev pub Passed : List ℕ → ℕ → ℕ → ℕ → ℕ → Type 0
Passed w p k at levels = (1 ≤ at) × (levels + levels_at (p - levels) w at ≡ levels_at p w k)

abbrev pub invariant-loop-levels : goal.invariant-loop-levels
invariant-loop-levels l =
    Passed l.pool l.p l.k l.at l.levels
