-- `all_filled` meets its contract. Invariant: of the nodes of the first i words those that are marked are filled.
use mathlib.Core.Path.{◌≡◌}
use Prim.Native.Nat.{ℕ, ◌*◌, ◌≤◌}
use Rattle.marks.specs.Marks.{seen}
use Rattle.sound.specs.Filled.{Filled}
use Rattle.sound.proofs.all_filled.Given as goal

abbrev pub invariant-loop-i : goal.invariant-loop-i
invariant-loop-i l =
    (k : ℕ) → 1 ≤ k → k ≤ l.i * 64 → seen l.marks k ≡ 1 → Filled l.pool k
