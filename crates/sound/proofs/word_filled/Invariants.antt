-- `word_filled` meets its contract. Invariant: what is left is of the word, and of the marks taken out each is of a filled node.
-- Measure: what is left, as a number.
use mathlib.Core.Path.{◌≡◌}
use Prim.Native.Nat.{ℕ, ◌+◌, ◌<◌}
use Rattle.std.specs.Int.{bit_at}
use Rattle.sound.specs.Filled.{Filled}
use Rattle.sound.proofs.word_filled.Given as goal

abbrev pub invariant-loop-rest : goal.invariant-loop-rest
invariant-loop-rest l =
    ((j : ℕ) → bit_at l.rest j ≡ 1 → bit_at l.word j ≡ 1) × ((j : ℕ) → j < 64 → bit_at l.word j ≡ 1 → bit_at l.rest j ≡ 0 → Filled l.pool (l.first + j))

abbrev pub decreases-loop-rest : goal.decreases-loop-rest
decreases-loop-rest l =
    l.rest
