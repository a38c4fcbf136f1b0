-- `adds_up` meets its contract. Invariant: the length is the elements, the lengths of the children before c, and what is left.
use mathlib.Core.Path.{◌≡◌}
use mathlib.Core.List.{List}
use Prim.Native.Nat.{ℕ, ◌+◌}
use Rattle.lists.proofs.Sums.{total}
use Rattle.words.specs.Words.{run}
use Rattle.pool.specs.Layout.{block}
use Rattle.pool.specs.Parts.{count_at, length_at}
use Rattle.sound.proofs.adds_up.Given as goal

-- the lengths of the first c children
abbrev pub before : List ℕ → ℕ → ℕ → ℕ
before w k c = total (length_at w) (run (block w k) 33 c)

abbrev pub Left : List ℕ → ℕ → ℕ → ℕ → Type 0
Left w k c left = length_at w k ≡ count_at w k + (before w k c + left)

abbrev pub invariant-loop-c : goal.invariant-loop-c
invariant-loop-c l =
    Left l.pool l.k l.c l.left
