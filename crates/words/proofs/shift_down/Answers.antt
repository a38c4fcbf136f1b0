-- `shift_down` meets its contract, word by word: each but the last is the one that stood behind it, and the last is 0.
use Rattle.std.proofs.Common.{◌≡◌, List, [], ◌∷◌, ◌++◌, ℕ, ◌+◌, ◌-◌, ◌<◌, length, get_or, arith}
use Rattle.std.proofs.lemmas.Grind.{elements}
use Rattle.words.specs.Words.{run}
use Rattle.words.proofs.Laws.{run_length, run-get_or, stores}
use Rattle.words.proofs.shift_down.Goals as goal

shifted : (w ys : List ℕ) (m : ℕ) → m + 1 ≡ length w → length ys ≡ length w
    → ((k : ℕ) → k < m → get_or ys k 0 ≡ get_or w (1 + k) 0) → get_or ys m 0 ≡ 0 → ys ≡ run w 1 m ++ 0 ∷ []
shifted w ys m e l before last = grind (arith, elements, run_length, run-get_or, before, last)

pub returns-clause-part_after : goal.returns-clause-part_after
returns-clause-part_after c =
    let w = c.args.part.now in
    shifted w _ (length w - 1) (omega arith) (grind (arith, stores)) (λ k h. grind (arith, stores)) (grind (arith, stores))
