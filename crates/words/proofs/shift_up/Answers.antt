-- `shift_up` meets its contract, word by word: x stands first, and behind it each word but the last.
use Rattle.std.proofs.Common.{◌≡◌, List, ◌∷◌, ℕ, ◌+◌, ◌-◌, ◌<◌, length, get_or, arith}
use Rattle.std.proofs.lemmas.Grind.{elements}
use Rattle.words.specs.Words.{run}
use Rattle.words.proofs.Laws.{run_length, run-get_or, stores}
use Rattle.words.proofs.shift_up.Goals as goal

shifted : (w ys : List ℕ) (m x : ℕ) → m + 1 ≡ length w → length ys ≡ length w → get_or ys 0 0 ≡ x
    → ((k : ℕ) → 0 < k → k < length w → get_or ys k 0 ≡ get_or w (k - 1) 0) → ys ≡ x ∷ run w 0 m
shifted w ys m x e l first behind = grind (arith, elements, run_length, run-get_or, first, behind)

pub returns : goal.returns
returns c =
    let w = c.args.part.now in
    shifted w _ (length w - 1) c.args.x (omega arith) (grind (arith, stores)) (grind (arith, stores)) (λ k some l. grind (arith, stores))
