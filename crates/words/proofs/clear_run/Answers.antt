-- `clear_run` meets its contract, word by word: those of the run are 0, and the others stand where they stood.
use Rattle.std.proofs.Common.{ℕ, ◌-◌, arith, replicate, rules}
use Rattle.std.proofs.lemmas.List.{length-replicate, get_or-replicate}
use Rattle.words.proofs.Laws.{stored, parts}
use Rattle.words.proofs.clear_run.Goals as goal

pub returns : goal.returns
returns c =
    let a = c.args in
    let filled = c.fill.ensures.after (λ y e. search rules) in
    stored a.w.now _ a.at a.n (replicate a.n 0) (length-replicate a.n 0) c.requires (grind (arith, parts))
    (λ k low high. rw (get_or-replicate {A = ℕ} a.n (k - a.at) 0 0 (omega arith)) (grind (arith, parts, get_or-replicate, filled)))
    (λ k o. grind (arith, parts))
