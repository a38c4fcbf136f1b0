-- `close_gap` meets its contract: the words of the gap are shifted down in their own part.
use mathlib.Core.Path.{◌≡◌}
use mathlib.Core.List.{List, [], ◌∷◌, ◌++◌}
use Prim.Native.Nat.{ℕ, ◌+◌, ◌-◌, ◌≤◌, ◌<◌}
use native.Mathlib.Omega.{arith}
use borrow.Rule.Slice.PartMut.{put_mid}
use lib.ListN.{length, length-append}
use lib.Seq.{sets}
use Rattle.words.specs.Words.{run}
use Rattle.words.proofs.Laws.{run_length, run-run, part_put}
use Rattle.words.proofs.close_gap.Goals as goal

-- i and m are the place and the length of the part that is lent
closed : (w : List ℕ) (at n i m : ℕ) → i ≡ at → m ≡ n → 0 < n → at + n ≤ length w → (last : List ℕ)
    → last ≡ run (run w i m) 1 (length (run w i m) - 1) ++ 0 ∷ [] → put_mid i m w last ≡ sets w at (run w (at + 1) (n - 1) ++ 0 ∷ [])
closed w at n i m f g some room last e =
    let k : length (run w at n) ≡ n = run_length w at n room in
    let l : length (run w (at + 1) (n - 1) ++ 0 ∷ []) ≡ n =
    rw length-append (omega (arith, run_length w (at + 1) (n - 1) (omega arith))) in
    rw (e, f, g, k, run-run w at n 1 (n - 1) (omega arith)) (part_put w at n (run w (at + 1) (n - 1) ++ 0 ∷ []) room l)

pub returns-clause-w_after : goal.returns-clause-w_after
unfolding run
returns-clause-w_after c =
    let a = c.args in
    closed a.w.now a.at (a.end - a.at) _ _ (omega arith) (omega arith) (omega arith) (omega arith) _ c.shift_down.ensures.part_after
