-- `open_gap` meets its contract: the words of the gap are shifted up in their own part.
use mathlib.Core.Path.{◌≡◌}
use mathlib.Core.List.{List, ◌∷◌}
use Prim.Native.Nat.{ℕ, ◌+◌, ◌-◌, ◌≤◌}
use native.Mathlib.Nat.{add-zero}
use native.Mathlib.Omega.{arith}
use borrow.Rule.Slice.PartMut.{put_mid}
use lib.ListN.{length}
use lib.Seq.{sets}
use Rattle.words.specs.Words.{run}
use Rattle.words.proofs.Laws.{run_length, run-run, part_put}
use Rattle.words.proofs.open_gap.Goals as goal

-- i and n are the place and the length of the part that is lent
opened : (w : List ℕ) (at m i n x : ℕ) → i ≡ at → m + 1 ≡ n → at + n ≤ length w → (last : List ℕ)
    → last ≡ x ∷ run (run w i n) 0 (length (run w i n) - 1) → put_mid i n w last ≡ sets w at (x ∷ run w at m)
opened w at m i n x f s room last e =
    let k : length (run w at n) ≡ n = run_length w at n room in
    let o : n - 1 ≡ m = omega arith in
    let l : length (x ∷ run w at m) ≡ n = omega (arith, run_length w at m (omega arith)) in
    let r : run (run w at n) 0 m ≡ run w at m = rw add-zero at (run-run w at n 0 m (omega arith)) in
    rw (e, f, k, o, r) (part_put w at n (x ∷ run w at m) room l)

pub returns : goal.returns
unfolding run
returns c =
    let a = c.args in
    opened a.w.now a.at (a.end - a.at) _ _ a.x (omega arith) (omega arith) (omega arith) _ c.shift_up.ensures
