-- The laws of the program's work: the empty list that it starts from, the answers, and the last record behind them.
use mathlib.Core.Path.{◌≡◌, refl, sym, ap, ◌∙◌}
use mathlib.Core.List.{List, ◌∷◌, ◌++◌}
use mathlib.Core.Bool.{Bool, true, false, cond}
use Prim.Native.Nat.{ℕ, ◌+◌, ◌-◌, ◌≤◌, ◌<◌}
use native.Mathlib.Nat.{zero-add}
use native.Mathlib.Omega.{arith}
use borrow.Rule.Slice.PartMut.{put_mid}
use borrow.Author.Tests.{lt-ltb, le-ltb}
use lib.Dec.{ltb}
use lib.ListN.{length, length-append}
use lib.Seq.{sets, length-sets}
use Rattle.words.specs.Words.{run}
use Rattle.words.proofs.Laws.{sets-append, run-sets, run_length}
use Rattle.model.specs.declared.Answer.{Answer}
use Rattle.model.specs.Tree.{Bag, empty}
use Rattle.pool.specs.Sound.{Holds, fits}
use Rattle.pool.proofs.Whole.{holds-empty}
use Rattle.admission.specs.Promise.{Formats}
use Rattle.records.specs.Numbers.{bytes_of}
use Rattle.records.proofs.Laws.{number_put}
use Rattle.commands.specs.declared.Ran.{Ran}
use Rattle.commands.specs.Steps.{batch_of}
use Rattle.commands.specs.OnBag.{on_bag, ran_of}
use Rattle.batch.specs.Batch.{Batches}
use Rattle.batch.proofs.Room.{never_7}
use Rattle.scan.specs.Scan.{most_input, pool_nodes, output_bytes, closing, ended, scan_of, Scans}

-- 01: 18,436 bytes do for the most input
pub enough_output : (input : List ℕ) (size : ℕ) → length input ≤ most_input → 18436 ≤ size → (b : Bag)
    → (batch_of on_bag input size b).number ≡ 7 → ⊥
enough_output input size few wide b = (never_7 input size (omega arith) b).0

-- ---- the last record

pub closed : (s v bs : List ℕ) (at end number commands read : ℕ) → at + 10 ≤ length s
    → end ≡ at + length (143 ∷ bytes_of 1 number ++ bytes_of 4 commands) → v ≡ sets s at (143 ∷ bytes_of 1 number ++ bytes_of 4 commands)
    → bs ≡ bytes_of (length (run v end (end + 4 - end))) read → put_mid end (end + 4 - end) v bs ≡ sets s at (closing number commands read)
unfolding bytes_of closing
closed s v bs at end number commands read room e f g =
    let head = 143 ∷ bytes_of 1 number ++ bytes_of 4 commands in
    let fits : end + 4 ≤ length v = rw (f, length-sets s at head) (omega arith) in
    rw (number_put v bs end (end + 4) 4 read refl fits g, f, e) (sym (sets-append s at head (bytes_of 4 read)))

closing-length : (number commands read : ℕ) → length (closing number commands read) ≡ 10
unfolding closing
closing-length number commands read = refl

-- ---- the pool that it starts from

pub formatted : (w : List ℕ) {w' : List ℕ} {r : Answer} → length w ≡ 3962 → Formats w r w' → Holds w' (empty pool_nodes)
unfolding fits
formatted w {w'} e F = rw ((F.fits (rw e)).1, e) (holds-empty pool_nodes (omega arith))

-- ---- the answers, and the last record behind them

pub too_much : (input out : List ℕ) {out' : List ℕ} → most_input < length input → length out ≡ output_bytes → out' ≡ sets out 0 (closing 8 0 0)
    → Scans input 10 out'
unfolding scan_of
too_much input out l sized e =
    let fits : 0 + 10 ≤ length out = omega (arith, sized) in
    record {
      fits = rw (e, length-sets out 0 (closing 8 0 0)) fits;
      bytes = rw (e, lt-ltb most_input (length input) l) (run-sets out 0 (closing 8 0 0) 10 (closing-length 8 0 0) fits);
    }

module _ (input out : List ℕ) {w w' out' : List ℕ} {r : Ran} (H : Holds w (empty pool_nodes)) (sized : length out ≡ output_bytes)
    (few : length input ≤ most_input) (B : Batches w input out r w' out') where
  ran : r ≡ ran_of (ended input)
  ran = rw sized at (B.holds (empty pool_nodes) H).ran

  output : out' ≡ sets out 0 (ended input).progress.answers
  output = rw sized at (B.holds (empty pool_nodes) H).output

  abbrev answers : List ℕ
  answers = (ended input).progress.answers

  short : length answers + 10 ≤ length out
  short =
      let N = never_7 input output_bytes (omega arith) (empty pool_nodes) in
      omega (arith, sized, N.1.0, N.1.1)

  pub answers_fit : r.written + 10 ≤ length out'
  answers_fit = rw (ran, output, length-sets out 0 answers) short

  pub scans : {out'' : List ℕ} → out'' ≡ sets out' r.written (closing r.number r.commands r.read) → Scans input (r.written + 10) out''
  unfolding scan_of
  scans {out''} e =
      let last = closing (ended input).number (ended input).progress.commands (ended input).progress.read in
      let whole : out'' ≡ sets out 0 (answers ++ last) =
      e ∙ rw (ran, output, sets-append out 0 answers last, zero-add (length answers)) in
      let long : length (answers ++ last) ≡ length answers + 10 =
      length-append answers last
      ∙ ap (λ (n : ℕ). length answers + n) (closing-length (ended input).number (ended input).progress.commands (ended input).progress.read) in
      let fits : 0 + (length answers + 10) ≤ length out = omega (arith, short) in
      rw ran (record {
        fits = rw (whole, length-sets out 0 (answers ++ last)) short;
        bytes = rw (whole, le-ltb most_input (length input) few) (run-sets out 0 (answers ++ last) (length answers + 10) long fits);
      })

-- whatever the input, the last record is there
pub at_least_last : {input out : List ℕ} {r : ℕ} → Scans input r out → 10 ≤ r
unfolding scan_of
at_least_last {input} {out} {r} S = go (ltb most_input (length input)) S.bytes
  where
    answers : List ℕ
    answers = (ended input).progress.answers

    last : List ℕ
    last = closing (ended input).number (ended input).progress.commands (ended input).progress.read

    ten : length last ≡ 10
    ten = closing-length (ended input).number (ended input).progress.commands (ended input).progress.read

    long : length (run out 0 r) ≡ r
    long = run_length out 0 r (omega (arith, S.fits))

    go : (b : Bool) → run out 0 r ≡ cond b (closing 8 0 0) (answers ++ last) → 10 ≤ r
    go true e = omega (arith, long, ap length e, closing-length 8 0 0)
    go false e = omega (arith, long, ap length e, length-append answers last, ten)
