-- How much a batch reads and writes: never more than is lent; and at most 9 bytes are written for a byte read, so that an output of 9 bytes
-- for each and 4 more never stops it with 7.
use mathlib.Core.Path.{◌≡◌, refl, subst}
use mathlib.Core.List.{List}
use mathlib.Core.Bool.{Bool, true, false, cond}
use Prim.Native.Nat.{ℕ, zero, suc, ◌+◌, ◌-◌, ◌*◌, ◌≤◌}
use native.Mathlib.Omega.{arith}
use lib.Dec.{eqb}
use Rattle.std.specs.Prelude.{Result, Ok, Err}
use lib.ListN.{length, length-append}
use Rattle.model.specs.declared.Answer.{Answer}
use Rattle.model.specs.Tree.{Bag}
use Rattle.admission.proofs.One.{decided}
use Rattle.records.specs.declared.Command.{Command}
use Rattle.records.specs.declared.Command.TheVariants.{Insert, Remove, Push, Get, Replace, Len}
use Rattle.records.specs.declared.Record.TheVariants.{Refusal}
use Rattle.records.specs.Answers.{record_bytes}
use Rattle.records.proofs.Laws.{Bodied, Fits, next_fits, record_length}
use Rattle.commands.specs.declared.Ran.{Ran}
use Rattle.commands.specs.declared.Turn.{Turn}
use Rattle.commands.specs.declared.Stop.{Stop}
use Rattle.commands.specs.Steps.{turn_at, Progress, Ended, start, advanced, batch_from, batch_of}
use Rattle.commands.specs.OnBag.{perform, given, reply_to, on_bag}
use Rattle.commands.proofs.Turns.{Runnable, runnable, Open, stays_open, batch_stops, batch_goes}
use Rattle.batch.specs.Batch.{Batches}
use Rattle.batch.specs.Singly.{Stage, Singly, none, next}
use Rattle.batch.proofs.Singly.{one_by_one}

given-small : (c : Command) (a : Answer) (n : ℕ) → 1 ≤ n → Bodied c (n - 1) → length (record_bytes (given c a)) ≤ 9 * n
unfolding record_bytes
given-small (Insert i x) a n l m = omega arith
given-small (Remove i) a n l m = omega arith
given-small (Push x) a n l m = omega arith
given-small (Get i) a n l m = omega arith
given-small (Replace i x) a n l m = omega arith
given-small Len a n l m = omega arith

reply-small : (c : Command) (a : Answer) (n : ℕ) → 1 ≤ n → Bodied c (n - 1) → length (record_bytes (reply_to c a)) ≤ 9 * n
unfolding reply_to record_bytes
reply-small c a n l m = go (eqb a.number 0)
  where
    go : (b : Bool) → length (record_bytes (cond b (given c a) (Refusal a.number))) ≤ 9 * n
    go true = given-small c a n l m
    go false = omega arith

-- a batch that has come so far has written so little
abbrev Light : List ℕ → Progress Bag → Type 0
Light input p = (length p.answers ≤ 9 * p.read) × (p.read ≤ length input)

module _ (input : List ℕ) (size : ℕ) (wide : 9 * length input + 4 ≤ size) where
  abbrev pub Never7 : Ended Bag → Type 0
  Never7 e = (e.number ≡ 7 → ⊥) × Light input e.progress

  one_more : (left : ℕ) → ((p : Progress Bag) → length input ≤ p.read + left → Light input p → Never7 (batch_from on_bag input size left p))
      → (p : Progress Bag) → length input ≤ p.read + suc left → Light input p → Never7 (batch_from on_bag input size (suc left) p)
  unfolding on_bag
  one_more left ih p enough l =
      go (turn_at input p.read room) refl (runnable input p.read room) (stays_open input p.read room (λ h. omega arith))
    where
      room : ℕ
      room = size - length p.answers

      go : (t : Result Turn Stop) → turn_at input p.read room ≡ t → Runnable input p.read room t → Open input p.read room t
          → Never7 (batch_from on_bag input size (suc left) p)
      go (Err z) e f o = rw (batch_stops on_bag input size p (suc left) enough z e) (o, l)
      go (Ok t) e f o =
          let d : suc left - 1 ≡ left = omega arith in
          let a = (on_bag t.command p.state).answer in
          let small = reply-small t.command (perform t.command p.state).answer t.bytes f.0 (subst (Fits input p.read) f.3 (next_fits input p.read)).2 in
          rw (batch_goes on_bag input size p (suc left) enough t e, d)
          (ih (advanced on_bag t.command t.bytes p) (omega (arith, f.0))
          (omega (arith, length-append p.answers (record_bytes a), small, l.0), f.1))

  never7 : (left : ℕ) (p : Progress Bag) → length input ≤ p.read + left → Light input p → Never7 (batch_from on_bag input size left p)
  unfolding batch_from
  never7 zero p enough l = (λ e. absurd (omega arith), l)
  never7 (suc left) p enough l = one_more left (never7 left) p enough l

  pub never_7 : (b : Bag) → Never7 (batch_of on_bag input size b)
  never_7 b = never7 (length input) (start b) (omega arith) (omega arith, omega arith)

-- ---- however long the output is

-- each command ends in the input, and has room for its record
singly_fits : {input : List ℕ} {size : ℕ} {s e : Stage} {cs : List Command} → Singly input size s cs e → s.at ≤ length input
    → length s.bytes ≤ size → (e.at ≤ length input) × (length e.bytes ≤ size)
singly_fits (none s) l m = (l, m)
singly_fits {input} {size} (next s c n a v cs e t C S) l m =
    let room = size - length s.bytes in
    let f = subst (Runnable input s.at room) t (runnable input s.at room) in
    let r = record_bytes (reply_to c a) in
    singly_fits S f.1 (omega (arith, length-append s.bytes r, record_length (reply_to c a), f.2))

-- what a batch read lies in the input, and what it wrote in the output
module _ {w : List ℕ} (input : List ℕ) {out : List ℕ} {r : Ran} {w' out' : List ℕ} (B : Batches w input out r w' out') where
  pub read_fits : r.read ≤ length input
  read_fits =
      decided w (λ n. rw (B.misfit n).ran (omega arith)) (λ z u. rw (B.unsound z u).ran (omega arith))
      (λ b H. (singly_fits (one_by_one B (b, H)).called (omega arith) (omega arith)).0)

  pub written_fits : r.written ≤ length out
  written_fits =
      decided w (λ n. rw (B.misfit n).ran (omega arith)) (λ z u. rw (B.unsound z u).ran (omega arith))
      (λ b H.
      let O = one_by_one B (b, H) in
      rw O.written (singly_fits O.called (omega arith) (omega arith)).1)
