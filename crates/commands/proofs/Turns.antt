-- The laws of a batch's turns: which one comes, and what it means for the rest.
use mathlib.Core.Path.{◌≡◌, refl, ap, subst, ◌∙◌}
use mathlib.Core.List.{List}
use mathlib.Core.Logic.{◌⊎◌}
use mathlib.Core.Bool.{Bool, true, false, cond}
use Prim.Native.Nat.{ℕ, zero, suc, ◌+◌, ◌-◌, ◌≤◌, ◌<◌}
use native.Mathlib.Omega.{arith}
use borrow.Author.Tests.{leb-true, leb-false, ltb-true, ltb-false, lt-ltb, le-ltb}
use lib.Dec.{leb, ltb}
use lib.ListN.{length, get_or}
use Rattle.std.specs.Prelude.{Result, Ok, Err, Option, Some, None}
use Rattle.records.specs.declared.Command.{Command}
use Rattle.records.specs.Commands.{body_of, command_at, Next, End, UnknownKind, CutShort, Whole, whole_at, next_at}
use Rattle.records.specs.Answers.{longest_record}
use Rattle.records.proofs.Laws.{Listed, listed, Fits, next_end, next_whole, next_fits}
use Rattle.commands.specs.declared.Turn.{Turn}
use Rattle.commands.specs.declared.Stop.{Stop}
use Rattle.commands.specs.declared.Stop.TheVariants.{InputEnded, OutputFull}
use Rattle.commands.specs.Steps.{stop_number, turn_of, turn_at, Reply, Progress, advanced, batch_from}

-- ---- which turn comes

module _ (s : List ℕ) (at room : ℕ) where
  pub turn_next : {x : Next} → next_at s at ≡ x → turn_at s at room ≡ turn_of x room
  unfolding turn_at
  turn_next e = rw e

  pub turn_full : {c : Command} {n : ℕ} → next_at s at ≡ Whole c n → room < longest_record → turn_at s at room ≡ Err OutputFull
  turn_full {c} {n} e l = turn_next e ∙ rw (lt-ltb room longest_record l)

  pub turn_run : {c : Command} {n : ℕ} → next_at s at ≡ Whole c n → longest_record ≤ room → turn_at s at room ≡ Ok (record { command = c; bytes = n })
  turn_run {c} {n} e l = turn_next e ∙ rw (le-ltb room longest_record l)

  -- a command that is run has a byte or more, ends in the input, and has room for its record
  abbrev pub Runnable : Result Turn Stop → Type 0
  Runnable (Err z) = Unit {0}
  Runnable (Ok t) =
      (1 ≤ t.bytes) × (at + t.bytes ≤ length s) × (longest_record ≤ room) × (next_at s at ≡ Whole t.command t.bytes)

  pub runnable : Runnable (turn_at s at room)
  unfolding turn_at
  runnable = go (next_at s at) refl (next_fits s at)
    where
      fits : (c : Command) (n : ℕ) → next_at s at ≡ Whole c n → Fits s at (Whole c n) → (b : Bool) → ltb room longest_record ≡ b
          → Runnable (cond b (Err OutputFull) (Ok (record { command = c; bytes = n })))
      fits c n e f true q = tt
      fits c n e f false q = (f.0, f.1, ltb-false room longest_record q, e)

      go : (x : Next) → next_at s at ≡ x → Fits s at x → Runnable (turn_of x room)
      go End e f = tt
      go UnknownKind e f = tt
      go CutShort e f = tt
      go (Whole c n) e f = fits c n e f (ltb room longest_record) refl

  -- with room for a record wherever the input goes on, it does not stop with 7
  abbrev pub Open : Result Turn Stop → Type 0
  Open (Err z) = stop_number z ≡ 7 → ⊥
  Open (Ok t) = Unit {0}

  pub stays_open : (at < length s → longest_record ≤ room) → Open (turn_at s at room)
  unfolding turn_at
  stays_open h = go (next_at s at) (next_fits s at)
    where
      fits : (c : Command) (n : ℕ) → Fits s at (Whole c n) → (b : Bool) → ltb room longest_record ≡ b → Open (cond b (Err OutputFull) (Ok (record { command = c; bytes = n })))
      fits c n f true q = λ e. absurd (omega (arith, ltb-true room longest_record q, h (omega (arith, f.0, f.1))))
      fits c n f false q = tt

      go : (x : Next) → Fits s at x → Open (turn_of x room)
      go End f = λ e. absurd (omega arith)
      go UnknownKind f = λ e. absurd (omega arith)
      go CutShort f = λ e. absurd (omega arith)
      go (Whole c n) f = fits c n f (ltb room longest_record) refl

-- ---- why it stops

-- at a place of the input, with so much room: the input ends there; a kind that is unknown; a known kind, and the input ends inside its
-- body; or a whole command, and fewer than 13 bytes for its record
pub data Stopped (s : List ℕ) (at room : ℕ) : ℕ → Type 0 where
  ended : length s ≤ at → Stopped s at room 0
  unknown : at < length s → (get_or s at 0 ≡ 0) ⊎ (7 ≤ get_or s at 0) → Stopped s at room 5
  cut : (n : ℕ) → at < length s → (1 ≤ get_or s at 0) × (get_or s at 0 ≤ 6) → body_of (get_or s at 0) ≡ Some n → length s < at + 1 + n
      → Stopped s at room 6
  full : (c : Command) (n : ℕ) → next_at s at ≡ Whole c n → room < 13 → Stopped s at room 7

module _ (s : List ℕ) (at room : ℕ) where
  abbrev Why : Result Turn Stop → Type 0
  Why (Err z) = Stopped s at room (stop_number z)
  Why (Ok t) = Unit {0}

  pub stopped : {z : Stop} → turn_at s at room ≡ Err z → Stopped s at room (stop_number z)
  unfolding turn_at next_at
  stopped e = subst Why e (at_end (leb (length s) at) refl)
    where
      fits : (c : Command) (n : ℕ) → next_at s at ≡ Whole c n → (b : Bool) → ltb room longest_record ≡ b → Why (cond b (Err OutputFull) (Ok (record { command = c; bytes = n })))
      fits c n e true q = full c n e (ltb-true room longest_record q)
      fits c n e false q = tt

      whole : at < length s → (n : ℕ) → body_of (get_or s at 0) ≡ Some n → (b : Bool) → leb (at + 1 + n) (length s) ≡ b
          → Why (turn_of (cond b (Whole (command_at s at) (n + 1)) CutShort) room)
      whole l n e true q =
          fits (command_at s at) (n + 1) (next_whole s at l e (leb-true (at + 1 + n) (length s) q)) (ltb room longest_record) refl
      whole l n e false q = cut n l (subst (Listed (get_or s at 0)) e (listed (get_or s at 0))) e (leb-false (at + 1 + n) (length s) q)

      known : at < length s → (b : Option ℕ) → body_of (get_or s at 0) ≡ b → Why (turn_of (whole_at s at b) room)
      known l None e = unknown l (subst (Listed (get_or s at 0)) e (listed (get_or s at 0)))
      known l (Some n) e = whole l n e (leb (at + 1 + n) (length s)) refl

      at_end : (b : Bool) → leb (length s) at ≡ b → Why (turn_of (cond b End (whole_at s at (body_of (get_or s at 0)))) room)
      at_end true q = ended (leb-true (length s) at q)
      at_end false q = known (leb-false (length s) at q) (body_of (get_or s at 0)) refl

-- ---- the rest of a batch

module _ {S : Type 0} (engine : Command → S → Reply S) (input : List ℕ) (size : ℕ) (p : Progress S) where
  pub batch_stops : (left : ℕ) → length input ≤ p.read + left → (z : Stop) → turn_at input p.read (size - length p.answers) ≡ Err z
      → batch_from engine input size left p ≡ record { number = stop_number z; progress = p }
  unfolding batch_from
  batch_stops zero enough z e =
      let n = turn_next input p.read (size - length p.answers) (next_end input p.read (omega arith)) in
      let i : InputEnded ≡ z = cc in
      ap (λ (z : Stop). record { number = stop_number z; progress = p }) i
  batch_stops (suc left) enough z e = rw (e, batch_from)

  -- a command leaves a turn less, and there was one
  pub batch_goes : (left : ℕ) → length input ≤ p.read + left → (t : Turn)
      → turn_at input p.read (size - length p.answers) ≡ Ok t
      → batch_from engine input size left p ≡ batch_from engine input size (left - 1) (advanced engine t.command t.bytes p)
  unfolding batch_from
  batch_goes zero enough t e =
      let f = subst (Runnable input p.read (size - length p.answers)) e (runnable input p.read (size - length p.answers)) in
      absurd (omega (arith, f.0, f.1))
  batch_goes (suc left) enough t e =
      let d : suc left - 1 ≡ left = omega arith in
      rw (d, e, batch_from)
