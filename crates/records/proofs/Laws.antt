-- The laws of numbers in bytes.
use mathlib.Core.Path.{◌≡◌, refl, ap}
use mathlib.Core.List.{List}
use mathlib.Core.Logic.{◌⊎◌}
use Prim.Native.Nat.{ℕ, zero, suc, ◌+◌, ◌-◌, ◌*◌, ◌/◌, ◌%◌, ◌^◌, ◌≤◌, ◌<◌}
use native.Mathlib.Omega.{arith}
use borrow.Author.Tests.{le-leb, lt-leb}
use borrow.Rule.Slice.PartMut.{put_mid}
use lib.ListN.{length, get_or}
use lib.Pow.{pow-add}
use lib.Seq.{sets}
use Rattle.std.specs.Prelude.{Option, Some, None}
use Rattle.std.proofs.lemmas.Bool.Decides.{nat_tests}
use Rattle.lists.proofs.All.{All, nil, cons}
use Rattle.words.specs.Words.{run}
use Rattle.words.proofs.Laws.{run_length, part_put}
use Rattle.records.specs.Numbers.{bytes_of, number_of}
use Rattle.records.specs.Commands.{body_of, command_at, Stands, Next, End, UnknownKind, CutShort, Whole, next_at}
use Rattle.records.specs.Answers.{record_bytes, longest_record}
use Rattle.records.specs.declared.Record.{Record}
use Rattle.records.specs.declared.Record.TheVariants.{Done, Element, Length, Refusal, Got}
use Rattle.records.specs.declared.Command.{Command}
use Rattle.records.specs.declared.Command.TheVariants.{Insert, Remove, Push, Get, Replace, Len}

pub bytes-length : (n x : ℕ) → length (bytes_of n x) ≡ n
unfolding bytes_of
bytes-length zero x = refl
bytes-length (suc n) x = ap suc (bytes-length n (x / 256))

-- ---- there and back: a number that fits its bytes is read as it was written, and bytes are written as they were read

pub number_bytes : (n x : ℕ) → x < 2 ^ (8 * n) → number_of (bytes_of n x) ≡ x
unfolding bytes_of number_of
number_bytes zero x h = omega arith
number_bytes (suc n) x h =
    let a : 8 * suc n ≡ 8 + 8 * n = omega arith in
    let l = rw (a, pow-add 2 8 (8 * n)) at h in
    rw (number_bytes n (x / 256) (omega arith)) (omega arith)

pub bytes_number : {bs : List ℕ} → All (λ b. b < 256) bs → bytes_of (length bs) (number_of bs) ≡ bs
unfolding bytes_of number_of
bytes_number nil = refl
bytes_number (cons {x = b} {xs = bs} l ls) =
    let low : (b + 256 * number_of bs) % 256 ≡ b = omega arith in
    let high : (b + 256 * number_of bs) / 256 ≡ number_of bs = omega arith in
    rw (low, high, bytes_number ls)

-- ---- writing

-- the bytes from a place to another, lent and come back as a number of as many bytes
pub number_put : (w bs : List ℕ) (from to n x : ℕ) → from + n ≡ to → to ≤ length w → bs ≡ bytes_of (length (run w from (to - from))) x
    → put_mid from (to - from) w bs ≡ sets w from (bytes_of n x)
number_put w bs from to n x e h b =
    let d : to - from ≡ n = omega arith in
    rw (b, d, run_length w from n (omega arith)) (part_put w from n (bytes_of n x) (omega arith) (bytes-length n x))

-- ---- commands

pub whole_stands : {s : List ℕ} {at n : ℕ} → at < length s → body_of (get_or s at 0) ≡ Some n → at + 1 + n ≤ length s → Stands s at
whole_stands {s} {at} h e l = record { kind = h; body = λ m f. grind arith }

-- what stands at a place, case by case
pub next_end : (s : List ℕ) (at : ℕ) → length s ≤ at → next_at s at ≡ End
unfolding next_at
next_end s at h = rw (le-leb (length s) at h)

module _ (s : List ℕ) (at : ℕ) (h : at < length s) where
  pub next_unknown : body_of (get_or s at 0) ≡ None → next_at s at ≡ UnknownKind
  unfolding next_at
  next_unknown e = rw (lt-leb (length s) at h, e)

  pub next_short : {n : ℕ} → body_of (get_or s at 0) ≡ Some n → length s < at + 1 + n → next_at s at ≡ CutShort
  unfolding next_at
  next_short {n} e l = rw (lt-leb (length s) at h, e, lt-leb (at + 1 + n) (length s) l)

  pub next_whole : {n : ℕ} → body_of (get_or s at 0) ≡ Some n → at + 1 + n ≤ length s → next_at s at ≡ Whole (command_at s at) (n + 1)
  unfolding next_at
  next_whole {n} e l = rw (lt-leb (length s) at h, e, le-leb (at + 1 + n) (length s) l)

-- the kinds that are known, in figures
abbrev pub Listed : ℕ → Option ℕ → Type 0
Listed k None = (k ≡ 0) ⊎ (7 ≤ k)
Listed k (Some n) = (1 ≤ k) × (k ≤ 6)

pub listed : (k : ℕ) → Listed k (body_of k)
unfolding body_of
listed k = grind (arith, nat_tests)

-- the longest record answers a get, which has a body
abbrev pub Bodied : Command → ℕ → Type 0
Bodied (Get i) n = 1 ≤ n
Bodied (Insert i x) n = Unit {0}
Bodied (Remove i) n = Unit {0}
Bodied (Push x) n = Unit {0}
Bodied (Replace i x) n = Unit {0}
Bodied Len n = Unit {0}

-- a whole command has a kind and a body, and ends in the input
abbrev pub Fits : List ℕ → ℕ → Next → Type 0
Fits s at End = Unit {0}
Fits s at UnknownKind = Unit {0}
Fits s at CutShort = Unit {0}
Fits s at (Whole c n) = (1 ≤ n) × (at + n ≤ length s) × Bodied c (n - 1)

pub next_fits : (s : List ℕ) (at : ℕ) → Fits s at (next_at s at)
unfolding next_at body_of command_at
next_fits s at = grind (arith, nat_tests)

-- ---- answers

pub record_length : (r : Record) → length (record_bytes r) ≤ longest_record
unfolding record_bytes
record_length Done = omega arith
record_length (Element x) = omega arith
record_length (Length n) = omega arith
record_length (Refusal n) = omega arith
record_length (Got x n) = omega arith
