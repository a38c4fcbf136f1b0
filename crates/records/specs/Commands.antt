-- 01's table of commands: a byte of kind, then a body whose length the kind fixes.
use Rattle.std.specs.Prelude.{◌≡◌, List, [], ◌∷◌, cond, Option, Some, None, ℕ, ◌+◌, ◌≤◌, ◌<◌, eqb, leb, length, get_or}
use Rattle.records.specs.declared.Command.{Command}
use Rattle.records.specs.declared.Command.TheVariants.{Insert, Remove, Push, Get, Replace, Len}
use Rattle.records.specs.Numbers.{number_at}

-- what a table has for a kind, or else
unfoldable pub row_of : {A : Type 0} → List (ℕ × A) → A → ℕ → A
row_of [] else k = else
row_of (row ∷ rows) else k = cond (eqb k row.0) row.1 (row_of rows else k)

-- how many bytes the body has
unfoldable pub body_of : ℕ → Option ℕ
unfolding row_of
body_of = row_of ((1, Some 12) ∷ (2, Some 4) ∷ (3, Some 8) ∷ (4, Some 4) ∷ (5, Some 12) ∷ (6, Some 0) ∷ []) None

-- the command of a known kind at a place: an index is 4 bytes, an element 8
unfoldable pub command_at : List ℕ → ℕ → Command
unfolding row_of number_at
command_at s at =
    let index = number_at s (at + 1) 4 in
    let element = number_at s (at + 5) 8 in
    row_of
    ((1, Insert index element) ∷
    (2, Remove index) ∷
    (3, Push (number_at s (at + 1) 8)) ∷
    (4, Get index) ∷
    (5, Replace index element) ∷
    [])
    Len
    (get_or s at 0)

-- a kind that is known, and all of its body
pub record Stands (s : List ℕ) (at : ℕ) : Type 0 where
  pub kind : at < length s
  pub body : (n : ℕ) → body_of (get_or s at 0) ≡ Some n → at + 1 + n ≤ length s

-- what can stand at a place of the input
pub data Next : Type 0 where
  End UnknownKind CutShort : Next
  Whole : Command → ℕ → Next

abbrev pub whole_at : List ℕ → ℕ → Option ℕ → Next
whole_at s at None = UnknownKind
whole_at s at (Some n) = cond (leb (at + 1 + n) (length s)) (Whole (command_at s at) (n + 1)) CutShort

-- what stands at a place of the input: its end, an unknown kind, a command cut short, or a whole one with its length
unfoldable pub next_at : List ℕ → ℕ → Next
unfolding body_of command_at
next_at s at = cond (leb (length s) at) End (whole_at s at (body_of (get_or s at 0)))
