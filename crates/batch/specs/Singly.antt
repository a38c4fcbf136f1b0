-- The same commands one at a time, each by the door's own call.
use Rattle.std.specs.Prelude.{◌≡◌, Ok, Err, List, [], ◌∷◌, ◌++◌, ℕ, ◌+◌, ◌-◌, length}
use Rattle.std.proofs.lemmas.List.Edits.{sets}
use Rattle.model.specs.declared.Answer.{Answer}
use Rattle.model.specs.Calls.{refused, len_call, get_call, insert_call, push_call, replace_call, remove_call}
use Rattle.admission.specs.Promise.{Edits, Tells}
use Rattle.records.specs.declared.Command.{Command}
use Rattle.records.specs.declared.Command.TheVariants.{Insert, Remove, Push, Get, Replace, Len}
use Rattle.records.specs.Answers.{record_bytes}
use Rattle.commands.specs.declared.Ran.{Ran}
use Rattle.commands.specs.declared.Stop.{Stop}
use Rattle.commands.specs.Steps.{stop_number, turn_at}
use Rattle.commands.specs.OnBag.{reply_to}

-- the promise of the door's call that a command is
abbrev pub Called : Command → List ℕ → Answer → List ℕ → Type 0
Called (Insert i x) w a w' = Edits (insert_call i x) w a w'
Called (Remove i) w a w' = Edits (remove_call i) w a w'
Called (Push x) w a w' = Edits (push_call x) w a w'
Called (Get i) w a w' = Tells refused (get_call i) w a × (w' ≡ w)
Called (Replace i x) w a w' = Edits (replace_call i x) w a w'
Called Len w a w' = Tells refused len_call w a × (w' ≡ w)

-- where the calls have come to: the place in the input, the bytes written, the pool
pub record Stage : Type 0 where
  pub at : ℕ
  pub bytes : List ℕ
  pub pool : List ℕ

-- commands called one after the other, each where it is its turn, from a stage to another
pub data Singly (input : List ℕ) (size : ℕ) : Stage → List Command → Stage → Type 0 where
  none : (s : Stage) → Singly input size s [] s
  next : (s : Stage) (c : Command) (n : ℕ) (a : Answer) (v : List ℕ) (cs : List Command) (e : Stage)
      → turn_at input s.at (size - length s.bytes) ≡ Ok (record { command = c; bytes = n }) → Called c s.pool a v
      → Singly input size (record { at = s.at + n; bytes = s.bytes ++ record_bytes (reply_to c a); pool = v }) cs e
      → Singly input size s (c ∷ cs) e

-- what a batch did, told without the batch: the commands before the place where it stopped, and nothing of what stands there
pub record OneByOne (w input out : List ℕ) (r : Ran) (w' out' : List ℕ) : Type 0 where
  pub commands : List Command
  pub bytes : List ℕ
  pub called : Singly input (length out) (record { at = 0; bytes = []; pool = w }) commands (record { at = r.read; bytes = bytes; pool = w' })
  pub counted : r.commands ≡ length commands
  pub written : r.written ≡ length bytes
  pub output : out' ≡ sets out 0 bytes
  pub why : Stop
  pub stop : turn_at input r.read (length out - r.written) ≡ Err why
  pub number : r.number ≡ stop_number why
