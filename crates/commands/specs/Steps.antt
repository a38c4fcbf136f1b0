-- A batch as its commands one at a time (01, Commands and answers), over whatever keeps the list.
use Rattle.std.specs.Prelude.{Result, Ok, Err, List, [], ◌++◌, cond, ℕ, zero, suc, ◌+◌, ◌-◌, ltb, length}
use Rattle.records.specs.declared.Command.{Command}
use Rattle.records.specs.declared.Record.{Record}
use Rattle.records.specs.Commands.{Next, End, UnknownKind, CutShort, Whole, next_at}
use Rattle.records.specs.Answers.{record_bytes, longest_record}
use Rattle.commands.specs.declared.Turn.{Turn}
use Rattle.commands.specs.declared.Stop.{Stop}
use Rattle.commands.specs.declared.Stop.TheVariants.{InputEnded, KindUnknown, CommandCut, OutputFull}

-- 01's number of a stop
abbrev pub stop_number : Stop → ℕ
stop_number InputEnded = 0
stop_number KindUnknown = 5
stop_number CommandCut = 6
stop_number OutputFull = 7

-- the stop that applies, tried in 01's order, or the command to run and its length
abbrev pub turn_of : Next → ℕ → Result Turn Stop
turn_of End room = Err InputEnded
turn_of UnknownKind room = Err KindUnknown
turn_of CutShort room = Err CommandCut
turn_of (Whole c n) room = cond (ltb room longest_record) (Err OutputFull) (Ok (record { command = c; bytes = n }))

unfoldable pub turn_at : List ℕ → ℕ → ℕ → Result Turn Stop
unfolding next_at
turn_at input at room = turn_of (next_at input at) room

-- what a command leaves, and the record that answers it
pub record Reply (S : Type 0) : Type 0 where
  pub state : S
  pub answer : Record

-- where a batch is: the state, the commands run, the bytes read, and the bytes written
pub record Progress (S : Type 0) : Type 0 where
  pub state : S
  pub commands : ℕ
  pub read : ℕ
  pub answers : List ℕ

-- the number that it stopped with, and where
pub record Ended (S : Type 0) : Type 0 where
  pub number : ℕ
  pub progress : Progress S

abbrev pub start : {S : Type 0} → S → Progress S
start s = record { state = s; commands = 0; read = 0; answers = [] }

-- one command of n bytes more
abbrev pub advanced : {S : Type 0} → (Command → S → Reply S) → Command → ℕ → Progress S → Progress S
advanced engine c n p =
    let r = engine c p.state in
    record {
      state = r.state;
      commands = p.commands + 1;
      read = p.read + n;
      answers = p.answers ++ record_bytes r.answer;
    }

-- on with the input, for an output of `size` bytes; a command takes a byte or more, so `left` turns are enough
unfoldable pub batch_from : {S : Type 0} → (Command → S → Reply S) → List ℕ → ℕ → ℕ → Progress S → Ended S
unfolding turn_at record_bytes
batch_from engine input size zero p = record { number = 0; progress = p }
batch_from engine input size (suc left) p =
    elim (turn_at input p.read (size - length p.answers)) [
      | Err stop ↦ record { number = stop_number stop; progress = p }
      | Ok turn ↦ batch_from engine input size left (advanced engine turn.command turn.bytes p)
    ]

abbrev pub batch_of : {S : Type 0} → (Command → S → Reply S) → List ℕ → ℕ → S → Ended S
batch_of engine input size s = batch_from engine input size (length input) (start s)
