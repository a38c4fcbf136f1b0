-- One command of a batch in the pool: what the functions that run it owe the loop.
use Rattle.std.specs.Prelude.{◌≡◌, List, Result, Ok, Err, ℕ}
use Rattle.model.specs.declared.Refusal.{Refusal}
use Rattle.model.specs.Tree.{Bag}
use Rattle.model.specs.Calls.{number_of}
use Rattle.pool.specs.Sound.{Holds}
use Rattle.tree.specs.declared.Known.{Known}
use Rattle.tree.specs.Stands.{known_of}
use Rattle.records.specs.declared.Record.{Record}
use Rattle.records.specs.declared.Record.TheVariants.{Refusal as Refused}
use Rattle.commands.specs.Steps.{Reply}

-- the pool holds what a command left; k is what is known of it, and a the record that answers the command
pub record Serves (o : Reply Bag) (a : Record) (k : Known) (w' : List ℕ) : Type 0 where
  pub answer : a ≡ o.answer
  pub holds : Holds w' o.state
  pub known : k ≡ known_of o.state

-- the record of a command that was done, or of its refusal
abbrev pub record_of : Result Record Refusal → Record
record_of (Ok a) = a
record_of (Err why) = Refused (number_of why)
