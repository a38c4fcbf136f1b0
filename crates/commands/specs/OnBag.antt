-- The commands on a bag, their answers, and what a batch of them leaves in a pool.
use Rattle.std.specs.Prelude.{◌≡◌, List, cond, ℕ, eqb, length}
use Rattle.std.proofs.lemmas.List.Edits.{sets}
use Rattle.model.specs.declared.Answer.{Answer}
use Rattle.model.specs.Tree.{Bag}
use Rattle.model.specs.Calls.{Outcome, outcome, len_call, get_call, insert_call, push_call, replace_call, remove_call}
use Rattle.pool.specs.Sound.{Holds}
use Rattle.records.specs.declared.Command.{Command}
use Rattle.records.specs.declared.Command.TheVariants.{Insert, Remove, Push, Get, Replace, Len}
use Rattle.records.specs.declared.Record.{Record}
use Rattle.records.specs.declared.Record.TheVariants.{Done, Element, Length, Refusal, Got}
use Rattle.commands.specs.declared.Ran.{Ran}
use Rattle.commands.specs.Steps.{Reply, Ended}

-- the door's call that a command is
abbrev pub perform : Command → Bag → Outcome
perform (Insert i x) b = insert_call i x b
perform (Remove i) b = remove_call i b
perform (Push x) b = push_call x b
perform (Get i) b = outcome (get_call i b) b
perform (Replace i x) b = replace_call i x b
perform Len b = outcome (len_call b) b

-- the record of an answer: a command that was done has one of its own
abbrev pub given : Command → Answer → Record
given (Insert i x) a = Done
given (Remove i) a = Element a.value
given (Push x) a = Done
given (Get i) a = Got a.value a.compared
given (Replace i x) a = Element a.value
given Len a = Length a.value

unfoldable pub reply_to : Command → Answer → Record
reply_to c a = cond (eqb a.number 0) (given c a) (Refusal a.number)

-- a command on a bag
unfoldable pub on_bag : Command → Bag → Reply Bag
unfolding reply_to
on_bag c b =
    let o = perform c b in
    record { state = o.bag; answer = reply_to c o.answer }

abbrev pub ran_of : {S : Type 0} → Ended S → Ran
ran_of e =
    let p = e.progress in
    record { number = e.number; commands = p.commands; read = p.read; written = length p.answers }

-- a batch that ended so: what it gives, the pool, and the output, of which only the answers' bytes are new
pub record Runs (e : Ended Bag) (out : List ℕ) (r : Ran) (w' out' : List ℕ) : Type 0 where
  pub ran : r ≡ ran_of e
  pub holds : Holds w' e.progress.state
  pub output : out' ≡ sets out 0 e.progress.answers
