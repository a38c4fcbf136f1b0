-- `perform` meets its contract: each arm is the call that the command is, and the record of what it gives.
use Rattle.std.proofs.Common.{◌≡◌, refl, sym, ap, ◌∙◌, List, ℕ, rules}
use Rattle.std.specs.Prelude.{Result, Ok, Err, MatchResult}
use Rattle.std.specs.Result.{IsOkAnd}
use Rattle.model.specs.declared.Answer.{Answer}
use Rattle.model.specs.declared.Refusal.{Refusal}
use Rattle.model.specs.declared.Refusal.TheVariants.{Unsound, PastTheEnd, NoRoom, Misfit}
use Rattle.model.specs.Tree.{Bag}
use Rattle.model.specs.Calls.{outcome, told, done, gives, found, len_call}
use Rattle.tree.specs.declared.Known.{Known}
use Rattle.calls.specs.Does.{Ready, Does}
use Rattle.records.specs.declared.Command.{Command}
use Rattle.records.specs.declared.Command.TheVariants.{Insert, Remove, Push, Get, Replace, Len}
use Rattle.records.specs.declared.Record.{Record}
use Rattle.commands.specs.OnBag.{perform, given, reply_to, on_bag}
use Rattle.commands.specs.Serving.{Serves, record_of}
use Rattle.commands.proofs.perform.Goals as goal

-- m is what r gives as the record f, or its refusal
Mapped : {A : Type 0} → (A → Record) → Result A Refusal → Result Record Refusal → Type 0
Mapped f r m = MatchResult r (λ x. IsOkAnd m (λ y. y ≡ f x)) (λ why. m ≡ Err why)

-- what the command's call does, and the record of what it gives or of its refusal
module _ {A : Type 0} (give : A → Answer) (c : Command) (clear : (x : A) → reply_to c (give x) ≡ given c (give x)) where
  replies : (r : Result A Refusal) (m : Result Record Refusal) → Mapped (λ x. given c (give x)) r m
      → record_of m ≡ reply_to c (told give r)
  unfolding reply_to Mapped
  replies (Ok x) (Ok y) e = e ∙ sym (clear x)
  replies (Ok x) (Err why) e = elim e [ ]
  replies (Err Unsound) m e = rw e refl
  replies (Err PastTheEnd) m e = rw e refl
  replies (Err NoRoom) m e = rw e refl
  replies (Err Misfit) m e = rw e refl

  serves : (r : Result A Refusal) (m : Result Record Refusal) {b : Bag} {k : Known} {w' : List ℕ} → Does (perform c) b (told give r) k w'
      → Mapped (λ x. given c (give x)) r m → Serves (on_bag c b) (record_of m) k w'
  unfolding on_bag
  serves r m D e = record { answer = replies r m e ∙ ap (reply_to c) D.answer; holds = D.holds; known = D.known }

-- a command that reads leaves what was there
reading : {w : List ℕ} {k : Known} (s : Ready w k) (ask : Bag → Answer) {a : Answer} → a ≡ ask s.bag
    → Does (λ b. outcome (ask b) b) s.bag a k w
reading s ask e = record { answer = e; holds = s.holds; known = s.is }

pub returns-in-Insert : goal.returns-in-Insert
unfolding Mapped reply_to
returns-in-Insert c s =
    rw c.in-Insert.is (serves done (Insert _ _) (λ x. refl) _ c.map.result (c.insert.ensures s) (search rules))

pub returns-in-Remove : goal.returns-in-Remove
unfolding Mapped reply_to
returns-in-Remove c s =
    rw c.in-Remove.is (serves gives (Remove _) (λ x. refl) _ c.map-in-Remove.result (c.remove.ensures s) (search rules))

pub returns-in-Push : goal.returns-in-Push
unfolding Mapped reply_to
returns-in-Push c s =
    rw c.in-Push.is (serves done (Push _) (λ x. refl) _ c.map-in-Push.result (c.push.ensures s) (search rules))

pub returns-in-Get : goal.returns-in-Get
unfolding Mapped reply_to
returns-in-Get c s =
    rw c.in-Get.is (serves found (Get _) (λ x. refl) _ c.map-in-Get.result (reading s _ (c.get.ensures s)) (search rules))

pub returns-in-Replace : goal.returns-in-Replace
unfolding Mapped reply_to
returns-in-Replace c s =
    rw c.in-Replace.is (serves gives (Replace _ _) (λ x. refl) _ c.map-in-Replace.result (c.replace.ensures s) (search rules))

pub returns-in-Len : goal.returns-in-Len
unfolding Mapped reply_to len_call
returns-in-Len c s =
    rw c.in-Len.is (serves gives Len (λ x. refl) (Ok _) (Ok _) (reading s len_call (ap gives (c.len.ensures s))) refl)
