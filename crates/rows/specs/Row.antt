-- A row of a table of examples, its answers written out in numbers, and the test that says whether it holds.
use Rattle.std.specs.Prelude.{List, [], ◌∷◌, Bool, true, ◌&&◌, ℕ, eqb}
use Rattle.lists.specs.Lists.{same}
use Rattle.model.specs.declared.Answer.{Answer}
use Rattle.model.specs.declared.Walked.{Walked}
use Rattle.model.specs.Tree.{Bag, empty, list_of}
use Rattle.model.specs.Calls.{answer, Outcome, outcome, insert_call, push_call, replace_call, remove_call}
use Rattle.model.specs.Calls.{check_call, len_call, get_call, skip_call, stays, equal_call}
use Rattle.pool.specs.Layout.{words}
use Rattle.pool.specs.Sound.{nodes_in, format_answer}
use Rattle.commands.specs.declared.Ran.{Ran}
use Rattle.commands.specs.Steps.{batch_from, batch_of}
use Rattle.commands.specs.OnBag.{on_bag, ran_of}

pub data Call : Type 0 where
  check len : Call
  push get remove : ℕ → Call
  insert replace : ℕ → ℕ → Call

pub data Row : Type 0 where
  -- formatting n words gives an answer; or it gives 0, and they are p nodes
  formats : ℕ → Answer → Row
  nodes : ℕ → ℕ → Row
  -- in an empty pool of p nodes some calls all answer 0, and then one more gives an answer and leaves these words
  after : ℕ → List Call → Call → Answer → List ℕ → Row
  -- or a walk, at a position and past m elements, gives an answer
  walks : ℕ → List Call → ℕ → ℕ → Walked → Row
  -- or the list is compared with one that was made likewise
  equals : ℕ → List Call → ℕ → List Call → Answer → Row
  -- a walk at a position is refused with n
  stops : ℕ → ℕ → Walked → Row
  -- in an empty pool of p nodes a batch of these bytes, with room for n bytes of output, gives this, writes these and leaves this list
  runs : ℕ → List ℕ → ℕ → Ran → List ℕ → List ℕ → Row

-- ---- the test

-- what a call answers and leaves
unfoldable pub ask : Call → Bag → Outcome
unfolding push_call insert_call replace_call get_call len_call remove_call
ask check b = outcome (check_call b) b
ask len b = outcome (len_call b) b
ask (push x) b = push_call x b
ask (get i) b = outcome (get_call i b) b
ask (remove i) b = remove_call i b
ask (insert i x) b = insert_call i x b
ask (replace i x) b = replace_call i x b

-- each of the calls answers 0, and the bag that they leave passes a test
unfoldable pub accepted : List Call → Bag → (Bag → Bool) → Bool
unfolding ask
accepted [] b test = test b
accepted (c ∷ cs) b test =
    let o = ask c b in
    eqb o.answer.number 0 && accepted cs o.bag test

unfoldable pub same_answer : Answer → Answer → Bool
same_answer a b = eqb a.number b.number && eqb a.value b.value && eqb a.compared b.compared

unfoldable pub same_walk : Walked → Walked → Bool
same_walk a b = eqb a.number b.number && eqb a.element b.element && eqb a.position b.position

unfoldable pub same_run : Ran → Ran → Bool
same_run a b =
    eqb a.number b.number && eqb a.commands b.commands && eqb a.read b.read && eqb a.written b.written

unfoldable pub holds : Row → Bool
unfolding accepted same_answer same_walk same_run same empty list_of format_answer words skip_call equal_call batch_from on_bag
holds (formats n a) = same_answer (format_answer n) a
holds (nodes n p) = same_answer (format_answer n) (answer 0 0 0) && eqb (nodes_in n) p
holds (after p calls c a w) =
    accepted calls (empty p)
    (λ b.
    let o = ask c b in
    same_answer o.answer a && same (words p o.bag) w)
holds (walks p calls at m a) = accepted calls (empty p) (λ b. same_walk (skip_call at m b) a)
holds (equals p calls q others a) =
    accepted calls (empty p) (λ b. accepted others (empty q) (λ c. same_answer (equal_call b c) a))
holds (stops at n a) = same_walk (stays at n) a
holds (runs p input n r out list) =
    let e = batch_of on_bag input n (empty p) in
    same_run (ran_of e) r && same e.progress.answers out && same (list_of e.progress.state.root) list

unfoldable pub all_hold : List Row → Bool
unfolding holds
all_hold [] = true
all_hold (r ∷ rs) = holds r && all_hold rs
