-- `batch` meets its contract: refused by the check with nothing changed, or what `run` does. That the number is that of the refusal
-- is found by arithmetic.
use Rattle.std.proofs.Common.{◌≡◌, refl, ap, List, ℕ, arith}
use Rattle.std.specs.Prelude.{Err}
use Rattle.model.specs.declared.Refusal.{Refusal}
use Rattle.model.specs.Calls.{number_of}
use Rattle.admission.specs.Promise.{Admits}
use Rattle.admission.proofs.Admitting.{refused_promise, held_promise, some_ready}
use Rattle.batch.specs.Batch.{ran_nothing, Idle, Batches}
use Rattle.batch.proofs.batch.Goals as goal

idle : {w out : List ℕ} {why : Refusal} (input : List ℕ) (n : ℕ) → Admits w (Err why) → n ≡ number_of why
    → Batches w input out (ran_nothing n) w out
idle {w} {out} input n O e =
    refused_promise O (λ why. Idle (number_of why) w out (ran_nothing n) w out) (record { ran = ap ran_nothing e; words = refl; output = refl })

pub returns-in-Err : goal.returns-in-Err
returns-in-Err c = idle _ _ c.in-Err.ensures (omega arith)

pub run-requires : goal.run-requires
run-requires c = some_ready c.in-Ok.ensures

pub returns-in-Ok : goal.returns-in-Ok
returns-in-Ok c = held_promise c.in-Ok.ensures c.run.ensures
