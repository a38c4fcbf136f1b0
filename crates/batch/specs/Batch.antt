-- The batch's promise, on any words at all.
use Rattle.std.specs.Prelude.{◌≡◌, List, ℕ, length}
use Rattle.admission.specs.Promise.{Promise}
use Rattle.commands.specs.declared.Ran.{Ran}
use Rattle.commands.specs.Steps.{batch_of}
use Rattle.commands.specs.OnBag.{on_bag, Runs}

-- nothing was run
abbrev pub ran_nothing : ℕ → Ran
ran_nothing n = record { number = n; commands = 0; read = 0; written = 0 }

-- refused it changes no word and no byte
pub record Idle (n : ℕ) (w out : List ℕ) (r : Ran) (w' out' : List ℕ) : Type 0 where
  pub ran : r ≡ ran_nothing n
  pub words : w' ≡ w
  pub output : out' ≡ out

abbrev pub Batches : List ℕ → List ℕ → List ℕ → Ran → List ℕ → List ℕ → Type 0
Batches w input out r w' out' =
    Promise w (Idle 4 w out r w' out') (Idle 1 w out r w' out') (λ b. Runs (batch_of on_bag input (length out) b) out r w' out')
