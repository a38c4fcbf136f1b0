-- `equal` meets its contract: the first pool is admitted, then the second, then the lists are compared.
use Rattle.model.specs.Calls.{refused, refusal}
use Rattle.admission.proofs.Admitting.{refused_promise, refused_tells, held_promise, some_ready}
use Rattle.door.proofs.equal.Goals as goal
use Rattle.std.proofs.Common.{◌≡◌, refl}
use Rattle.model.proofs.Told.{let_go}

pub returns-in_err-in_a : goal.returns-in_err-in_a
returns-in_err-in_a c =
    rw (let_go c.from_residual.ensures.1) (refused_promise c.in_err-in_a.ensures (λ r. refusal c.in_err-in_a.field-0.0 ≡ refusal r) refl)

pub returns-in_err-in_b : goal.returns-in_err-in_b
returns-in_err-in_b c =
    rw (let_go c.from_residual-in_err-in_b.ensures.1) (held_promise c.in_ok-in_a.ensures (λ s. refused_tells c.in_err-in_b.ensures refused))

pub equal-requires : goal.equal-requires
equal-requires c = (some_ready c.in_ok-in_a.ensures, some_ready c.in_ok-in_b.ensures)

pub returns : goal.returns
returns c = held_promise c.in_ok-in_a.ensures (λ s. held_promise c.in_ok-in_b.ensures (λ t. c.equal.ensures s t))
