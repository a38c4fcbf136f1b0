-- `len` meets its contract: refused by the check, or what the call on the bag tells.
use Rattle.std.proofs.Common.{ap}
use Rattle.model.proofs.Told.{let_go}
use Rattle.model.specs.Calls.{refused, gives, len_call}
use Rattle.admission.proofs.Admitting.{refused_tells, held_promise, some_ready}
use Rattle.door.proofs.len.Goals as goal

pub returns-in_err-known : goal.returns-in_err-known
returns-in_err-known c =
    rw (let_go c.from_residual.ensures.1) (refused_tells c.in_err-known.ensures refused)

pub len-requires : goal.len-requires
len-requires c = some_ready c.in_ok-known.ensures

pub returns : goal.returns
unfolding len_call
returns c = held_promise c.in_ok-known.ensures (λ s. ap gives (c.len.ensures s))
