-- `get` meets its contract: refused by the check, or what the call on the bag tells.
use Rattle.model.proofs.Told.{let_go}
use Rattle.model.specs.Calls.{refused}
use Rattle.admission.proofs.Admitting.{refused_tells, held_promise, some_ready}
use Rattle.door.proofs.get.Goals as goal

pub returns-in_err-known : goal.returns-in_err-known
returns-in_err-known c =
    rw (let_go c.from_residual.ensures.1) (refused_tells c.in_err-known.ensures refused)

pub get-requires : goal.get-requires
get-requires c = some_ready c.in_ok-known.ensures

pub returns : goal.returns
returns c = held_promise c.in_ok-known.ensures c.get.ensures
