-- `skip` meets its contract: refused it keeps its position, else what the call on the bag tells.
use Rattle.model.specs.Calls.{stays}
use Rattle.admission.proofs.Admitting.{refused_tells, held_promise, some_ready}
use Rattle.door.proofs.skip.Goals as goal

pub skip-requires : goal.skip-requires
skip-requires c = some_ready c.in-Ok.ensures

pub returns-in-Ok : goal.returns-in-Ok
returns-in-Ok c = held_promise c.in-Ok.ensures c.skip.ensures

pub returns-in-Err : goal.returns-in-Err
returns-in-Err c = rw c.into.ensures (refused_tells c.in-Err.ensures (stays _))
