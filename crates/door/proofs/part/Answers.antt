-- `part` meets its contract: nowhere if refused, else what the call on the bag tells.
use Rattle.views.specs.Part.{nowhere}
use Rattle.admission.proofs.Admitting.{refused_tells, held_promise, some_ready}
use Rattle.door.proofs.part.Goals as goal

pub part-requires : goal.part-requires
part-requires c = some_ready c.in-Ok.ensures

pub returns-in-Ok : goal.returns-in-Ok
returns-in-Ok c = held_promise c.in-Ok.ensures c.part.ensures

pub returns-in-Err : goal.returns-in-Err
returns-in-Err c = refused_tells c.in-Err.ensures (λ _. nowhere)
