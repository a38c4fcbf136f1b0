-- `insert` meets its contract: refused by the check with no word changed, or what the call on the bag does.
use Rattle.model.proofs.Told.{let_go}
use Rattle.admission.proofs.Admitting.{refused_edits, held_edits, some_ready}
use Rattle.door.proofs.insert.Goals as goal

pub returns-in_err-known : goal.returns-in_err-known
returns-in_err-known c =
    rw (let_go c.from_residual.ensures.1) (refused_edits c.in_err-known.ensures)

pub insert-requires : goal.insert-requires
insert-requires c = some_ready c.in_ok-known.ensures

pub returns : goal.returns
returns c = held_edits c.in_ok-known.ensures c.insert.ensures
