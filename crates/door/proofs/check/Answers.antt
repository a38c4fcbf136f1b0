-- `check` meets its contract: refused by the check, or 0.
use Rattle.model.proofs.Told.{let_go}
use Rattle.model.specs.Calls.{refused}
use Rattle.admission.proofs.Admitting.{refused_tells}
use Rattle.door.proofs.check.Goals as goal

pub returns-in_err-admit : goal.returns-in_err-admit
returns-in_err-admit c =
    rw (let_go c.from_residual.ensures.1) (refused_tells c.in_err-admit.ensures refused)
