-- `admit` meets its contract: what is known of a pool that the check finds sound.
use Rattle.admission.proofs.Admitting.{admits_long, admits_known}
use Rattle.admission.proofs.admit.Goals as goal

pub known_of-requires : goal.known_of-requires
known_of-requires c = admits_long c.in_ok-c.ensures

pub returns : goal.returns
returns c = admits_known c.in_ok-c.ensures _ c.known_of.ensures
