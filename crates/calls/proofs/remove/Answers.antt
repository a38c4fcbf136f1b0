-- `remove` meets its contract: what the tree function leaves with the new root stored, unless the index is past the end.
use Rattle.std.proofs.Common.{refl, arith}
use Rattle.model.proofs.Told.{let_go}
use Rattle.model.proofs.Calls.{remove_beyond}
use Rattle.calls.proofs.Bags.{root_inside}
use Rattle.calls.proofs.Reading.{place_tells}
use Rattle.calls.proofs.Editing.{does, remove_ready, remove_does}
use Rattle.calls.proofs.remove.Goals as goal

pub returns-in_err-i : goal.returns-in_err-i
returns-in_err-i c s =
    let P = place_tells s.bag _ (c.in_err-i.ensures s) in
    rw (let_go c.from_residual.ensures.1, P.0) (does _ s.bag _ (remove_beyond s.bag _ P.1) _ _ refl s.is s.holds)

pub remove_index-r-requires : goal.remove_index-r-requires
remove_index-r-requires c =
    let s = c.requires in
    let P = place_tells s.bag _ (c.in_ok-i.ensures s) in
    rw P.0 (remove_ready s P.1)

pub bounds-pool-0 : goal.bounds-pool-0
bounds-pool-0 c =
    let s = c.requires in
    let P = place_tells s.bag _ (c.in_ok-i.ensures s) in
    omega (arith, ((rw P.0 at c.remove_index-r.ensures) (remove_ready s P.1)).became.untouched.long, root_inside s.holds)

pub returns : goal.returns
returns c s =
    let P = place_tells s.bag _ (c.in_ok-i.ensures s) in
    remove_does s _ P.1 _ (rw P.0 at c.remove_index-r.ensures)
