-- `replace` meets its contract: what the tree function leaves, unless the index is past the end.
use Rattle.std.proofs.Common.{refl}
use Rattle.model.proofs.Told.{let_go}
use Rattle.model.proofs.Calls.{replace_beyond}
use Rattle.calls.proofs.Reading.{place_tells, root_has}
use Rattle.calls.proofs.Editing.{does, replace_does}
use Rattle.calls.proofs.replace.Goals as goal

pub returns-in_err-at : goal.returns-in_err-at
returns-in_err-at c s =
    let P = place_tells s.bag _ (c.in_err-at.ensures s) in
    rw (let_go c.from_residual.ensures.1, P.0) (does _ s.bag _ (replace_beyond s.bag _ _ P.1) _ _ refl s.is s.holds)

pub replace-requires : goal.replace-requires
replace-requires c =
    let P = place_tells c.requires.bag _ (c.in_ok-at.ensures c.requires) in
    rw P.0 (root_has c.requires _ P.1)

pub returns : goal.returns
returns c s =
    let P = place_tells s.bag _ (c.in_ok-at.ensures s) in
    replace_does s _ _ _ P.1 (rw P.0 at c.replace.ensures)
