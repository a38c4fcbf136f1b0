-- `get` meets its contract: what the tree function finds, unless the index is past the end.
use Rattle.std.proofs.Common.{sym, ap, ◌∙◌}
use Rattle.model.specs.Calls.{found}
use Rattle.model.proofs.Calls.{get-done}
use Rattle.calls.proofs.Reading.{place_tells, root_has, root_got}
use Rattle.calls.proofs.get.Goals as goal

pub look_up-requires : goal.look_up-requires
look_up-requires c =
    let P = place_tells c.requires.bag _ (c.in_ok-i.ensures c.requires) in
    rw P.0 (root_has c.requires _ P.1)

pub returns : goal.returns
returns c s =
    let P = place_tells s.bag _ (c.in_ok-i.ensures s) in
    ap found (root_got s _ P.1 _ (rw P.0 at c.look_up.ensures)) ∙ sym (get-done s.bag _ P.1)
