-- `skip` meets its contract: past the end, or what the tree function finds.
use mathlib.Core.Path.{sym, ap, ◌∙◌}
use Prim.Native.Nat.{◌+◌, ◌<◌}
use native.Mathlib.Omega.{arith}
use Rattle.model.specs.declared.Found.{Found}
use Rattle.model.specs.Calls.{length_of, walked}
use Rattle.model.proofs.Calls.{skip_beyond, skip-done}
use Rattle.calls.proofs.Reading.{root_has, root_got}
use Rattle.views.proofs.skip.Goals as goal

pub returns-then-saturating_sub-m : goal.returns-then-saturating_sub-m
returns-then-saturating_sub-m c s =
    let e = c.len-n.ensures s in
    rw (c.into.ensures, e) (sym (skip_beyond s.bag _ _ (omega arith)))

pub look_up-f-requires : goal.look_up-f-requires
look_up-f-requires c =
    root_has c.requires _ (omega (arith, c.len-n.ensures c.requires))

pub returns : goal.returns
returns c s =
    let b = c.args in
    let l : b.position + b.m < length_of s.bag = omega (arith, c.len-n.ensures s) in
    ap (λ (f : Found). walked 0 f.element (b.position + b.m + 1)) (root_got s _ l _ c.look_up-f.ensures)
    ∙ sym (skip-done s.bag _ _ (omega arith))
