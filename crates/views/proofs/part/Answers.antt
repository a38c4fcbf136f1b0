-- `part` meets its contract: where the stretch begins that the tree function finds, unless the index is past the end.
use mathlib.Core.Path.{sym, ap, ◌∙◌}
use Prim.Native.Nat.{ℕ, ◌+◌}
use native.Mathlib.Omega.{arith}
use Rattle.calls.proofs.Reading.{root_has}
use Rattle.views.proofs.Views.{part_beyond, stood}
use Rattle.views.proofs.part.Goals as goal

pub returns-then-len-index : goal.returns-then-len-index
returns-then-len-index c s =
    sym (part_beyond s.bag _ (omega (arith, c.len.ensures s)))

pub stretch-s-requires : goal.stretch-s-requires
stretch-s-requires c =
    root_has c.requires _ (omega (arith, c.len.ensures c.requires))

pub start_of-a-requires : goal.start_of-a-requires
start_of-a-requires c =
    omega (arith, stood c.requires _ (omega (arith, c.len.ensures c.requires)) _ c.stretch-s.ensures)

pub overflow_add-result-2 : goal.overflow_add-result-2
overflow_add-result-2 c =
    omega (arith, stood c.requires _ (omega (arith, c.len.ensures c.requires)) _ c.stretch-s.ensures)

pub returns : goal.returns
returns c s =
    ap (λ (a : ℕ). record { start = a + 2 + c.stretch-s.result.slot; count = c.stretch-s.result.count }) c.start_of-a.ensures
    ∙ (stood s _ (omega (arith, c.len.ensures s)) _ c.stretch-s.ensures).is
