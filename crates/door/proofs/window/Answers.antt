-- `window` meets its contract: the words that `part` tells, which lie in the pool.
use mathlib.Core.Path.{◌≡◌, ap, ◌∙◌}
use mathlib.Core.List.{List}
use Prim.Native.Nat.{ℕ, ◌+◌, ◌*◌, ◌-◌, ◌≤◌}
use native.Mathlib.Omega.{arith}
use lib.ListN.{length, take, drop}
use Rattle.words.specs.Words.{run}
use Rattle.views.specs.declared.Span.{Span}
use Rattle.views.specs.Part.{nowhere, part_call}
use Rattle.calls.proofs.Bags.{holds_stands}
use Rattle.views.proofs.Views.{part-fits}
use Rattle.admission.specs.Promise.{Tells}
use Rattle.admission.proofs.One.{decided, tells_one}
use Rattle.door.proofs.window.Goals as goal

within : (w : List ℕ) (i : ℕ) (s : Span) → Tells (λ _. nowhere) (part_call i) w s → s.start + s.count ≤ length w
within w i s P =
    decided w (λ n. rw (P.misfit n) (omega arith)) (λ z u. rw (P.unsound z u) (omega arith))
    (λ b H. rw (P.holds b H) (part-fits (holds_stands H) i))

part-run : (w : List ℕ) (a n : ℕ) → take (a + n - a) (drop a w) ≡ run w a n
unfolding run
part-run w a n =
    let e : a + n - a ≡ n = omega arith in
    rw e

pub overflow_add-e : goal.overflow_add-e
overflow_add-e c =
    omega (arith, within _ _ _ c.part-s.ensures)

pub offset_bounds-pool-a : goal.offset_bounds-pool-a
offset_bounds-pool-a c =
    omega (arith, within _ _ _ c.part-s.ensures)

pub slice_bounds-result-end : goal.slice_bounds-result-end
slice_bounds-result-end c =
    omega (arith, within _ _ _ c.part-s.ensures)

pub returns : goal.returns
returns c s P =
    let pool = c.args.pool in
    let e = tells_one (λ _. nowhere) (part_call _) c.part-s.ensures P in (
      part-run _ _ _ ∙ ap (λ (z : Span). run pool.now z.start z.count) e,
      ap {B = ℕ × ℕ} (λ (z : Span). (pool.ref_ptr.0, z.start * 8 + pool.ref_ptr.1)) e,
    )
