use mathlib.Core.Path.{◌≡◌}
use Prim.Native.Nat.{◌+◌, ◌*◌, ◌/◌}
use native.Mathlib.Nat.{one-le-pow, pow-suc, div-div-eq-div-mul, le-div_iff_mul-le}
use native.Mathlib.Numerals.{add-one}
use native.Mathlib.Omega.{arith}
use borrow.Author.Tests.{ltb-true, ltb-false}
use Rattle.shape.proofs.within_reach.Goals as goal

pub loop-preserved : goal.loop-preserved
loop-preserved c =
    rw (c.loop.invariant, add-one c.loop.counter, pow-suc, div-div-eq-div-mul)

pub returns : goal.returns
returns c =
    let e : c.loop.counter ≡ c.args.levels = omega arith in
    let i = rw e at c.loop.invariant in
    let fit = le-div_iff_mul-le {x = 1} {y = (31 * c.args.p + 1) / 2} (one-le-pow c.args.levels 16 (omega arith)) in
    record {
      good = λ t. omega (arith, fit.0 (omega (arith, i, ltb-true)));
      bad = λ f a. omega (arith, fit.1 (omega arith), i, ltb-false);
    }
