use native.Mathlib.Omega.{arith}
use Rattle.sound.proofs.Chaining.{passed_none, passed_few, passed_all}
use Rattle.sound.proofs.Chaining.{passed_past, passed_twice, passed_dirty, passed_more}
use Rattle.sound.proofs.chain.Goals as goal

pub loop-free-init : goal.loop-free-init
loop-free-init c =
    passed_none _ _ _

pub returns-then-k-eq0 : goal.returns-then-k-eq0
returns-then-k-eq0 c =
    passed_all _ _ _ _ _ _ c.loop-free.invariant c.if-k-eq0.true

pub returns-then-p-k : goal.returns-then-p-k
returns-then-p-k c =
    passed_past _ _ _ _ _ _ c.loop-free.invariant c.if-k-eq0.false c.requires.exact c.if-p-k.true

pub returns-then-not-new : goal.returns-then-not-new
returns-then-not-new c =
    passed_twice _ _ _ _ _ _ c.loop-free.invariant c.if-k-eq0.false c.claim-new.ensures.long
    (c.claim-new.ensures.again c.if-not-new.true).0

pub returns-then-not-zeros_at : goal.returns-then-not-zeros_at
returns-then-not-zeros_at c =
    passed_dirty _ _ _ _ _ _ c.loop-free.invariant c.if-k-eq0.false c.claim-new.ensures.long
    (c.zeros_at.ensures.bad c.if-not-zeros_at.true)

pub loop-free-preserved : goal.loop-free-preserved
loop-free-preserved c =
    passed_more _ _ _ _ _ _ c.loop-free.invariant c.if-k-eq0.false c.requires.exact (omega arith) c.claim-new.ensures.long
    (c.claim-new.ensures.fresh c.if-not-new.false).1 (c.zeros_at.ensures.good c.if-not-zeros_at.false) _ c.start_of.ensures

pub returns-else-not-zeros_at : goal.returns-else-not-zeros_at
returns-else-not-zeros_at c =
    absurd (omega (
      arith,
      passed_few _ _ _ _ _ _
          (passed_more _ _ _ _ _ _ c.loop-free.invariant c.if-k-eq0.false c.requires.exact (omega arith) c.claim-new.ensures.long
          (c.claim-new.ensures.fresh c.if-not-new.false).1 (c.zeros_at.ensures.good c.if-not-zeros_at.false) _ c.start_of.ensures),
    ))
