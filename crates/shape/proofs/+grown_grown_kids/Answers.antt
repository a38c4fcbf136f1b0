-- Each answer hands what the calls ensured to a law of `Walk`.
use mathlib.Core.Path.{refl}
use native.Mathlib.Omega.{arith}
use Rattle.shape.proofs.Growth.{reach_below}
use Rattle.shape.proofs.Walk.{met_twice, leaf_found, inner_found}
use Rattle.shape.proofs.Walk.{walked_none, walked_more, walked_bad}
use Rattle.shape.proofs.+grown_grown_kids.Goals as goal

-- ---- grown

pub grown-returns-then-not-fresh : goal.grown-returns-then-not-fresh
grown-returns-then-not-fresh t c =
    let S = c.sturdy.ensures.good c.if-not-sturdy.false in
    met_twice _ _ _ _ _ _ c.claim-fresh.ensures.long S.some (c.claim-fresh.ensures.again c.if-not-fresh.true).0

pub grown-returns-then-levels-eq0 : goal.grown-returns-then-levels-eq0
grown-returns-then-levels-eq0 t c =
    leaf_found _ _ _ _ _ _ _ (c.sturdy.ensures.good c.if-not-sturdy.false)
    (c.claim-fresh.ensures.fresh c.if-not-fresh.false).1 c.claim-fresh.ensures.long c.if-levels-eq0.true _ c.leaf_at.ensures

pub grown-grown_kids-requires : goal.grown-grown_kids-requires
grown-grown_kids-requires t c =
    let S = c.sturdy.ensures.good c.if-not-sturdy.false in
    omega (arith, c.claim-fresh.ensures.long, reach_below _ c.args.levels c.requires.in_reach)

pub grown-returns : goal.grown-returns
grown-returns t c =
    inner_found _ _ _ _ _ _ _ (c.sturdy.ensures.good c.if-not-sturdy.false)
    (c.claim-fresh.ensures.fresh c.if-not-fresh.false).1 c.claim-fresh.ensures.long _ c.if-levels-eq0.false refl _ _
    c.grown_kids.ensures

-- ---- grown_kids

pub grown_kids-loop-c-init : goal.grown_kids-loop-c-init
grown_kids-loop-c-init t c = walked_none _ _ _ _ _

pub grown_kids-returns-then-not-grown : goal.grown_kids-returns-then-not-grown
grown_kids-returns-then-not-grown t c =
    walked_bad _ _ _ _ (record { some = omega arith; room = omega arith }) (omega arith) _ _ _ c.loop-c.invariant _
    c.kid_at.ensures (omega (arith, c.count_at-n.ensures)) _ _ c.grown.ensures c.if-not-grown.true

pub grown_kids-loop-c-preserved : goal.grown_kids-loop-c-preserved
grown_kids-loop-c-preserved t c =
    walked_more _ _ _ _ (record { some = omega arith; room = omega arith }) (omega arith) _ _ _ c.loop-c.invariant _
    c.kid_at.ensures (omega (arith, c.count_at-n.ensures)) _ _ c.grown.ensures c.if-not-grown.false
