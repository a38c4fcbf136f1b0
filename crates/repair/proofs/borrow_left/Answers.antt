-- `borrow_left` meets its contract: the left child has a piece to lend, and the other has room for it.
use native.Mathlib.Omega.{arith}
use Rattle.repair.proofs.Pairing.{pair_inside, pair_count}
use Rattle.repair.proofs.Moves.{left_lends, left_lent, same_spot}
use Rattle.repair.proofs.borrow_left.Goals as goal

pub count_at-m-requires : goal.count_at-m-requires
count_at-m-requires c =
    pair_inside c.requires _ (omega arith) _ c.kid_at-l.ensures

pub last-requires : goal.last-requires
last-requires c =
    let s = c.requires in
    omega (
      arith,
      s.counts,
      pair_count s _ (omega arith) _ c.kid_at-l.ensures _ c.count_at-m.ensures,
    )

pub lend-requires : goal.lend-requires
lend-requires c =
    let s = c.requires in
    let m = pair_count s _ (omega arith) _ c.kid_at-l.ensures _ c.count_at-m.ensures in
    left_lends _ _ _ c.kid_at-l.ensures c.kid_at-r.ensures c.count_at-m.ensures _ _
    (rw c.last.ensures (same_spot (omega arith) (omega (arith, s.counts, m)) (omega (arith, s.counts, m)))) c.front.ensures s

pub returns : goal.returns
returns c s =
    let m = pair_count s _ (omega arith) _ c.kid_at-l.ensures _ c.count_at-m.ensures in
    left_lent _ _ _ c.kid_at-l.ensures c.kid_at-r.ensures c.count_at-m.ensures _ _
    (rw c.last.ensures (same_spot (omega arith) (omega (arith, s.counts, m)) (omega (arith, s.counts, m)))) c.front.ensures s _ c.lend.ensures
