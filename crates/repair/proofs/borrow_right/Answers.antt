-- `borrow_right` meets its contract: the right child has a piece to lend, and the other has room for it.
use native.Mathlib.Omega.{arith}
use Rattle.repair.proofs.Pairing.{pair_inside, pair_count}
use Rattle.repair.proofs.Moves.{right_lends, right_lent}
use Rattle.repair.proofs.borrow_right.Goals as goal

pub count_at-m-requires : goal.count_at-m-requires
count_at-m-requires c =
    pair_inside c.requires _ (omega arith) _ c.kid_at-l.ensures

pub behind-requires : goal.behind-requires
behind-requires c =
    let s = c.requires in
    omega (
      arith,
      s.counts,
      pair_count s _ (omega arith) _ c.kid_at-l.ensures _ c.count_at-m.ensures,
    )

pub lend-requires : goal.lend-requires
lend-requires c =
    right_lends _ _ _ c.kid_at-l.ensures c.kid_at-r.ensures
    c.count_at-m.ensures _ _ c.front.ensures c.behind.ensures c.requires

pub returns : goal.returns
returns c s =
    right_lent _ _ _ c.kid_at-l.ensures c.kid_at-r.ensures c.count_at-m.ensures _ _ c.front.ensures c.behind.ensures s _
    c.lend.ensures
