-- `insert` meets its contract: each answer hands what the calls ensured to a law of `Whole`.
use mathlib.Core.Path.{◌≡◌}
use mathlib.Core.List.{List}
use Prim.Native.Nat.{ℕ}
use native.Mathlib.Omega.{arith}
use Rattle.std.specs.Prelude.{Some}
use Rattle.model.specs.Tree.{Bag}
use Rattle.insertion.specs.Ready.{BagReady, Inserts}
use Rattle.insertion.proofs.Rooting.{few_levels, root_node}
use Rattle.insertion.proofs.Whole.{bare_free, one_free, blank_takes, bare_inserted}
use Rattle.insertion.proofs.Whole.{Roomy, room_roomy, two_free, raise_ready, full_roomy, few_taken, inserted}
use Rattle.insertion.proofs.insert.Goals as goal
use Rattle.insertion.proofs.insert.Goals.{Joined-is_full, then-is_full, else-is_full}

pub take_node-root-requires : goal.take_node-root-requires
take_node-root-requires c =
    (_, bare_free 0 _ c.lacks_room.ensures c.requires c.if-lacks_room.false c.if-known-eq0.true)

pub put_element-requires : goal.put_element-requires
put_element-requires c =
    blank_takes 0 _ c.lacks_room.ensures c.requires c.if-lacks_room.false c.if-known-eq0.true _ _ c.take_node-root.ensures

pub overflow_sub-result : goal.overflow_sub-result
overflow_sub-result c =
    omega (arith, one_free 0 _ c.lacks_room.ensures c.requires c.if-lacks_room.false c.if-known-eq0.true)

pub returns-then-known-eq0 : goal.returns-then-known-eq0
returns-then-known-eq0 c =
    λ b. bare_inserted _ _ c.lacks_room.ensures b c.if-lacks_room.false c.if-known-eq0.true _ _ c.take_node-root.ensures _
    c.put_element.ensures

pub is_full-requires : goal.is_full-requires
is_full-requires c =
    root_node c.requires c.if-known-eq0.false

pub raise_root-root-requires : goal.raise_root-root-requires
raise_root-root-requires c =
    raise_ready 0 _ c.lacks_room.ensures c.requires c.if-lacks_room.false c.if-known-eq0.false _ c.is_full.ensures c.if-is_full.true

pub overflow_add-top : goal.overflow_add-top
overflow_add-top c =
    omega (arith, few_levels c.requires)

pub overflow_sub-top : goal.overflow_sub-top
overflow_sub-top c =
    omega (
      arith,
      two_free 0 _ c.lacks_room.ensures c.requires c.if-lacks_room.false c.if-known-eq0.false _ c.is_full.ensures
          c.if-is_full.true,
    )

-- the root has room, raised or not
roomy : (x : ℕ) (c : Joined-is_full) (b : BagReady c.args.pool.now c.args.known c.args.index)
    → Roomy x _ c.lacks_room.ensures b c.if-lacks_room.false c.if-is_full.pool c.if-is_full.top
roomy x c b =
    elim c.if-is_full.branch [
      | then-is_full w ↦ rw (w.pool-is, w.top-is) (full_roomy x _ c.lacks_room.ensures b c.if-lacks_room.false c.if-known-eq0.false _
          c.is_full.ensures w.if-is_full.true _ _ w.raise_root-root.ensures)
      | else-is_full w ↦ rw (w.pool-is, w.top-is) (room_roomy x _ c.lacks_room.ensures b c.if-lacks_room.false c.if-known-eq0.false _
          c.is_full.ensures w.if-is_full.false)
    ]

pub insert_into_non_full_node-taken-requires : goal.insert_into_non_full_node-taken-requires
insert_into_non_full_node-taken-requires c =
    (roomy 0 (goal.at.insert_into_non_full_node-taken-requires c).Joined-is_full c.requires).ready

pub overflow_sub-result-2 : goal.overflow_sub-result-2
overflow_sub-result-2 c =
    let j = (goal.at.overflow_sub-result-2 c).Joined-is_full in
    omega (
      arith,
      few_taken _ _ c.lacks_room.ensures c.requires c.if-lacks_room.false (roomy _ j c.requires) _ _ c.insert_into_non_full_node-taken.ensures,
    )

-- the nodes that are free then, found by arithmetic
left_free : {w w' : List ℕ} {b : Bag} {index x root levels m n : ℕ} → n ≡ m
    → Inserts w w' b index x (Some (record { root = root; levels = levels; free = m }))
    → Inserts w w' b index x (Some (record { root = root; levels = levels; free = n }))
left_free e I = rw e I

pub returns : goal.returns
returns c b =
    left_free (omega arith)
    (inserted _ _ c.lacks_room.ensures b c.if-lacks_room.false (roomy _ (goal.at.returns c).Joined-is_full b) _ _ c.insert_into_non_full_node-taken.ensures)
