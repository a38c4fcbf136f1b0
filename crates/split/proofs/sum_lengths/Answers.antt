use Rattle.std.proofs.Common.{◌≡◌, refl, ◌∙◌, List, ℕ, ◌<◌, ◌+◌, ◌-◌, length, get_or, take, drop, arith, add_assoc, get_or-take, get_or-drop, length-take, length-drop}
use Rattle.lists.specs.Lists.{sum as sum_of}
use Rattle.pool.specs.Layout.{start}
use Rattle.pool.proofs.Store.{part}
use Rattle.tree.proofs.Standing.{lent_long, lent_kid}
use Rattle.split.specs.Nodes.{Summed}
use Rattle.split.proofs.Halves.{summed_less, summed_inside, summed_one, summed_none}
use Rattle.split.proofs.sum_lengths.Goals as goal
use Rattle.split.proofs.sum_lengths.Goals.{then-j-ne0, else-j-ne0}

-- the words that the loop goes over: 16, each of them a child's id or 0
module _ {w : List ℕ} {k from : ℕ} (s : Summed w k from) (a : ℕ) (e : a ≡ start k) where
  abbrev ids : List ℕ
  ids = take (33 + from + 16 - (33 + from)) (drop (33 + from) (part w a))

  sixteen : length ids ≡ 16
  sixteen =
      omega (arith, s.start, lent_long s.node a e, length-drop (33 + from) (part w a), length-take (33 + from + 16 - (33 + from)) (drop (33 + from) (part w a)))

  read : (i : ℕ) → i < 16 → get_or ids i 0 ≡ get_or s.node.kids (from + i) 0
  read i l =
      let n : 33 + from + 16 - (33 + from) ≡ 16 = omega arith in
      rw (n, get_or-take 16 (drop (33 + from) (part w a)) i 0 l, get_or-drop (33 + from) (part w a) i 0, add_assoc 33 from i)
      (lent_kid s.node a e (from + i) (omega (arith, s.start)))

pub loop-j-init : goal.loop-j-init
unfolding sum_of
loop-j-init c s = refl

pub length_at-sum-requires : goal.length_at-sum-requires
length_at-sum-requires c =
    let s = c.requires in
    let e = c.start_of-a.ensures in
    summed_inside s c.loop-j.j-index _ (read s _ e _ (omega (arith, sixteen s _ e))) c.if-j-ne0.true

pub overflow_add-sum : goal.overflow_add-sum
overflow_add-sum c =
    let s = c.requires in
    let e = c.start_of-a.ensures in
    let i = c.loop-j.j-index in
    omega (
      arith,
      summed_less s (i + 1),
      summed_one s i _ (read s _ e i (omega (arith, sixteen s _ e))) _ _ c.if-j-ne0.true c.length_at-sum.ensures (c.loop-j.invariant s),
    )

pub loop-j-preserved : goal.loop-j-preserved
loop-j-preserved c s =
    let e = c.start_of-a.ensures in
    let i = c.loop-j.j-index in
    let id = read s _ e i (omega (arith, sixteen s _ e)) in
    elim c.if-j-ne0.branch [
      | then-j-ne0 w ↦ w.sum-is ∙ summed_one s i _ id _ _ w.if-j-ne0.true w.length_at-sum.ensures (c.loop-j.invariant s)
      | else-j-ne0 w ↦ w.sum-is ∙ summed_none s i _ id _ w.if-j-ne0.false (c.loop-j.invariant s)
    ]
