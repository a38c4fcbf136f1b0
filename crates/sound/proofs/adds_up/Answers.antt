use mathlib.Core.Path.{◌≡◌}
use mathlib.Core.Bool.{false, false≢true}
use mathlib.Core.List.{List}
use Prim.Native.Nat.{ℕ, ◌+◌, ◌-◌, ◌≤◌}
use native.Mathlib.Numerals.{add-one}
use native.Mathlib.Omega.{arith}
use Rattle.lists.specs.Lists.{sum}
use Rattle.lists.proofs.Sums.{total_append}
use Rattle.words.specs.Words.{run}
use Rattle.words.proofs.Laws.{run-snoc}
use Rattle.pool.specs.Layout.{block}
use Rattle.pool.specs.Parts.{Inside, count_at, length_at, kid_at, kid_ids_at}
use Rattle.pool.proofs.Block.{length-block}
use Rattle.pool.proofs.Runs.{run-append}
use Rattle.shape.specs.Shape.{Decides}
use Rattle.sound.specs.Filled.{AddsUp}
use Rattle.sound.proofs.adds_up.Goals as goal
use Rattle.sound.proofs.adds_up.Invariants.{before, Left}

module _ (w : List ℕ) (k : ℕ) (I : Inside w k) (few : count_at w k ≤ 31) (c left : ℕ) (L : Left w k c left) where
  -- child c, whose id is i and whose length is m
  module _ (i m : ℕ) (e : i ≡ kid_at w k c) (q : m ≡ length_at w i) (l : c ≤ count_at w k) where
    next : before w k (c + 1) ≡ before w k c + m
    unfolding sum
    next =
        rw (add-one c, run-snoc (block w k) 33 c (omega (arith, length-block w k I)), total_append, q, e) (omega arith)

    more : m ≤ left → Left w k (c + 1) (left - m)
    more a = omega (arith, L, next)

    too_long : (m ≤ left → ⊥) → Decides false (AddsUp w k (kid_ids_at w k))
    too_long a = record {
      good = λ t. absurd (false≢true t);
      bad = λ t A.
          let n : ℕ = count_at w k - c in
          let s : c + 1 + n ≡ count_at w k + 1 = omega arith in
          let b = rw (← s, run-append (block w k) 33 (c + 1) n, total_append) at A in
          omega (arith, b, L, next);
    }

pub loop-c-init : goal.loop-c-init
unfolding run sum
loop-c-init c =
    omega (arith, c.in-Some.ensures, c.length_at.ensures, c.count_at-n.ensures)

pub returns-in_default-checked_sub : goal.returns-in_default-checked_sub
returns-in_default-checked_sub c =
    too_long _ _ c.requires.inside c.requires.k_bound c.loop-c.c c.loop-c.left c.loop-c.invariant _ _ c.kid_at.ensures
    c.length_at-in-loop-c.ensures (omega (arith, c.count_at-n.ensures)) c.in_default-checked_sub.ensures

pub loop-c-preserved : goal.loop-c-preserved
loop-c-preserved c =
    rw c.in-Some-checked_sub.ensures.1
    (more _ _ c.requires.inside c.requires.k_bound c.loop-c.c c.loop-c.left c.loop-c.invariant _ _ c.kid_at.ensures c.length_at-in-loop-c.ensures
    (omega (arith, c.count_at-n.ensures)) c.in-Some-checked_sub.ensures.0)
