use mathlib.Core.Path.{◌≡◌, refl, ◌∙◌}
use mathlib.Core.List.{List}
use Prim.Native.Nat.{ℕ, suc, ◌+◌, ◌-◌, ◌*◌, ◌<◌}
use native.Mathlib.Omega.{arith}
use lib.ListN.{length, get_or-eq_default}
use Rattle.pool.specs.Layout.{head_words, node_words, start}
use Rattle.pool.specs.Parts.{kid_at, levels_at}
use Rattle.pool.proofs.Block.{block_word}
use Rattle.pool.proofs.Read.{levels_leaf, levels_inner}
use Rattle.shape.proofs.depth.Goals as goal
use Rattle.shape.proofs.depth.Invariants.{Passed}

module _ (w : List ℕ) (p k at levels : ℕ) (P : Passed w p k at levels) where
  ends : kid_at w at 0 ≡ 0 → levels ≡ levels_at p w k
  ends e = omega (arith, P.1, levels_leaf (p - levels) w at e)

  beyond : length w ≡ head_words + node_words * p → p < at → levels ≡ levels_at p w k
  beyond e l = ends (block_word w at 33 (omega arith) ∙ get_or-eq_default w 0 {n = start at + 33} (omega (arith, P.0)))

  more : levels < p → (kid_at w at 0 ≡ 0 → ⊥) → Passed w p k (kid_at w at 0) (levels + 1)
  more l n =
      let s : p - levels ≡ suc (p - (levels + 1)) = omega arith in
      (omega arith, omega (arith, rw s at P.1, levels_inner (p - (levels + 1)) w at (kid_at w at 0) refl (omega arith)))

  all : p ≡ levels → p ≡ levels_at p w k
  unfolding levels_at
  all e = let z : p - levels ≡ 0 = omega arith in omega (arith, rw z at P.1)

pub returns-then-p-at : goal.returns-then-p-at
returns-then-p-at c =
    beyond _ _ _ _ _ c.loop-levels.invariant (omega arith) c.if-p-at.true

pub returns-then-at-eq0 : goal.returns-then-at-eq0
returns-then-at-eq0 c =
    let l = c.loop-levels in
    ends _ _ _ l.at l.levels l.invariant (omega (arith, c.kid_at-at.ensures))

pub loop-levels-preserved : goal.loop-levels-preserved
loop-levels-preserved c =
    let l = c.loop-levels in
    rw c.kid_at-at.ensures
    (more _ _ _ l.at l.levels l.invariant (omega arith) (λ e. c.if-at-eq0.false (c.kid_at-at.ensures ∙ e)))

pub returns : goal.returns
returns c =
    all _ _ _ _ _ c.loop-levels.invariant (omega arith)
