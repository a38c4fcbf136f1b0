-- `tree` meets its contract: what the two passes say together.
use mathlib.Core.Path.{refl}
use native.Mathlib.Omega.{arith}
use Rattle.sound.proofs.Planting.{no_tree, not_shaped, readable, not_filled, planted}
use Rattle.sound.proofs.tree.Goals as goal

pub returns-then-root-eq0 : goal.returns-then-root-eq0
returns-then-root-eq0 c =
    let s = c.requires in
    no_tree _ _ s.marks_fit.exact _ s.by_index _ refl c.if-root-eq0.true

pub returns-then-not-shape : goal.returns-then-not-shape
returns-then-not-shape c =
    let s = c.requires in
    not_shaped _ _ s.marks_fit.exact _ s.by_index _ refl c.if-root-eq0.false _ c.depth-levels.ensures _ _ c.shape.ensures
    (c.if-not-shape.true)

pub all_filled-requires : goal.all_filled-requires
all_filled-requires c =
    let s = c.requires in
    record {
      marks_fit = record { exact = s.marks_fit.exact; marks = omega (arith, c.shape.ensures.long) };
      by_index = readable _ _ s.marks_fit.exact _ s.by_index _ refl c.if-root-eq0.false _ c.depth-levels.ensures _ _ c.shape.ensures
          (c.if-not-shape.false);
    }

pub returns-then-not-all_filled : goal.returns-then-not-all_filled
returns-then-not-all_filled c =
    let s = c.requires in
    not_filled _ _ s.marks_fit.exact _ s.by_index _ refl c.if-root-eq0.false _ c.depth-levels.ensures _ _ c.shape.ensures
    (c.if-not-shape.false) _ c.all_filled.ensures (c.if-not-all_filled.true)

pub returns : goal.returns
returns c =
    let s = c.requires in
    planted _ _ s.marks_fit.exact _ s.by_index _ refl c.if-root-eq0.false _ c.depth-levels.ensures _ _ c.shape.ensures
    (c.if-not-shape.false) _ c.all_filled.ensures (c.if-not-all_filled.false)
