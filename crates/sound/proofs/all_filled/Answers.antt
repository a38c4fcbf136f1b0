use mathlib.Core.Path.{◌≡◌, ap, sym, ◌∙◌}
use mathlib.Core.Bool.{false≢true}
use mathlib.Core.List.{List}
use Prim.Native.Nat.{ℕ, ◌+◌, ◌*◌, ◌<◌}
use native.Mathlib.Omega.{arith}
use lib.ListN.{length, get_or, take, length-take}
use Rattle.std.proofs.Common.{get_or-take}
use Rattle.std.specs.Int.{bit_at}
use Rattle.marks.specs.Marks.{seen}
use Rattle.marks.proofs.Laws.{seen_at, by_word}
use Rattle.sound.specs.Filled.{Filled}
use Rattle.sound.proofs.all_filled.Goals as goal

-- the marks of one of the first n words
word_at : (m : List ℕ) (n i j : ℕ) → i < length (take n m) → j < 64 → seen m (i * 64 + 1 + j) ≡ bit_at (get_or (take n m) i 0) j
word_at m n i j l q = seen_at m i j q ∙ ap (λ (w : ℕ). bit_at w j) (sym (get_or-take n m i 0 (omega (arith, length-take n m))))

pub word_filled-requires : goal.word_filled-requires
word_filled-requires c j l e =
    (c.requires.by_index _ (omega arith) (word_at _ _ _ j c.loop-i-test.true l ∙ e)).1

pub returns-then-not-word_filled : goal.returns-then-not-word_filled
returns-then-not-word_filled c =
    record {
      good = λ t. absurd (false≢true t);
      bad = λ t all. c.word_filled.ensures.bad c.if-not-word_filled.true (λ j l e. all _ (omega arith) (word_at _ _ _ j c.loop-i-test.true l ∙ e));
    }

pub loop-i-preserved : goal.loop-i-preserved
loop-i-preserved c k a b =
    by_word (λ k. seen c.args.marks.now k ≡ 1 → Filled c.args.pool.now k) c.loop-i.i 64 c.loop-i.invariant
    (λ j l e. c.word_filled.ensures.good c.if-not-word_filled.false j l (sym (word_at _ _ _ j c.loop-i-test.true l) ∙ e)) k a (omega arith)
