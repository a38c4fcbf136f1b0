use mathlib.Core.Bool.{true≢false}
use Rattle.std.proofs.lemmas.Nat.Bits.{bit_at-zero}
use Rattle.sound.proofs.word_filled.Goals as goal

pub returns : goal.returns
returns c =
    record {
      good = λ t j l e. c.loop-rest.invariant.1 j l e (rw c.loop-rest-test.false (bit_at-zero j));
      bad = λ f. absurd (true≢false f);
    }
