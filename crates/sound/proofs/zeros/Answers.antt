-- `zeros` meets its contract: an OR of words is 0 where all of them are.
use mathlib.Core.Path.{◌≡◌, refl, sym, ◌∙◌}
use mathlib.Core.List.{List, [], ◌∷◌}
use Prim.Native.Nat.{ℕ, zero, suc, ◌+◌, ◌-◌, ◌<◌}
use native.Mathlib.Omega.{arith}
use borrow.Author.Tests.{eqb-true, eqb-false}
use lib.Bits.{bit_or, or_add_and, and_le_l, and_le_r}
use lib.ListN.{length, get_or}
use Rattle.std.proofs.Common.{rules, fold}
use Rattle.words.specs.Words.{run}
use Rattle.words.proofs.Laws.{run_length, run-get_or}
use Rattle.sound.proofs.zeros.Goals as goal

all_zero : (xs : List ℕ) (a : ℕ) → fold bit_or a xs ≡ 0 → (a ≡ 0) × ((i : ℕ) → i < length xs → get_or xs i 0 ≡ 0)
all_zero [] a e = (e, λ i l. absurd (omega arith))
all_zero (x ∷ xs) a e =
    let h = all_zero xs (bit_or a x) e in
    (omega (arith, h.0, or_add_and a x, and_le_l a x, and_le_r a x), each h.0 h.1)
  where
    each : bit_or a x ≡ 0 → ((i : ℕ) → i < length xs → get_or xs i 0 ≡ 0) → (i : ℕ) → i < length (x ∷ xs) → get_or (x ∷ xs) i 0 ≡ 0
    each z f zero l = omega (arith, z, or_add_and a x, and_le_l a x, and_le_r a x)
    each z f (suc i) l = f i (omega arith)

or_zeros : (xs : List ℕ) (a : ℕ) → a ≡ 0 → ((i : ℕ) → i < length xs → get_or xs i 0 ≡ 0) → fold bit_or a xs ≡ 0
or_zeros [] a e f = e
or_zeros (x ∷ xs) a e f = or_zeros xs (bit_or a x) (omega (arith, e, f 0 (omega arith), or_add_and a x)) (λ i l. f (suc i) (omega arith))

pub returns : goal.returns
unfolding run
returns c =
    let w : List ℕ = c.args.node.now in
    let from : ℕ = c.args.from in
    let n : ℕ = c.args.to - from in
    let long : length (run w from n) ≡ n = run_length w from n (omega arith) in
    let e : c.fold.result ≡ fold bit_or 0 (run w from n) = search rules in
    record {
      good = λ t i l m.
          let s : from + (i - from) ≡ i = omega arith in
          rw s at (sym (run-get_or w from n (i - from) (omega arith)) ∙ (all_zero (run w from n) 0 (sym e ∙ eqb-true _ _ t)).1 (i - from) (omega arith));
      bad = λ f C. eqb-false _ _ f (e ∙ or_zeros (run w from n) 0 refl (λ i l. run-get_or w from n i (omega arith) ∙ C (from + i) (omega arith) (omega arith)));
    }
