-- `all_marked` meets its contract: the whole words have all their marks, and the last one those that it has.
use mathlib.Core.Path.{◌≡◌, sym, ◌∙◌}
use mathlib.Core.Bool.{Bool, true≢false, false≢true}
use mathlib.Core.List.{List}
use Prim.Native.Nat.{ℕ, ◌+◌, ◌-◌, ◌*◌, ◌/◌, ◌%◌, ◌≤◌, ◌<◌}
use native.Mathlib.Omega.{arith}
use borrow.Author.Tests.{eqb-true, eqb-false}
use lib.Bits.{and_mask}
use lib.ListN.{length, get_or, take}
use Rattle.std.proofs.Common.{rules, ◌↔◌, IsTrue, EachIndex, Fits, w64, slice_index, get_or-take, length-take-le}
use Rattle.marks.specs.Marks.{seen}
use Rattle.marks.proofs.Laws.{one_shl, ones_set, set_ones, seen_at, by_word}
use Rattle.shape.specs.Shape.{Decides}
use Rattle.sound.proofs.all_marked.Goals as goal

-- the whole words
whole : (m : List ℕ) (p : ℕ) (r : Bool) → ((i : ℕ) → Fits w64 (get_or m i 0)) → p ≤ 64 * length m
    → (IsTrue r ↔ EachIndex (take (p / 64) m) (λ i. slice_index (take (p / 64) m) i ≡ 18446744073709551615))
    → Decides r ((k : ℕ) → 1 ≤ k → k ≤ p / 64 * 64 → seen m k ≡ 1)
unfolding seen
whole m p r fits room T =
    let long : length (take (p / 64) m) ≡ p / 64 = length-take-le (p / 64) m (omega arith) in
    let same : (i : ℕ) → i < p / 64 → get_or (take (p / 64) m) i 0 ≡ get_or m i 0 = λ i l. get_or-take (p / 64) m i 0 l in
    record {
      good = λ t k a b.
          let i : ℕ = (k - 1) / 64 in
          ones_set (get_or m i 0) 64 (omega (arith, T.0 t i (omega arith), same i (omega arith))) ((k - 1) % 64) (omega arith);
      bad = λ f all. false≢true (sym f ∙ T.1 (λ i l.
          let ones = set_ones (get_or m i 0) 64 (λ j n. sym (seen_at m i j n) ∙ all (i * 64 + 1 + j) (omega arith) (omega arith)) in
          omega (arith, ones, same i (omega arith), fits i)));
    }

pub returns-then-not-all : goal.returns-then-not-all
returns-then-not-all c =
    let W = whole c.args.marks.now c.args.p c.all.result c.type_inv.marks c.requires (search rules) in
    record { good = λ t. absurd (false≢true t); bad = λ f all. W.bad c.if-not-all.true (λ k a b. all k a (omega arith)) }

pub returns-then-left-eq0 : goal.returns-then-left-eq0
returns-then-left-eq0 c =
    let W = whole c.args.marks.now c.args.p c.all.result c.type_inv.marks c.requires (search rules) in
    record { good = λ t k a b. W.good c.if-not-all.false k a (omega arith); bad = λ f. absurd (true≢false f) }

pub returns : goal.returns
returns c =
    let p = c.args.p in
    let W = whole c.args.marks.now p c.all.result c.type_inv.marks c.requires (search rules) in
    rw (one_shl (p % 64) (omega arith), and_mask (get_or c.args.marks.now (p / 64) 0) (p % 64))
    record {
      good = λ t k a b. by_word (λ k. seen _ k ≡ 1) (p / 64) (p % 64) (W.good c.if-not-all.false)
          (λ j s. seen_at _ _ j (omega arith) ∙ ones_set _ (p % 64) (eqb-true _ _ t) j s) k a (omega arith);
      bad = λ f all. eqb-false _ _ f (set_ones _ (p % 64) (λ j s. sym (seen_at _ (p / 64) j (omega arith)) ∙ all _ (omega arith) (omega arith)));
    }
