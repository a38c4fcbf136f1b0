-- The laws of a word's bits, and of the marks.
use mathlib.Core.Path.{◌≡◌, refl, sym, ap, ◌∙◌}
use mathlib.Core.Bool.{true, false, cond, not, true≢false}
use mathlib.Core.List.{List}
use mathlib.Core.Logic.{◌≢◌}
use Prim.Native.Nat.{ℕ, zero, suc, ◌+◌, ◌-◌, ◌*◌, ◌/◌, ◌%◌, ◌^◌, ◌≤◌, ◌<◌}
use native.Mathlib.Nat.{one-mul, zero-mul, mod-lt}
use native.Mathlib.Decide.{dec_le, dec_lt, ℕ_discrete}
use native.Mathlib.Omega.{arith}
use borrow.Author.Tests.{eqb-false, eq-eqb, ne_eqb}
use lib.Dec.{eqb}
use lib.Bits.{bit_and, bit_or, and_le_r}
use lib.Count.{count_trailing_zeros}
use lib.ListN.{length, get_or, set, replicate, length-set}
use lib.Pow.{pow_pos, pow-lt, shl_exact}
use lib.Seq.{get_or-set_same, get_or-set_other}
use mir.Syntax.{w64}
use Rattle.std.specs.Int.{bit_at}
use Rattle.std.proofs.lemmas.Nat.{div-add-mod'}
use Rattle.std.proofs.lemmas.Nat.Bits.{bit_at-lt, bit_at-zero, bit_at_and, bit_at_or, bit_at-pow_same, bit_at-pow_other, bit_at_ones, bit_at_ones_above, bit_at_cat_low, bit_at_cat_high, bit_at-trailing_zeros, and_pow, same_from_bits_below}
use Rattle.lists.specs.Lists.{count}
use Rattle.marks.specs.Marks.{seen, Claimed, TakesOut}

-- ---- one bit

-- `1 << i`
pub one_shl : (i : ℕ) → i < 64 → 1 * 2 ^ i % 2 ^ 64 ≡ 2 ^ i
one_shl i l = shl_exact {a = 1} 1 i 64 (omega arith) (omega arith) ∙ one-mul (2 ^ i)

-- `w & (1 << i) != 0`
and_test : (w i : ℕ) → not (eqb (bit_and w (2 ^ i)) 0) ≡ eqb (bit_at w i) 1
and_test w i = rw and_pow (two (bit_at w i) (bit_at-lt w i))
  where
    two : (b : ℕ) → b < 2 → not (eqb (b * 2 ^ i) 0) ≡ eqb b 1
    two zero l = rw zero-mul
    two (suc zero) l = rw (one-mul, ne_eqb (2 ^ i) 0 (λ e. omega (arith, pow_pos i)))
    two (suc (suc b)) l = absurd (omega arith)

-- the low bits of a word stand in what is left of it
low_bit : (w n i : ℕ) → i < n → bit_at (w % 2 ^ n) i ≡ bit_at w i
low_bit w n i l = rw div-add-mod' at (sym (bit_at_cat_low (w / 2 ^ n) n (w % 2 ^ n) i l))

-- they are all set if they make the largest number of n bits, and only then
pub ones_set : (w n : ℕ) → w % 2 ^ n ≡ 2 ^ n - 1 → (j : ℕ) → j < n → bit_at w j ≡ 1
ones_set w n e j l = sym (low_bit w n j l) ∙ rw e (bit_at_ones n j l)

pub set_ones : (w n : ℕ) → ((j : ℕ) → j < n → bit_at w j ≡ 1) → w % 2 ^ n ≡ 2 ^ n - 1
set_ones w n f =
    same_from_bits_below n (w % 2 ^ n) (2 ^ n - 1) (mod-lt w (pow_pos n)) (omega (arith, pow_pos n))
    (λ j l. low_bit w n j l ∙ f j l ∙ sym (bit_at_ones n j l))

-- ---- the lowest bit

-- `w & (w - 1)` has the bits of w but the lowest, t
module _ (w t : ℕ) (is : bit_at w t ≡ 1) (lowest : (j : ℕ) → j < t → bit_at w j ≡ 0) where
  abbrev above : ℕ
  above = w / 2 ^ suc t

  split : w ≡ above * 2 ^ suc t + 2 ^ t
  split =
      let e = same_from_bits_below (suc t) (w % 2 ^ suc t) (2 ^ t) (mod-lt w (pow_pos (suc t))) (pow-lt (omega arith)) (λ j l.
      low_bit w (suc t) j l
      ∙ elim (ℕ_discrete j t) [
        | yes q ↦ rw q (is ∙ sym (bit_at-pow_same t))
        | no n ↦ lowest j (omega arith) ∙ sym (bit_at-pow_other t j n)
      ]) in
      omega (arith, div-add-mod' w (2 ^ suc t), e)

  less_one : w - 1 ≡ above * 2 ^ suc t + (2 ^ t - 1)
  less_one = omega (arith, split, pow_pos t)

  gone : bit_at (w - 1) t ≡ 0
  gone = rw less_one (bit_at_cat_low above (suc t) (2 ^ t - 1) t (omega arith) ∙ bit_at_ones_above t t (omega arith))

  kept : (j : ℕ) → t < j → bit_at (w - 1) j ≡ bit_at w j
  kept j l =
      let q : 2 ^ t < 2 ^ suc t = pow-lt (omega arith) in
      rw less_one (bit_at_cat_high above (suc t) (2 ^ t - 1) j (omega arith) l)
      ∙ sym (ap (λ (x : ℕ). bit_at x j) split ∙ bit_at_cat_high above (suc t) (2 ^ t) j q l)

  rest_bit : (j : ℕ) → bit_at (bit_and w (w - 1)) j ≡ cond (eqb j t) 0 (bit_at w j)
  rest_bit j = elim (ℕ_discrete j t) [
    | yes q ↦ rw (eq-eqb j t q, bit_at_and, q) (omega (arith, gone))
    | no n ↦ rw (ne_eqb j t n, bit_at_and) (elim (dec_lt j t) [ yes l ↦ omega (arith, lowest j l) | no l ↦ omega (arith, kept j (omega arith)) ])
  ]

  rest_less : bit_and w (w - 1) < w
  rest_less = omega (arith, and_le_r w (w - 1), split, pow_pos t)

pub takes_out : (w : ℕ) → 0 < w → w < 2 ^ 64 → TakesOut w (record { bit = count_trailing_zeros 64 w; rest = bit_and w (w - 1) })
takes_out w some small =
    let T = bit_at-trailing_zeros w64 w some small in
    record { few = T.0; is = T.1; lowest = T.2; rest = rest_bit w _ T.1 T.2; less = rest_less w _ T.1 T.2 }

-- ---- the marks

abbrev word_of : List ℕ → ℕ → ℕ
word_of m k = get_or m ((k - 1) / 64) 0

abbrev mask_of : ℕ → ℕ
mask_of k = 2 ^ ((k - 1) % 64)

pub seen_test : (m : List ℕ) (k x : ℕ) → x ≡ mask_of k → not (eqb (bit_and (word_of m k) x) 0) ≡ eqb (seen m k) 1
unfolding seen
seen_test m k x e = rw e (and_test (word_of m k) ((k - 1) % 64))

pub seen-lt : (m : List ℕ) (k : ℕ) → seen m k < 2
unfolding seen
seen-lt m k = bit_at-lt (get_or m ((k - 1) / 64) 0) ((k - 1) % 64)

-- at first there are none
pub none_seen : (n k : ℕ) → seen (replicate n 0) k ≡ 0
unfolding seen
none_seen n k = rw (zeros n ((k - 1) / 64)) (bit_at-zero ((k - 1) % 64))
  where
    zeros : (n i : ℕ) → get_or {A = ℕ} (replicate n 0) i 0 ≡ 0
    zeros zero i = refl
    zeros (suc n) zero = refl
    zeros (suc n) (suc i) = zeros n i

-- the marks of a word, in their order
pub seen_at : (m : List ℕ) (i j : ℕ) → j < 64 → seen m (i * 64 + 1 + j) ≡ bit_at (get_or m i 0) j
unfolding seen
seen_at m i j l =
    let a : (i * 64 + 1 + j - 1) / 64 ≡ i = omega arith in
    let b : (i * 64 + 1 + j - 1) % 64 ≡ j = omega arith in
    rw (a, b)

-- what holds up to a word, and of the first n numbers of the word
pub by_word : (Q : ℕ → Type 0) (i n : ℕ) → ((k : ℕ) → 1 ≤ k → k ≤ i * 64 → Q k) → ((j : ℕ) → j < n → Q (i * 64 + 1 + j))
    → (k : ℕ) → 1 ≤ k → k ≤ i * 64 + n → Q k
by_word Q i n f g k a b = elim (dec_le k (i * 64)) [
  | yes c ↦ f k a c
  | no c ↦ (let e : i * 64 + 1 + (k - 1 - i * 64) ≡ k = omega arith in rw e at (g (k - 1 - i * 64) (omega arith)))
]

-- with its bit set k is marked, and no other number
module _ (m : List ℕ) (k : ℕ) (some : 1 ≤ k) (room : k ≤ 64 * length m) where
  abbrev marked : List ℕ
  marked = set m ((k - 1) / 64) (bit_or (word_of m k) (mask_of k))

  word_marked : word_of marked k ≡ bit_or (word_of m k) (mask_of k)
  word_marked = get_or-set_same m ((k - 1) / 64) _ 0 (omega arith)

  seen_here : seen marked k ≡ 1
  unfolding seen
  seen_here =
      let i : ℕ = (k - 1) % 64 in
      rw word_marked (omega (arith, bit_at_or (word_of m k) (mask_of k) i, bit_at-pow_same i, bit_at-lt (word_of m k) i))

  seen_other : (j : ℕ) → 1 ≤ j → j ≢ k → seen marked j ≡ seen m j
  unfolding seen
  seen_other j l ne =
      let i : ℕ = (j - 1) % 64 in
      elim (ℕ_discrete ((j - 1) / 64) ((k - 1) / 64)) [
        | yes e ↦ rw (e, word_marked) (omega (arith, bit_at_or (word_of m k) (mask_of k) i, bit_at-pow_other ((k - 1) % 64) i (λ f. omega arith)))
        | no f ↦ rw (get_or-set_other m ((k - 1) / 64) ((j - 1) / 64) _ 0 f)
      ]

  pub claimed : (x : ℕ) → x ≡ mask_of k → eqb (seen m k) 1 ≡ false → Claimed true m k (set m ((k - 1) / 64) (bit_or (word_of m k) x))
  unfolding count
  claimed x e f =
      let new : seen m k ≡ 0 = omega (arith, seen-lt m k, eqb-false (seen m k) 1 f) in
      rw e record {
        fresh = λ t. (
          new,
          λ j l. elim (ℕ_discrete j k) [
            | yes e ↦ rw (e, eq-eqb k k refl) (omega (arith, seen_here))
            | no ne ↦ rw (ne_eqb j k ne) (omega (arith, seen_other j l ne))
          ],
        );
        again = λ t. absurd (true≢false t);
        long = length-set m ((k - 1) / 64) _;
      }
