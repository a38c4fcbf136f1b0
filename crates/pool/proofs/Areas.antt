-- A list kept in the slots of a node's words.
use mathlib.Core.Path.{◌≡◌, refl, sym, ap, ◌∙◌}
use mathlib.Core.List.{List, [], ◌∷◌, ◌++◌}
use Prim.Native.Nat.{ℕ, ◌+◌, ◌-◌, ◌≤◌, ◌<◌}
use native.Mathlib.Nat.{zero-add}
use native.Mathlib.Omega.{arith}
use lib.ListN.{length, get_or, take, drop, replicate, length-append, length-replicate}
use lib.Seq.{sets, take_at}
use Rattle.lists.specs.Lists.{insert_at, remove_at}
use Rattle.words.specs.Words.{run}
use Rattle.words.proofs.Laws.{run_length, run-get_or}
use Rattle.pool.specs.Layout.{node_words, slots}
use Rattle.pool.proofs.Blocks.{length-slots}
use Rattle.pool.proofs.Slots.{parts, parts_elems, parts_kids, elems_run, kids_run}
use Rattle.pool.proofs.Slots.{slots-get_or, slots-append, slots_open, slots-close, slots_clear, slots_copy}

-- ---- words in which n slots stand from o on

pub record Area (B : List ℕ → List ℕ) (o n : ℕ) : Type 0 where
  pub reads : (z : List ℕ) (c r : ℕ) → length z ≡ n → c + r ≤ n → run (B z) (o + c) r ≡ run z c r
  pub stores : (z : List ℕ) (c : ℕ) (ys : List ℕ) → length z ≡ n → c + length ys ≤ n → sets (B z) (o + c) ys ≡ B (sets z c ys)

pub elem_area : (a n : ℕ) (ks : List ℕ) → Area (λ es. parts a n es ks 0) 2 31
elem_area a n ks = record { reads = λ z c r e l. elems_run a n z ks 0 e c r l; stores = λ z c ys e l. parts_elems a n z ks 0 e c ys l }

pub kid_area : (a n : ℕ) (es : List ℕ) → length es ≡ 31 → Area (λ ks. parts a n es ks 0) 33 32
kid_area a n es e = record {
  reads = λ z c r f l. kids_run a n es z 0 e c r (omega arith);
  stores = λ z c ys f l. parts_kids a n es z 0 e c ys (omega arith);
}

pub length_parts : (a n : ℕ) (es ks : List ℕ) → length es ≡ 31 → length ks ≡ 32 → length (parts a n es ks 0) ≡ node_words
length_parts a n es ks e f = omega (arith, length-append es (ks ++ (0 ∷ [])), length-append ks (0 ∷ []))

-- a list kept there: read, and after a word is put in, taken out, or others are put behind
module _ {B : List ℕ → List ℕ} {o n : ℕ} (A : Area B o n) (xs : List ℕ) (l : length xs ≤ n) where
  long : length (slots n xs) ≡ n
  long = length-slots n xs l

  pub area_word : (i : ℕ) → i < n → get_or (B (slots n xs)) (o + i) 0 ≡ get_or xs i 0
  area_word i m =
      let e : o + 0 + i ≡ o + i = omega arith in
      rw e at (sym (run-get_or (B (slots n xs)) (o + 0) n i m))
      ∙ ap (λ (z : List ℕ). get_or z i 0) (A.reads (slots n xs) 0 n long (omega arith))
      ∙ run-get_or (slots n xs) 0 n i m
      ∙ ap (λ (j : ℕ). get_or (slots n xs) j 0) (zero-add i)
      ∙ slots-get_or n xs i

  pub area_read : (at : ℕ) → at ≡ o + 0 → run (B (slots n xs)) at (length xs) ≡ xs
  unfolding slots run
  area_read at e = rw e (A.reads (slots n xs) 0 (length xs) long (omega arith) ∙ take_at xs (replicate (n - length xs) 0) (length xs) refl)

  pub area_append : (at : ℕ) (ys : List ℕ) → at ≡ o + length xs → length xs + length ys ≤ n
      → sets (B (slots n xs)) at ys ≡ B (slots n (xs ++ ys))
  area_append at ys e m = rw e (A.stores (slots n xs) (length xs) ys long m ∙ ap B (slots-append n xs ys m))

  pub area_open : (i end x : ℕ) → i ≤ length xs → length xs < n → end ≡ o + length xs
      → sets (B (slots n xs)) (o + i) (x ∷ run (B (slots n xs)) (o + i) (end - (o + i))) ≡ B (slots n (insert_at xs i x))
  area_open i end x m r e =
      let q : ℕ = length xs - i in
      let f : end - (o + i) ≡ q = omega arith in
      rw (f, A.reads (slots n xs) i q long (omega arith))
      (A.stores (slots n xs) i (x ∷ run (slots n xs) i q) long (omega (arith, run_length (slots n xs) i q (omega (arith, long))))
      ∙ ap B (slots_open n xs i q (omega arith) x r))

  pub area_close : (i end : ℕ) → i < length xs → end ≡ o + length xs
      → sets (B (slots n xs)) (o + i) (run (B (slots n xs)) (o + i + 1) (end - (o + i) - 1) ++ (0 ∷ [])) ≡ B (slots n (remove_at xs i))
  area_close i end m e =
      let q : ℕ = length xs - i - 1 in
      let f : end - (o + i) - 1 ≡ q = omega arith in
      let g : o + i + 1 ≡ o + (i + 1) = omega arith in
      let ys : List ℕ = run (slots n xs) (i + 1) q in
      let k : length (ys ++ (0 ∷ [])) ≡ q + 1 =
      omega (arith, length-append ys (0 ∷ []), run_length (slots n xs) (i + 1) q (omega (arith, long))) in
      rw (f, g, A.reads (slots n xs) (i + 1) q long (omega arith))
      (A.stores (slots n xs) i (ys ++ (0 ∷ [])) long (omega arith) ∙ ap B (slots-close n xs i q (omega arith) l))

  module _ (m : ℕ) (r : m ≤ n) where
    -- those from m on cleared, and copied to an area that is not in use
    pub area_clear : sets (B (slots n xs)) (o + m) (replicate (n - m) 0) ≡ B (slots n (take m xs))
    area_clear =
        A.stores (slots n xs) m (replicate (n - m) 0) long (omega (arith, length-replicate {A = ℕ} (n - m) 0)) ∙ ap B (slots_clear n xs m r l)

    pub area_copy : sets (B (slots n [])) (o + 0) (run (slots n xs) m (n - m)) ≡ B (slots n (drop m xs))
    area_copy =
        A.stores (slots n []) 0 (run (slots n xs) m (n - m)) (length-slots n [] (omega arith))
        (omega (arith, run_length (slots n xs) m (n - m) (omega (arith, long))))
        ∙ ap B (slots_copy n xs m r l)
