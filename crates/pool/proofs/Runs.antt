-- Laws of runs and of a node's words that the check of a pool wants besides.
use mathlib.Core.Path.{◌≡◌, refl, sym, ap, ◌∙◌}
use mathlib.Core.List.{List, [], ◌∷◌, ◌++◌, append_assoc}
use Prim.Native.Nat.{ℕ, ◌+◌, ◌-◌, ◌≤◌, ◌<◌}
use native.Mathlib.Omega.{arith}
use lib.ListN.{length, drop, get_or, replicate, length-drop, length-replicate, get_or-replicate, replicate-append-replicate}
use lib.Seq.{take_all, take-add, drop-drop, ext_get_or}
use Rattle.words.specs.Words.{run}
use Rattle.words.proofs.Laws.{run_length, run-get_or}
use Rattle.pool.specs.Layout.{node_words, node_block}

-- a run in two parts
pub run-append : (xs : List ℕ) (from n m : ℕ) → run xs from (n + m) ≡ run xs from n ++ run xs (from + n) m
unfolding run
run-append xs from n m = rw (take-add n m (drop from xs), drop-drop)

-- a run of zeros
run-zeros : (xs : List ℕ) (from n : ℕ) → from + n ≤ length xs → ((i : ℕ) → from ≤ i → i < from + n → get_or xs i 0 ≡ 0)
    → run xs from n ≡ replicate n 0
run-zeros xs from n l z =
    ext_get_or 0 (run xs from n) (replicate n 0) (run_length xs from n l ∙ sym (length-replicate n 0)) (λ i a.
    let b : i < n = omega (arith, run_length xs from n l) in
    run-get_or xs from n i b ∙ z (from + i) (omega arith) (omega arith) ∙ sym (get_or-replicate n i 0 0 b))

-- a node's words, with m child ids, are those of a tree's node if the unused slots and the link are 0
module _ (b : List ℕ) (m : ℕ) (e : length b ≡ node_words) (l : get_or b 0 0 ≤ 31) (k : m ≤ 32) where
  -- all but the first two
  rest : run b (2 + get_or b 0 0) (31 - get_or b 0 0) ≡ replicate (31 - get_or b 0 0) 0 → run b (33 + m) (33 - m) ≡ replicate (33 - m) 0
      → drop 2 b ≡ run b 2 (get_or b 0 0) ++ (replicate (31 - get_or b 0 0) 0 ++ (run b 33 m ++ replicate (33 - m) 0))
  unfolding run
  rest y z =
      let n : ℕ = get_or b 0 0 in
      let s : 64 ≡ n + (31 - n + (m + (33 - m))) = omega arith in
      let t : 2 + n + (31 - n) ≡ 33 = omega arith in
      sym (take_all 64 (drop 2 b) (omega (arith, length-drop 2 b))) ∙ ap (run b 2) s ∙ run-append b 2 n (31 - n + (m + (33 - m)))
      ∙ rw (run-append b (2 + n) (31 - n) (m + (33 - m)), t, run-append b 33 m (33 - m), y, z)

  pub block_is : ((i : ℕ) → 2 + get_or b 0 0 ≤ i → i < 33 → get_or b i 0 ≡ 0) → ((i : ℕ) → 33 + m ≤ i → i < node_words → get_or b i 0 ≡ 0)
      → b ≡ node_block (get_or b 1 0) (run b 2 (get_or b 0 0)) (run b 33 m)
  unfolding node_block
  block_is y z =
      let n : ℕ = get_or b 0 0 in
      let one : 32 - m + 1 ≡ 33 - m = omega arith in
      let last = replicate-append-replicate {A = ℕ} (32 - m) 1 0 ∙ ap (λ (j : ℕ). replicate j 0) one in
      two b (omega arith)
      ∙ rw (rest (run-zeros b (2 + n) (31 - n) (omega arith) (λ i p q. y i p (omega arith)))
      (run-zeros b (33 + m) (33 - m) (omega arith) (λ i p q. z i p (omega arith))))
      (rw (run_length b 2 n (omega arith), run_length b 33 m (omega arith)) (simp (append_assoc, last)))
    where
      two : (b : List ℕ) → 2 ≤ length b → b ≡ get_or b 0 0 ∷ get_or b 1 0 ∷ drop 2 b
      two [] l = absurd (omega arith)
      two (x ∷ []) l = absurd (omega arith)
      two (x ∷ y ∷ b) l = refl
