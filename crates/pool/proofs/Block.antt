-- A node's words in the pool: read, and after other words are stored for one node.
use mathlib.Core.Path.{◌≡◌}
use mathlib.Core.List.{List}
use mathlib.Core.Logic.{◌≢◌, ◌⊎◌, inl, inr}
use Prim.Native.Nat.{ℕ, ◌+◌, ◌≤◌, ◌<◌}
use native.Mathlib.Decide.{dec_lt}
use native.Mathlib.Omega.{arith}
use lib.ListN.{length, get_or}
use lib.Seq.{length-sets}
use Rattle.words.proofs.Laws.{run_length, run-get_or, run-sets, run_sets_outside, sets_outside}
use Rattle.pool.specs.Layout.{head_words, node_words, start, block, with_block}
use Rattle.pool.specs.Parts.{Inside, Stored}

pub length-block : (w : List ℕ) (k : ℕ) → Inside w k → length (block w k) ≡ node_words
unfolding block
length-block w k I = run_length w (start k) node_words I.room

pub block_word : (w : List ℕ) (k i : ℕ) → i < node_words → get_or (block w k) i 0 ≡ get_or w (start k + i) 0
unfolding block
block_word w k i l = run-get_or w (start k) node_words i l

module _ (w : List ℕ) (k : ℕ) (ys : List ℕ) where
  pub length-with_block : length (with_block w k ys) ≡ length w
  unfolding with_block
  length-with_block = length-sets w (start k) ys

  -- the head has no part in it
  pub head_word : (i : ℕ) → i < head_words → get_or (with_block w k ys) i 0 ≡ get_or w i 0
  unfolding with_block
  head_word i l = sets_outside w (start k) ys i 0 (inl (omega arith))

  module _ (e : length ys ≡ node_words) where
    pub stored_block : Inside w k → Stored (with_block w k ys) k ys
    unfolding block with_block
    stored_block I = record {
      inside = record { some = I.some; room = omega (arith, I.room, length-with_block) };
      is = run-sets w (start k) ys node_words e I.room;
    }

    pub block_other : (j : ℕ) → 1 ≤ j → 1 ≤ k → j ≢ k → block (with_block w k ys) j ≡ block w j
    unfolding block with_block
    block_other j a b n =
        elim (dec_lt j k) [
          | yes p ↦ run_sets_outside w (start k) ys (start j) node_words (inl (omega arith))
          | no p ↦ run_sets_outside w (start k) ys (start j) node_words (inr (omega arith))
        ]

-- a run of words of one node lies before or behind one of another
pub runs_apart : {w : List ℕ} {k j : ℕ} → Inside w k → Inside w j → k ≢ j → (from to n : ℕ) → start k ≤ from
    → from + n ≤ start k + node_words → start j ≤ to → to + n ≤ start j + node_words → (to ≤ from) ⊎ (from + n ≤ to)
runs_apart {k = k} {j} K J ne from to n a b c d =
    let some = K.some in
    let more = J.some in
    elim (dec_lt j k) [ yes l ↦ inl (omega arith) | no l ↦ inr (omega arith) ]
