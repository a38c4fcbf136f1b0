-- Words stored and read inside a node or in the head, said of the nodes' words; and a node that is lent as a part of the pool.
use mathlib.Core.Path.{◌≡◌, sym}
use mathlib.Core.List.{List, [], ◌∷◌, append_assoc}
use mathlib.Core.Logic.{inr}
use Prim.Native.Nat.{ℕ, ◌+◌, ◌-◌, ◌≤◌, ◌<◌}
use native.Mathlib.Nat.{add-zero}
use native.Mathlib.Omega.{arith}
use borrow.Rule.Slice.PartMut.{put_mid}
use lib.ListN.{length, set, take, drop}
use lib.Seq.{sets, sets-eq, drop-drop}
use Rattle.words.specs.Words.{run}
use Rattle.words.proofs.Laws.{set_inside, sets-sets, sets_all, sets-run, run-run, run_sets_outside}
use Rattle.pool.specs.Layout.{head_words, node_words, start, block, with_block}
use Rattle.pool.specs.Parts.{Inside}
use Rattle.pool.proofs.Block.{length-block}

module _ (w : List ℕ) (k : ℕ) where
  -- a run read inside node k
  pub run-block : (i n : ℕ) → i + n ≤ node_words → run w (start k + i) n ≡ run (block w k) i n
  unfolding block
  run-block i n l = sym (run-run w (start k) node_words i n l)

  -- a word stored in the head is in no node
  pub block-head : (i v : ℕ) → i < head_words → block (set w i v) k ≡ block w k
  unfolding block
  block-head i v l = run_sets_outside w i (v ∷ []) (start k) node_words (inr (omega arith))

  -- words stored inside node k after b was stored for it
  module _ (b : List ℕ) (e : length b ≡ node_words) where
    pub sets_in : (i : ℕ) (ys : List ℕ) → i + length ys ≤ node_words → sets (with_block w k b) (start k + i) ys ≡ with_block w k (sets b i ys)
    unfolding with_block
    sets_in i ys l = sets-sets w (start k) b i ys (rw e l)

    pub set_in : (i v : ℕ) → i < node_words → set (with_block w k b) (start k + i) v ≡ with_block w k (set b i v)
    unfolding with_block
    set_in i v l = set_inside w (start k) b i v (rw e l)

    pub with_block_again : (ys : List ℕ) → length ys ≡ node_words → with_block (with_block w k b) k ys ≡ with_block w k ys
    unfolding with_block
    with_block_again ys l = rw (add-zero, sets_all b ys (omega arith)) at (sets-sets w (start k) b 0 ys (omega arith))

  -- words stored inside node k as it is
  module _ (I : Inside w k) where
    pub with_block-same : with_block w k (block w k) ≡ w
    unfolding block with_block
    with_block-same = sets-run w (start k) node_words I.room

    pub sets-block : (i : ℕ) (ys : List ℕ) → i + length ys ≤ node_words → sets w (start k + i) ys ≡ with_block w k (sets (block w k) i ys)
    sets-block i ys l = rw with_block-same at (sets_in (block w k) (length-block w k I) i ys l)

    pub set-block : (i v : ℕ) → i < node_words → set w (start k + i) v ≡ with_block w k (set (block w k) i v)
    set-block i v l = rw with_block-same at (set_in (block w k) (length-block w k I) i v l)

-- node words lent from a on, as `pool[a..a + 66]`
abbrev pub part : List ℕ → ℕ → List ℕ
part w a = take (a + node_words - a) (drop a w)

-- node k lent: its words, and the pool when they have come back as ys
module _ (w : List ℕ) (a k : ℕ) (e : a ≡ start k) where
  pub block_in : part w a ≡ block w k
  unfolding block run
  block_in =
      let n : a + node_words - a ≡ node_words = omega arith in
      rw (n, e)

  pub block_put : (ys : List ℕ) → Inside w k → length ys ≡ node_words → put_mid a (a + node_words - a) w ys ≡ with_block w k ys
  unfolding with_block
  block_put ys I l =
      let n : a + node_words - a ≡ node_words = omega arith in
      rw (n, e, sets-eq ys w (start k) (omega (arith, I.room)), append_assoc, drop-drop node_words (start k) w, l)
