-- The child finder: how many elements come before a child, and what the code has read when it stops or goes on.
use mathlib.Core.Path.{◌≡◌, sym}
use mathlib.Core.List.{List}
use Prim.Native.Nat.{ℕ, ◌+◌, ◌-◌, ◌≤◌, ◌<◌}
use native.Mathlib.Decide.{dec_lt}
use native.Mathlib.Numerals.{add-one}
use native.Mathlib.Omega.{arith}
use lib.ListN.{get_or, drop}
use lib.Seq.{take-take}
use Rattle.lists.specs.Lists.{sum}
use Rattle.lists.proofs.Sums.{total, total_append}
use Rattle.words.specs.Words.{run}
use Rattle.words.proofs.Laws.{run_length, run-get_or, run-snoc}
use Rattle.model.specs.Tree.{find_in}
use Rattle.model.proofs.Find.{place, find_unique}
use Rattle.pool.specs.Parts.{Inside, length_at}
use Rattle.pool.specs.Find.{Inner, kid_lengths}

-- the elements before child c of a node: those of the children before it, and one behind each
abbrev pub before : List ℕ → List ℕ → ℕ → ℕ
before w node c = total (length_at w) (run node 33 c) + c

module _ (w node : List ℕ) (index : ℕ) (N : Inner w node index) where
  -- what is read for child c: its id, its length
  module _ (c k : ℕ) (l : c ≤ get_or node 0 0) (ek : k ≡ get_or node (33 + c) 0) where
    pub kid_inside : Inside w k
    kid_inside = rw ek (N.kids c (omega arith))

    module _ (n sub : ℕ) (en : n ≡ length_at w k) (at : index ≡ before w node c + sub) where
      kid-length : n ≡ length_at w (get_or node (33 + c) 0)
      kid-length = rw ek at en

      pub stops : sub ≤ n → place c sub ≡ find_in (kid_lengths w node) index
      unfolding kid_lengths run
      stops m =
          sym (find_unique (length_at w) 0 (run node 33 (get_or node 0 0 + 1)) index c sub
          (omega (arith, run_length node 33 (get_or node 0 0 + 1) (omega (arith, N.long, N.few))))
          (rw (run-get_or node 33 (get_or node 0 0 + 1) c (omega arith), ← kid-length) m)
          (rw (take-take c (get_or node 0 0 + 1) (drop 33 node) (omega arith)) at))

      pub goes_on : n < sub → (c + 1 ≤ get_or node 0 0) × (index ≡ before w node (c + 1) + (sub - (n + 1)))
      unfolding kid_lengths sum
      goes_on m =
          let s : total (length_at w) (run node 33 (c + 1)) ≡ total (length_at w) (run node 33 c) + n =
          rw (add-one c, run-snoc node 33 c (omega (arith, N.long, N.few)), total_append, ← kid-length) (omega arith) in
          elim (dec_lt c (get_or node 0 0)) [
            | yes p ↦ (omega arith, omega arith)
            | no p ↦
                let e : get_or node 0 0 ≡ c = omega arith in
                absurd (omega (arith, s, rw e at N.below))
          ]
