-- `write_fields` meets its contract: the kind and the two numbers, one behind the other.
use mathlib.Core.Path.{◌≡◌, refl}
use mathlib.Core.List.{List, ◌∷◌, ◌++◌}
use Prim.Native.Nat.{ℕ, suc, ◌+◌, ◌-◌, ◌≤◌}
use native.Mathlib.Numerals.{add-one}
use native.Mathlib.Omega.{arith}
use borrow.Rule.Slice.PartMut.{put_mid}
use lib.ListN.{length, set, length-set}
use lib.Seq.{sets, length-sets}
use Rattle.words.specs.Words.{run}
use Rattle.words.proofs.Laws.{sets-append}
use Rattle.records.specs.Numbers.{bytes_of}
use Rattle.records.proofs.Laws.{bytes-length, number_put}
use Rattle.records.proofs.write_fields.Goals as goal

module _ (s : List ℕ) (at k n x m y : ℕ) (room : at + 1 + n + m ≤ length s) where
  fields_stored : (xs ys : List ℕ) (middle end : ℕ) → at + 1 + n ≡ middle → middle + m ≡ end
      → xs ≡ bytes_of (length (run (set s at k) (at + 1) (middle - (at + 1)))) x
      → ys ≡ bytes_of (length (run (put_mid (at + 1) (middle - (at + 1)) (set s at k) xs) middle (end - middle))) y
      → put_mid middle (end - middle) (put_mid (at + 1) (middle - (at + 1)) (set s at k) xs) ys ≡ sets s at (k ∷ bytes_of n x ++ bytes_of m y)
  fields_stored xs ys middle end e f g h =
      let w = set s at k in
      let v = sets w (at + 1) (bytes_of n x) in
      let first = number_put w xs (at + 1) middle n x e (rw length-set (omega arith)) g in
      let second = number_put v ys middle end m y f (simp (length-sets, length-set) (omega arith)) (rw first at h) in
      let p : suc at + n ≡ middle = omega arith in
      rw (first, second, add-one at, sets-append w (suc at) (bytes_of n x) (bytes_of m y), bytes-length n x, p)

pub returns-clause-s_after : goal.returns-clause-s_after
unfolding run
returns-clause-s_after c =
    let a = c.args in
    fields_stored a.s.now a.at a.kind a.n a.x a.m a.y c.requires _ _ _ _ refl refl c.write_number.ensures c.write_number-2.ensures
