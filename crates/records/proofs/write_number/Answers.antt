use mathlib.Core.Path.{◌≡◌}
use mathlib.Core.List.{◌∷◌, append_assoc}
use Prim.Native.Nat.{ℕ, suc, ◌+◌, ◌-◌, ◌%◌, ◌/◌, ◌<◌}
use native.Mathlib.Omega.{arith}
use Rattle.std.proofs.lemmas.List.{take_more_set}
use Rattle.records.specs.Numbers.{bytes_of}
use Rattle.records.proofs.write_number.Goals as goal

-- of the bytes that are left, the first
first_left : (n i x : ℕ) → i < n → bytes_of (n - i) x ≡ x % 256 ∷ bytes_of (n - (i + 1)) (x / 256)
unfolding bytes_of
first_left n i x l =
    let e : n - i ≡ suc (n - (i + 1)) = omega arith in
    rw e

pub loop-byte-preserved : goal.loop-byte-preserved
loop-byte-preserved c = grind (arith, first_left, take_more_set {X = ℕ}, append_assoc {A = ℕ})
