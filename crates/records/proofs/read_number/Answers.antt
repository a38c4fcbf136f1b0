-- `read_number` meets its contract: whatever the length, the bytes and the zeros behind them are one number of 8 bytes. That it is
-- the one given is found by arithmetic.
use mathlib.Core.Path.{◌≡◌, refl}
use mathlib.Core.List.{List, [], ◌∷◌}
use Prim.Native.Nat.{ℕ, ◌≤◌}
use native.Mathlib.Omega.{arith}
use borrow.Rule.Slice.PartMut.{put_mid}
use lib.ListN.{length, replicate}
use Rattle.std.specs.Int.{w64, from_le_bytes}
use Rattle.records.specs.Numbers.{number_of}
use Rattle.records.proofs.read_number.Goals as goal

filled_up : (bs : List ℕ) → length bs ≤ 8 → from_le_bytes w64 (put_mid 0 (length bs) (replicate 8 0) bs) ≡ number_of bs
unfolding number_of
filled_up [] l = refl
filled_up (a ∷ []) l = omega arith
filled_up (a ∷ b ∷ []) l = omega arith
filled_up (a ∷ b ∷ c ∷ []) l = omega arith
filled_up (a ∷ b ∷ c ∷ d ∷ []) l = omega arith
filled_up (a ∷ b ∷ c ∷ d ∷ e ∷ []) l = omega arith
filled_up (a ∷ b ∷ c ∷ d ∷ e ∷ f ∷ []) l = omega arith
filled_up (a ∷ b ∷ c ∷ d ∷ e ∷ f ∷ g ∷ []) l = omega arith
filled_up (a ∷ b ∷ c ∷ d ∷ e ∷ f ∷ g ∷ h ∷ []) l = omega arith
filled_up (a ∷ b ∷ c ∷ d ∷ e ∷ f ∷ g ∷ h ∷ i ∷ bs) l = absurd (omega arith)

pub returns : goal.returns
returns c =
    let bs = c.args.bytes.now in
    let copied = c.copy_from_slice.new.self in
    let filled : from_le_bytes w64 (put_mid 0 (length bs) (replicate 8 0) copied) ≡ number_of bs =
    rw c.copy_from_slice.ensures.after (filled_up bs c.requires) in
    omega (arith, filled)
