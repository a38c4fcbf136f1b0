-- Marks of the numbers from 1 on: one bit for each, 64 in a word.
use Rattle.std.specs.Prelude.{◌≡◌, Bool, true, false, cond, List, [], ◌∷◌, ℕ, ◌+◌, ◌-◌, ◌/◌, ◌%◌, ◌≤◌, ◌<◌, eqb, length, get_or}
use Rattle.std.specs.Int.{bit_at}
use Rattle.lists.specs.Lists.{count}
use Rattle.marks.specs.declared.Taken.{Taken}

-- the mark of number k, 1 or 0: bit (k - 1) % 64 of word (k - 1) / 64
unfoldable pub seen : List ℕ → ℕ → ℕ
seen m k = bit_at (get_or m ((k - 1) / 64) 0) ((k - 1) % 64)

-- k was not marked, and now it is, it alone; or it was, and nothing has changed
pub record Claimed (r : Bool) (m : List ℕ) (k : ℕ) (m' : List ℕ) : Type 0 where
  pub fresh : r ≡ true → (seen m k ≡ 0) × ((j : ℕ) → 1 ≤ j → seen m' j ≡ seen m j + count j (k ∷ []))
  pub again : r ≡ false → (seen m k ≡ 1) × (m' ≡ m)
  pub long : length m' ≡ length m

-- the lowest bit that is set, and the word without it
pub record TakesOut (w : ℕ) (r : Taken) : Type 0 where
  pub few : r.bit < 64
  pub is : bit_at w r.bit ≡ 1
  pub lowest : (j : ℕ) → j < r.bit → bit_at w j ≡ 0
  pub rest : (j : ℕ) → bit_at r.rest j ≡ cond (eqb j r.bit) 0 (bit_at w j)
  pub less : r.rest < w
