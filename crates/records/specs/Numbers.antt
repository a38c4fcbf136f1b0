-- A number in bytes, the least first.
use Rattle.std.specs.Prelude.{List, [], ◌∷◌, ℕ, zero, suc, ◌+◌, ◌*◌, ◌/◌, ◌%◌}
use Rattle.words.specs.Words.{run}

-- a number in n bytes
unfoldable pub bytes_of : ℕ → ℕ → List ℕ
bytes_of zero x = []
bytes_of (suc n) x = x % 256 ∷ bytes_of n (x / 256)

-- the number that some bytes are
unfoldable pub number_of : List ℕ → ℕ
number_of [] = 0
number_of (b ∷ bs) = b + 256 * number_of bs

-- the number in the n bytes from a place on
unfoldable pub number_at : List ℕ → ℕ → ℕ → ℕ
unfolding run number_of
number_at s at n = number_of (run s at n)
