-- What the contracts on runs of words cite.
use Rattle.std.specs.Prelude.{List, ℕ, take, drop}

-- the n words of xs from index `from` on
unfoldable pub run : List ℕ → ℕ → ℕ → List ℕ
run xs from n = take n (drop from xs)
