-- The words of a tree's node besides its shape: what the second pass of the check looks at.
use Rattle.std.specs.Prelude.{◌≡◌, cond, List, [], map, ℕ, ◌+◌, ◌≤◌, ◌<◌, eqb, length, get_or}
use Rattle.lists.specs.Lists.{sum}
use Rattle.pool.specs.Layout.{node_words, block}
use Rattle.pool.specs.Parts.{Inside, count_at, length_at, kid_at, kid_ids_at}

-- the words from `from` up to `to` are 0
abbrev pub Clear : List ℕ → ℕ → ℕ → Type 0
Clear w from to = (i : ℕ) → from ≤ i → i < to → get_or w i 0 ≡ 0

-- what can be read of a node and of its children, if it is no leaf
pub record Readable (w : List ℕ) (k : ℕ) : Type 0 where
  pub inside : Inside w k
  pub most : count_at w k ≤ 31
  pub kids : (kid_at w k 0 ≡ 0 → ⊥) → (c : ℕ) → c < count_at w k + 1 → Inside w (kid_at w k c)

-- the children of a node: none where the word of the first is 0
unfoldable pub kids_at : List ℕ → ℕ → List ℕ
unfolding block
kids_at w k = cond (eqb (kid_at w k 0) 0) [] (kid_ids_at w k)

-- the elements of the whole subtree, by the words of the children
abbrev pub AddsUp : List ℕ → ℕ → List ℕ → Type 0
AddsUp w k ks = length_at w k ≡ count_at w k + sum (map (length_at w) ks)

-- the unused slots are 0, and so is the link; the length is right
pub record Filled (w : List ℕ) (k : ℕ) : Type 0 where
  pub elems : Clear (block w k) (2 + count_at w k) 33
  pub kids : Clear (block w k) (33 + length (kids_at w k)) node_words
  pub total : AddsUp w k (kids_at w k)
