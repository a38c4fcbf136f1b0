-- How full a tree's nodes are (01, what makes a pool sound): at most 31 elements in each, at least 15 in each but the root,
-- and in an inner node one child more than elements.
use Rattle.std.specs.Prelude.{◌≡◌, ℕ, zero, suc, ◌+◌, ◌≤◌, ◌<◌, length}
use Rattle.model.specs.Tree.{Tree, kid, Root, bare, rooted}

pub record Leaf (t : Tree 0) : Type 0 where
  pub most : length t.elems ≤ 31

pub record Child (h : ℕ) (P : Tree h → Type 0) (k : Tree h) : Type 0 where
  pub least : 15 ≤ length k.elems
  pub fit : P k

pub record Inner (h : ℕ) (P : Tree h → Type 0) (t : Tree (suc h)) : Type 0 where
  pub most : length t.elems ≤ 31
  pub one_more : length t.kids ≡ length t.elems + 1
  pub each : (c : ℕ) → c < length t.kids → Child h P (kid h t c)

-- all of a tree but the least of its root
abbrev pub Fit : (h : ℕ) → Tree h → Type 0
Fit zero t = Leaf t
Fit (suc h) t = Inner h (Fit h) t

-- the least of a root is one element
pub record FitTree (h : ℕ) (t : Tree h) : Type 0 where
  pub some : 1 ≤ length t.elems
  pub fit : Fit h t

abbrev pub FitRoot : Root → Type 0
FitRoot bare = Unit {0}
FitRoot (rooted h t) = FitTree h t
