-- The shape of the tree in a pool's words: what the first pass of the check says, whatever the words hold besides.
use Rattle.std.specs.Prelude.{◌≡◌, Bool, true, false, List, map, ℕ, zero, suc, ◌+◌, ◌*◌, ◌^◌, ◌≤◌, ◌<◌, length}
use Rattle.lists.specs.Lists.{concat, count, from}
use Rattle.model.specs.Tree.{Tree, kid, ids}
use Rattle.model.specs.Fit.{FitTree}
use Rattle.pool.specs.Layout.{head_words, node_words}
use Rattle.pool.specs.Parts.{count_at, kid_at, kid_ids_at, tree_at}
use Rattle.marks.specs.Marks.{seen}

-- r says whether P
pub record Decides (r : Bool) (P : Type 0) : Type 0 where
  pub good : r ≡ true → P
  pub bad : r ≡ false → P → ⊥

-- a pool of p nodes, and marks for all of them
pub record MarksFit (w : List ℕ) (p : ℕ) (m : List ℕ) : Type 0 where
  pub exact : length w ≡ head_words + node_words * p
  pub marks : p ≤ 64 * length m

-- ---- what is marked

-- the nodes in ks are marked now, and what was marked before; so they could be, each once
abbrev pub Adds : List ℕ → List ℕ → List ℕ → Type 0
Adds m ks m' = (j : ℕ) → 1 ≤ j → seen m' j ≡ seen m j + count j ks

-- no node in ks is marked, and none stands in it twice
abbrev pub Unmet : List ℕ → List ℕ → Type 0
Unmet m ks = (j : ℕ) → 1 ≤ j → seen m j + count j ks ≤ 1

-- r says whether P holds and the nodes in ks were not met; if so, they are marked now
pub record Claims (r : Bool) (P : Type 0) (m ks m' : List ℕ) : Type 0 where
  pub good : r ≡ true → P × Adds m ks m'
  pub bad : r ≡ false → P → Unmet m ks → ⊥
  pub long : length m' ≡ length m

-- ---- the shape

-- in a leaf the word of the first child is 0
abbrev pub Ends : List ℕ → (h : ℕ) → Tree h → Type 0
Ends w zero t = kid_at w t.id 0 ≡ 0
Ends w (suc h) t = (c : ℕ) → c < length t.kids → Ends w h (kid h t c)

-- the tree with h inner levels that is read off node k: its nodes are full enough, all among 1, 2, .. p, and none is met twice
pub record WellShaped (w : List ℕ) (p h k : ℕ) : Type 0 where
  pub fit : FitTree h (tree_at w h k)
  pub once : (j : ℕ) → count j (ids h (tree_at w h k)) ≤ count j (from 1 p)
  pub ends : Ends w h (tree_at w h k)

-- the fewest elements of such a tree, 2 · 16 ^ h - 1, are no more than p nodes can hold
abbrev pub InReach : ℕ → ℕ → Type 0
InReach p h = 2 * 16 ^ h ≤ 31 * p + 1

abbrev pub Shapes : Bool → List ℕ → ℕ → (h : ℕ) → ℕ → List ℕ → List ℕ → Type 0
Shapes r w p h k m m' = Claims r (WellShaped w p h k) m (ids h (tree_at w h k)) m'

-- ---- the same node by node, as it is walked

pub record Sturdy (w : List ℕ) (p least k : ℕ) : Type 0 where
  pub some : 1 ≤ k
  pub within : k ≤ p
  pub enough : least ≤ count_at w k
  pub most : count_at w k ≤ 31

abbrev pub Grown : List ℕ → ℕ → (h : ℕ) → ℕ → ℕ → Type 0
Grown w p zero least k = Sturdy w p least k × (kid_at w k 0 ≡ 0)
Grown w p (suc h) least k = Sturdy w p least k × ((c : ℕ) → c < count_at w k + 1 → Grown w p h 15 (kid_at w k c))

abbrev pub Grows : Bool → List ℕ → ℕ → (h : ℕ) → ℕ → ℕ → List ℕ → List ℕ → Type 0
Grows r w p h least k m m' = Claims r (Grown w p h least k) m (ids h (tree_at w h k)) m'

-- the first n children of node k
abbrev pub GrownKids : List ℕ → ℕ → (h : ℕ) → ℕ → ℕ → Type 0
GrownKids w p h k n = (c : ℕ) → c < n → Grown w p h 15 (kid_at w k c)

-- the nodes of the trees with h inner levels at the nodes in ks
unfoldable pub below : List ℕ → (h : ℕ) → List ℕ → List ℕ
unfolding concat ids tree_at
below w h ks = concat (map (ids h) (map (tree_at w h) ks))

abbrev pub GrowsKids : Bool → List ℕ → ℕ → (h : ℕ) → ℕ → List ℕ → List ℕ → Type 0
GrowsKids r w p h k m m' = Claims r (GrownKids w p h k (count_at w k + 1)) m (below w h (kid_ids_at w k)) m'
