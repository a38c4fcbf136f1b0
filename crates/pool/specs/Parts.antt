-- The parts of a pool where they stand: a node, a tree, the free chain; and the bag read off the words.
use Rattle.std.specs.Prelude.{◌≡◌, List, [], ◌∷◌, map, ℕ, zero, suc, ◌+◌, ◌*◌, ◌≤◌, ◌<◌, length, get_or}
use Rattle.words.specs.Words.{run}
use Rattle.model.specs.Tree.{Tree, Below, none, Root, bare, rooted, Bag}
use Rattle.pool.specs.Layout.{root_word, chain_word, head_words, node_words, start, block, root_block, free_block, root_id}

-- node k lies in the pool; and its words are ys
pub record Inside (w : List ℕ) (k : ℕ) : Type 0 where
  pub some : 1 ≤ k
  pub room : start k + node_words ≤ length w

pub record Stored (w : List ℕ) (k : ℕ) (ys : List ℕ) : Type 0 where
  pub inside : Inside w k
  pub is : block w k ≡ ys

-- every node of a tree stands in w: its own, and P of its children
pub record AtNode (w : List ℕ) (h : ℕ) (P : List (Below h) → Type 0) (t : Tree h) : Type 0 where
  pub here : Stored w t.id (root_block h t)
  pub each : P t.kids

abbrev pub KidsAt : List ℕ → (h : ℕ) → List (Below h) → Type 0
KidsAt w zero ks = Unit {0}
KidsAt w (suc h) ks = (c : ℕ) → c < length ks → AtNode w h (KidsAt w h) (get_or ks c (none h))

abbrev pub At : List ℕ → (h : ℕ) → Tree h → Type 0
At w h t = AtNode w h (KidsAt w h) t

abbrev pub RootAt : List ℕ → Root → Type 0
RootAt w bare = Unit {0}
RootAt w (rooted h t) = At w h t

-- the chain word is the first free node's id, and each free node's link the next one's; 0 where there is none
pub record ChainAt (w : List ℕ) (f : List ℕ) : Type 0 where
  pub first : get_or w chain_word 0 ≡ get_or f 0 0
  pub links : (i : ℕ) → i < length f → Stored w (get_or f i 0) (free_block (get_or f (suc i) 0))

-- all of a pool of p nodes
pub record Parts (w : List ℕ) (p : ℕ) (b : Bag) : Type 0 where
  pub sized : length w ≡ head_words + node_words * p
  pub top : get_or w root_word 0 ≡ root_id b.root
  pub tree : RootAt w b.root
  pub chain : ChainAt w b.free

-- ---- read off the words; where a number of steps is wanted, as many as there are nodes are enough

abbrev pub count_at : List ℕ → ℕ → ℕ
count_at w k = get_or (block w k) 0 0

abbrev pub length_at : List ℕ → ℕ → ℕ
length_at w k = get_or (block w k) 1 0

abbrev pub kid_at : List ℕ → ℕ → ℕ → ℕ
kid_at w k c = get_or (block w k) (33 + c) 0

abbrev pub elems_at : List ℕ → ℕ → List ℕ
elems_at w k = run (block w k) 2 (count_at w k)

abbrev pub kid_ids_at : List ℕ → ℕ → List ℕ
kid_ids_at w k = run (block w k) 33 (count_at w k + 1)

unfoldable pub tree_at : List ℕ → (h : ℕ) → ℕ → Tree h
unfolding block run
tree_at w zero k = record { id = k; elems = elems_at w k; kids = [] }
tree_at w (suc h) k = record { id = k; elems = elems_at w k; kids = map (tree_at w h) (kid_ids_at w k) }

-- the inner levels from a node on: in a leaf the word of the first child is 0
unfoldable pub levels_at : ℕ → List ℕ → ℕ → ℕ
unfolding block run
levels_at zero w k = 0
levels_at (suc n) w k = elim (kid_at w k 0) [ zero ↦ 0 | suc c ↦ suc (levels_at n w (suc c)) ]

unfoldable pub root_at : ℕ → List ℕ → ℕ → Root
unfolding levels_at tree_at
root_at n w zero = bare
root_at n w (suc k) = rooted (levels_at n w (suc k)) (tree_at w (levels_at n w (suc k)) (suc k))

-- the free chain from node k on: word 65 is the link
unfoldable pub chain_at : ℕ → List ℕ → ℕ → List ℕ
unfolding block run
chain_at zero w k = []
chain_at (suc n) w zero = []
chain_at (suc n) w (suc k) = suc k ∷ chain_at n w (get_or (block w (suc k)) 65 0)

abbrev pub bag_at : ℕ → List ℕ → Bag
bag_at n w = record { root = root_at n w (get_or w root_word 0); free = chain_at n w (get_or w chain_word 0) }
