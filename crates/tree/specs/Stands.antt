-- What the tree functions ask of the pool and leave in it: a tree and the free chain stand there, and nothing else is touched.
use Rattle.std.specs.Prelude.{◌≡◌, List, ◌++◌, ℕ, ◌+◌, ◌^◌, ◌≤◌, ◌<◌, length}
use Rattle.lists.specs.Lists.{count}
use Rattle.model.specs.Tree.{Tree, size, ids, Bag, list_of, root_ids, levels_of, met}
use Rattle.model.specs.Fit.{Fit, FitTree, FitRoot}
use Rattle.pool.specs.Layout.{root_id}
use Rattle.pool.specs.Parts.{At, RootAt, ChainAt}
use Rattle.pool.specs.Frame.{Untouched}
use Rattle.tree.specs.declared.Known.{Known}

-- ---- a tree at node id, of h inner levels

pub record Stands (w : List ℕ) (h id : ℕ) : Type 0 where
  pub tree : Tree h
  pub here : tree.id ≡ id
  pub at : At w h tree
  pub fit : FitTree h tree
  pub once : (k : ℕ) → count k (ids h tree) ≤ 1
  pub small : size h tree < 2 ^ 32

-- ---- a tree and the free chain: what an edit asks, and what it leaves

pub record Owns (w : List ℕ) (h : ℕ) (t : Tree h) (f : List ℕ) : Type 0 where
  pub at : At w h t
  pub fit : Fit h t
  pub chain : ChainAt w f
  pub once : (k : ℕ) → count k (ids h t) + count k f ≤ 1
  pub small : size h t < 2 ^ 32

-- t and f became s and g
pub record Reshaped (w w' : List ℕ) (h : ℕ) (t : Tree h) (f : List ℕ) (s : Tree h) (g : List ℕ) : Type 0 where
  pub at : At w' h s
  pub chain : ChainAt w' g
  pub untouched : Untouched w w' (ids h t ++ f)

-- ---- a whole bag, but for the root word, which is the caller's

abbrev pub known_of : Bag → Known
known_of b = record { root = root_id b.root; levels = levels_of b.root; free = length b.free }

pub record BagStands (w : List ℕ) (b : Bag) : Type 0 where
  pub tree : RootAt w b.root
  pub fit : FitRoot b.root
  pub chain : ChainAt w b.free
  pub once : (k : ℕ) → met k b ≤ 1
  pub small : length (list_of b.root) < 2 ^ 32

-- b became d, of which r is known
pub record Became (w w' : List ℕ) (b d : Bag) (r : Known) : Type 0 where
  pub known : r ≡ known_of d
  pub tree : RootAt w' d.root
  pub chain : ChainAt w' d.free
  pub untouched : Untouched w w' (root_ids b.root ++ b.free)
