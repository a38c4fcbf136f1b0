-- What taking the first free node, and giving one back, ask and leave.
use Rattle.std.specs.Prelude.{◌≡◌, List, [], ◌∷◌, ℕ, ◌≤◌, ◌<◌, length, get_or, drop, replicate}
use Rattle.lists.specs.Lists.{count}
use Rattle.pool.specs.Layout.{node_words}
use Rattle.pool.specs.Parts.{Stored, ChainAt}
use Rattle.pool.specs.Frame.{Untouched}

-- a chain of nodes, of which there is one
pub record Free (w : List ℕ) (f : List ℕ) : Type 0 where
  pub chain : ChainAt w f
  pub once : (k : ℕ) → count k f ≤ 1
  pub some : 0 < length f

-- all words of node k are 0
abbrev pub Blank : List ℕ → ℕ → Type 0
Blank w k = Stored w k (replicate node_words 0)

-- the first free node is r: it leaves the chain, and is blank
pub record Took (w : List ℕ) (f : List ℕ) (r : ℕ) (w' : List ℕ) : Type 0 where
  pub first : r ≡ get_or f 0 0
  pub clean : Blank w' r
  pub chain : ChainAt w' (drop 1 f)
  pub untouched : Untouched w w' (r ∷ [])

-- node k is now the first free node
pub record Gave (w : List ℕ) (f : List ℕ) (k : ℕ) (w' : List ℕ) : Type 0 where
  pub chain : ChainAt w' (k ∷ f)
  pub untouched : Untouched w w' (k ∷ [])
