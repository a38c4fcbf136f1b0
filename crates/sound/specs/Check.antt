-- What the check says of a pool, and its parts: the tree, the chain.
use Rattle.std.specs.Prelude.{◌≡◌, Option, None, Some, Result, Ok, Err, List, ℕ, ◌≤◌, length, get_or}
use Rattle.lists.specs.Lists.{count, from}
use Rattle.model.specs.Tree.{Root, root_ids, Bag, levels_of}
use Rattle.model.specs.Fit.{FitRoot}
use Rattle.model.specs.declared.Refusal.{Refusal}
use Rattle.model.specs.declared.Refusal.TheVariants.{Unsound, Misfit}
use Rattle.pool.specs.Layout.{root_word, root_id}
use Rattle.pool.specs.Parts.{RootAt, ChainAt}
use Rattle.pool.specs.Sound.{Holds, Sound, Sized}
use Rattle.shape.specs.Shape.{Adds, Unmet}
use Rattle.sound.specs.declared.Checked.{Checked}

-- the root stands in the pool, and its nodes are among 1, 2, .. p, none twice
pub record Planted (w : List ℕ) (p : ℕ) (t : Root) : Type 0 where
  pub top : get_or w root_word 0 ≡ root_id t
  pub at : RootAt w t
  pub fit : FitRoot t
  pub once : (j : ℕ) → count j (root_ids t) ≤ count j (from 1 p)

pub record TreeFound (h : ℕ) (w : List ℕ) (p : ℕ) (m m' : List ℕ) : Type 0 where
  pub root : Root
  pub planted : Planted w p root
  pub levels : h ≡ levels_of root
  pub adds : Adds m (root_ids root) m'

pub record Trees (r : Option ℕ) (w : List ℕ) (p : ℕ) (m m' : List ℕ) : Type 0 where
  pub good : (h : ℕ) → r ≡ Some h → TreeFound h w p m m'
  pub bad : r ≡ None → (t : Root) → Planted w p t → ⊥
  pub long : length m' ≡ length m

pub record ChainFound (n : ℕ) (w m m' : List ℕ) : Type 0 where
  pub free : List ℕ
  pub chain : ChainAt w free
  pub nodes : n ≡ length free
  pub adds : Adds m free m'

pub record Chains (r : Option ℕ) (w m m' : List ℕ) : Type 0 where
  pub good : (n : ℕ) → r ≡ Some n → ChainFound n w m m'
  pub bad : r ≡ None → (f : List ℕ) → ChainAt w f → Unmet m f → ⊥
  pub long : length m' ≡ length m

-- the length is tried first; a sound pool gives the inner levels of its tree and the number of its free nodes
pub record Checks (w : List ℕ) (r : Result Checked Refusal) : Type 0 where
  pub misfit : (Sized w → ⊥) → r ≡ Err Misfit
  pub unsound : Sized w → (Sound w → ⊥) → r ≡ Err Unsound
  pub sound : (b : Bag) → Holds w b → r ≡ Ok (record { levels = levels_of b.root; free = length b.free })
