-- Which pools are sound: those that are the words of a lawful bag. And which lengths fit.
use Rattle.std.specs.Prelude.{◌≡◌, Bool, true, cond, ◌&&◌, List, ℕ, ◌+◌, ◌-◌, ◌*◌, ◌/◌, ◌≤◌, eqb, leb, length}
use Rattle.lists.specs.Lists.{count, from}
use Rattle.model.specs.declared.Answer.{Answer}
use Rattle.model.specs.Tree.{Bag, met}
use Rattle.model.specs.Fit.{FitRoot}
use Rattle.model.specs.Calls.{refused, gives}
use Rattle.pool.specs.Layout.{words, head_words, node_words, most_nodes}

-- every number is met, from the root and along the chain together, as often as it stands in 1, 2, .. p
pub record Lawful (p : ℕ) (b : Bag) : Type 0 where
  pub few : p ≤ most_nodes
  pub fit : FitRoot b.root
  pub once : (k : ℕ) → met k b ≡ count k (from 1 p)

pub record Holds (w : List ℕ) (b : Bag) : Type 0 where
  pub nodes : ℕ
  pub lawful : Lawful nodes b
  pub layout : w ≡ words nodes b

abbrev pub Sound : List ℕ → Type 0
Sound w = (b : Bag) × Holds w b

-- the nodes of a pool of n words; n fits if it is what so many nodes take, and they are not too many
abbrev pub nodes_in : ℕ → ℕ
nodes_in n = (n - head_words) / node_words

unfoldable pub fits : ℕ → Bool
fits n = eqb n (head_words + node_words * nodes_in n) && leb (nodes_in n) most_nodes

abbrev pub Sized : List ℕ → Type 0
Sized w = fits (length w) ≡ true

-- what formatting n words answers
unfoldable pub format_answer : ℕ → Answer
unfolding fits
format_answer n = cond (fits n) (gives 0) (refused 4)
