-- `format` meets its contract. Invariant: the length and the root word are right, and the nodes behind k are the chain, in order.
use mathlib.Core.Path.{◌≡◌}
use mathlib.Core.List.{List}
use Prim.Native.Nat.{ℕ, suc, ◌+◌, ◌-◌, ◌*◌}
use lib.ListN.{length, get_or}
use Rattle.lists.specs.Lists.{from}
use Rattle.pool.specs.Layout.{root_word, head_words, node_words}
use Rattle.pool.specs.Parts.{ChainAt}
use Rattle.chain.proofs.format.Given as goal

-- of p nodes those behind k are free, and there is no root
pub record Freed (w : List ℕ) (p k : ℕ) : Type 0 where
  pub long : length w ≡ head_words + node_words * p
  pub top : get_or w root_word 0 ≡ 0
  pub chain : ChainAt w (from (suc k) (p - k))

abbrev pub invariant-loop-k : goal.invariant-loop-k
invariant-loop-k l =
    Freed l.pool l.n l.k
