-- Which lengths fit: those of 0 to 4,096 nodes.
use mathlib.Core.Path.{◌≡◌, refl, sym}
use mathlib.Core.Bool.{Bool, true, false, ◌&&◌, true≢false}
use mathlib.Core.List.{List}
use Prim.Native.Nat.{ℕ, ◌+◌, ◌*◌, ◌≤◌}
use native.Mathlib.Omega.{arith}
use borrow.Author.Tests.{eqb-true, leb-true, eq-eqb, le-leb}
use lib.Dec.{eqb, leb}
use lib.ListN.{length}
use Rattle.model.specs.Tree.{Bag}
use Rattle.pool.specs.Layout.{head_words, node_words, most_nodes}
use Rattle.pool.specs.Sound.{Holds, nodes_in, fits, Sized}
use Rattle.pool.proofs.Whole.{holds_parts}

-- the words of so many nodes, and those not too many
pub record Fitting (n : ℕ) : Type 0 where
  pub exact : n ≡ head_words + node_words * nodes_in n
  pub few : nodes_in n ≤ most_nodes

pub fits_true : (n : ℕ) → fits n ≡ true → Fitting n
unfolding fits
fits_true n e = go (eqb n (head_words + node_words * nodes_in n)) refl e
  where
    go : (t : Bool) → eqb n (head_words + node_words * nodes_in n) ≡ t → t && leb (nodes_in n) most_nodes ≡ true → Fitting n
    go true q e = record { exact = eqb-true n (head_words + node_words * nodes_in n) q; few = leb-true (nodes_in n) most_nodes e }
    go false q e = absurd (true≢false (sym e))

pub nodes_in_lem : (n p : ℕ) → n ≡ head_words + node_words * p → nodes_in n ≡ p
nodes_in_lem n p e = omega arith

pub fits_of : (n p : ℕ) → n ≡ head_words + node_words * p → p ≤ most_nodes → fits n ≡ true
unfolding fits
fits_of n p e l =
    rw (eq-eqb n (head_words + node_words * nodes_in n) (omega arith)) (le-leb (nodes_in n) most_nodes (omega arith))

pub holds_sized : {w : List ℕ} {b : Bag} → Holds w b → Sized w
holds_sized {w} H = fits_of (length w) H.nodes (holds_parts H).sized H.lawful.few
