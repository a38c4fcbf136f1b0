-- The whole list: its root, and the nodes that an insertion needs.
use mathlib.Core.Path.{◌≡◌, refl, sym, ap, ◌∙◌}
use mathlib.Core.Bool.{Bool, true, false, cond}
use mathlib.Core.List.{List}
use mathlib.Core.Logic.{◌≢◌}
use Prim.Native.Nat.{ℕ, ◌+◌, ◌^◌, ◌≤◌, ◌<◌}
use native.Mathlib.Omega.{arith}
use borrow.Author.Tests.{le-ltb}
use lib.Dec.{ltb}
use lib.ListN.{length}
use Rattle.model.specs.Tree.{Tree, size, Root}
use Rattle.model.specs.Insert.{is_full, needed_below, needed}
use Rattle.model.proofs.Bounds.{root_levels, needed-below_lem, needed_most}
use Rattle.tree.specs.declared.Known.{Known}
use Rattle.tree.specs.Node.{Node}
use Rattle.tree.proofs.Standing.{node_of}
use Rattle.tree.proofs.Edits.{owns_stands}
use Rattle.tree.proofs.Rooting.{Rooted, is_rooted, is_bare, not_bare}
use Rattle.insertion.specs.Ready.{BagReady}
use Rattle.insertion.specs.Steps.{Upto}
use Rattle.insertion.proofs.Needing.{Told, Needs}

-- ---- the root as the caller knows it

module _ {w : List ℕ} {known : Known} {index : ℕ} (b : BagReady w known index) where
  pub free_count : known.free ≡ length b.bag.free
  free_count = ap (λ (k : Known). k.free) b.is

  module _ (n : known.root ≢ 0) where
    pub root_of : Rooted w known b.bag
    root_of = is_rooted b.stands b.is (not_bare b.stands b.is n)

    pub index_upto : index ≤ size known.levels root_of.tree
    index_upto = omega (arith, b.upto, root_of.long)

  pub few_levels : known.levels < 2 ^ 32
  few_levels = omega (arith, ap (λ (k : Known). k.levels) b.is, root_levels b.bag.root b.stands.fit, b.stands.small)

  -- with a node for each level and two for the root there is room
  pub ample : known.levels + 2 ≤ known.free → ltb known.free (needed b.bag.root index) ≡ false
  ample l =
      le-ltb known.free (needed b.bag.root index)
      (omega (arith, ap (λ (k : Known). k.levels) b.is, needed_most b.bag.root index))

module _ {w : List ℕ} {known : Known} {index : ℕ} (b : BagReady w known index) (ne : known.root ≢ 0) where
  abbrev R : Rooted w known b.bag
  R = root_of b ne

  abbrev h : ℕ
  h = known.levels

  abbrev t : Tree h
  t = R.tree

  abbrev pub root_upto : Upto w known.levels known.root index
  root_upto = record { stands = owns_stands R.owns R.here R.some; upto = index_upto b ne }

  abbrev pub root_node : Node w known.root
  root_node = node_of h t R.here R.owns.at R.owns.fit

  -- ---- the nodes needed

  module _ (a : Bool) (A : Told w known.root a) where
    pub is_full_root : is_full h t ≡ a
    unfolding is_full
    is_full_root = sym (A root_node)

    pub root_needs : needed b.bag.root index ≡ cond a 2 0 + needed_below h t index
    unfolding needed
    root_needs = ap (λ (r : Root). needed r index) R.is ∙ rw is_full_root refl

  module _ (n : ℕ) (N : Needs w known.levels known.root index n) where
    pub root_few : n ≤ known.levels
    root_few = rw (N root_upto) (needed-below_lem h t index)

    module _ (a : Bool) (A : Told w known.root a) where
      pub two_more : a ≡ true → 2 + n ≡ needed b.bag.root index
      two_more e = omega (arith, N root_upto, rw e at (root_needs a A))

      pub none_more : a ≡ false → n ≡ needed b.bag.root index
      none_more e = omega (arith, N root_upto, rw e at (root_needs a A))

pub needs_one : {w : List ℕ} {known : Known} {index : ℕ} → known.root ≡ 0 → (b : BagReady w known index) → 1 ≡ needed b.bag.root index
unfolding needed
needs_one {index = index} e b = sym (ap (λ (r : Root). needed r index) (is_bare b.stands b.is e))
