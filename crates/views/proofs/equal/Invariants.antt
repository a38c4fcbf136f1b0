-- `equal` meets its contract. Invariant: the lists are equally long, and agree up to i.
use mathlib.Core.Path.{◌≡◌}
use mathlib.Core.List.{List}
use Prim.Native.Nat.{ℕ, ◌<◌}
use lib.ListN.{get_or}
use Rattle.model.specs.Tree.{list_of}
use Rattle.model.specs.Calls.{length_of}
use Rattle.tree.specs.declared.Known.{Known}
use Rattle.calls.specs.Does.{Ready}
use Rattle.views.proofs.equal.Given as goal

-- two pools' lists are n long and agree up to i
pub record Agree (a : List ℕ) (x : Known) (b : List ℕ) (y : Known) (n i : ℕ) : Type 0 where
  pub left : (s : Ready a x) → n ≡ length_of s.bag
  pub right : (t : Ready b y) → n ≡ length_of t.bag
  pub upto : (s : Ready a x) (t : Ready b y) (j : ℕ) → j < i → get_or (list_of s.bag.root) j 0 ≡ get_or (list_of t.bag.root) j 0

abbrev pub invariant-loop-i : goal.invariant-loop-i
invariant-loop-i l = Agree l.a l.in_a l.b l.in_b l.n l.i
