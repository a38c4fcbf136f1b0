-- What is read of the bag that a pool holds, from what is known of it.
use mathlib.Core.Path.{◌≡◌, refl, sym, ap, subst, ◌∙◌}
use mathlib.Core.List.{List}
use mathlib.Core.Logic.{◌≢◌}
use Prim.Native.Nat.{ℕ, ◌≤◌, ◌<◌}
use borrow.Author.Tests.{leb-true, leb-false}
use mathlib.Core.Bool.{Bool, true, false, cond}
use lib.Dec.{leb}
use Rattle.std.specs.Prelude.{Result, Ok, Err}
use Rattle.model.specs.declared.Refusal.{Refusal}
use Rattle.model.specs.declared.Refusal.TheVariants.{PastTheEnd}
use native.Mathlib.Omega.{arith}
use lib.ListN.{length}
use Rattle.model.specs.declared.Found.{Found}
use Rattle.model.specs.Tree.{get, Root, Bag, list_of, bag_get}
use Rattle.model.specs.Calls.{length_of}
use Rattle.pool.specs.Parts.{Inside, length_at}
use Rattle.pool.proofs.Node.{at_length}
use Rattle.tree.specs.declared.Known.{Known}
use Rattle.tree.specs.Stands.{BagStands}
use Rattle.tree.specs.Lookup.{Has}
use Rattle.tree.proofs.Edits.{owns_stands}
use Rattle.tree.proofs.Rooting.{Rooted, is_rooted, is_bare, not_bare}
use Rattle.calls.specs.Does.{Ready, place_of}
use Rattle.calls.proofs.Bags.{holds_stands}

-- ---- the root

module _ {w : List ℕ} {known : Known} (s : Ready w known) where
  stands : BagStands w s.bag
  stands = holds_stands s.holds

  pub len-none : known.root ≡ 0 → 0 ≡ length_of s.bag
  unfolding list_of
  len-none e = sym (ap (λ (r : Root). length (list_of r)) (is_bare stands s.is e))

  module _ (n : known.root ≢ 0) where
    R : Rooted w known s.bag
    R = is_rooted stands s.is (not_bare stands s.is n)

    pub root_inside : Inside w known.root
    root_inside = subst (Inside w) R.here R.owns.at.here.inside

    pub len_root : (m : ℕ) → m ≡ length_at w known.root → m ≡ length_of s.bag
    len_root m e =
        e ∙ sym (ap (length_at w) R.here) ∙ at_length w known.levels R.tree R.owns.at.here ∙ sym R.long

  -- there is one where the list has an index
  module _ (i : ℕ) (l : i < length_of s.bag) where
    pub root_of : Rooted w known s.bag
    unfolding list_of
    root_of = is_rooted stands s.is (λ e. absurd (omega (arith, l, ap (λ (r : Root). length (list_of r)) e)))

    abbrev pub root_has : Has w known.levels known.root i
    root_has = record {
      stands = owns_stands root_of.owns root_of.here root_of.some;
      below = omega (arith, l, root_of.long);
    }

    pub root_got : (f : Found) → ((q : Has w known.levels known.root i) → f ≡ get known.levels q.stands.tree i)
        → f ≡ bag_get s.bag i
    unfolding bag_get
    root_got f G =
        subst (λ (r : Root). f ≡ bag_get (record { root = r; free = s.bag.free }) i) (sym root_of.is) (G root_has)

-- ---- the place of an element

module _ (b : Bag) (i : ℕ) where
  -- a place is that of an element, and its refusal is that there is none
  abbrev Tells : Result ℕ Refusal → Type 0
  Tells (Ok j) = (j ≡ i) × (i < length_of b)
  Tells (Err why) = (why ≡ PastTheEnd) × (length_of b ≤ i)

  pub place_tells : {r : Result ℕ Refusal} → r ≡ place_of i b → Tells r
  place_tells e = subst Tells (sym e) (go (leb (length_of b) i) refl)
    where
      go : (t : Bool) → leb (length_of b) i ≡ t → Tells (cond t (Err PastTheEnd) (Ok i))
      go true q = (refl, leb-true (length_of b) i q)
      go false q = (refl, leb-false (length_of b) i q)
