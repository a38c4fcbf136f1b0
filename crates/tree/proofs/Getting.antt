-- Lookup: what each step of it has found, from what the calls before it ensure.
use mathlib.Core.Path.{◌≡◌, refl, sym, ap, subst, ◌∙◌}
use mathlib.Core.Bool.{true, false}
use mathlib.Core.List.{List}
use Prim.Native.Nat.{ℕ, zero, suc, ◌+◌, ◌*◌, ◌^◌, ◌≤◌, ◌<◌}
use native.Mathlib.Omega.{arith}
use borrow.Author.Tests.{eqb-true, eqb-false}
use lib.ListN.{length, get_or}
use Rattle.model.specs.declared.Found.{Found}
use Rattle.model.specs.Tree.{Tree, kid, size, find, at_separator, get}
use Rattle.model.specs.Fit.{Fit}
use Rattle.model.proofs.Nodes.{held_kid, kid-size}
use Rattle.model.proofs.Find.{Step, step, separator}
use Rattle.model.proofs.Get.{get_separator, get_inside}
use Rattle.model.proofs.Bounds.{levels_few}
use Rattle.tree.specs.declared.Turn.{Turn}
use Rattle.tree.specs.Stands.{Stands}
use Rattle.tree.specs.Lookup.{Above, Turns, Has, Counted, HasElement}
use Rattle.tree.proofs.Standing.{node_of}

-- ---- a tree that stands, and a child of it

abbrev pub stands_above : {w : List ℕ} {h id : ℕ} (S : Stands w (suc h) id) (index : ℕ) → index ≤ size (suc h) S.tree → Above w id index
stands_above {h = h} S index l = record { height = h; tree = S.tree; here = S.here; at = S.at; fit = S.fit.fit; upto = l }

abbrev pub stands_kid : {w : List ℕ} {h id k : ℕ} (S : Stands w (suc h) id) (c : ℕ) → c < length S.tree.kids → (kid h S.tree c).id ≡ k
    → Stands w h k
stands_kid {h = h} S c l e = record {
  tree = kid h S.tree c;
  here = e;
  at = S.at.each c l;
  fit = record { some = omega (arith, (S.fit.fit.each c l).least); fit = (S.fit.fit.each c l).fit };
  once = λ k. omega (arith, S.once k, held_kid h k S.tree c l);
  small = omega (arith, S.small, kid-size h S.tree c l);
}

-- ---- in a leaf

pub leaf-below : {w : List ℕ} {id index : ℕ} (h : ℕ) → h ≡ 0 → (s : Has w h id index) → index < length s.stands.tree.elems
unfolding size
leaf-below zero e s = s.below
leaf-below (suc h) e s = absurd (omega arith)

abbrev pub leaf_has : {w : List ℕ} {h id index : ℕ} → h ≡ 0 → Has w h id index → HasElement w id index
leaf_has {h = h} e s =
    record { node = node_of h s.stands.tree s.stands.here s.stands.at s.stands.fit.fit; below = leaf-below h e s }

pub leaf_counted : {w : List ℕ} {id index : ℕ} (h : ℕ) → h ≡ 0 → (s : Has w h id index) (n x : ℕ)
    → ((q : HasElement w id index) → x ≡ get_or q.node.elems index 0) → Counted h s.stands.tree index n n x
unfolding get
leaf_counted zero e s n x E = record { element = E (leaf_has e s); compared = omega arith }
leaf_counted (suc h) e s n x E = absurd (omega arith)

-- ---- in a node with children, l + 1 inner levels

module _ {w : List ℕ} {id index l : ℕ} (s : Has w (suc l) id index) where
  abbrev pub above : Above w id index
  above = stands_above s.stands index (omega (arith, s.below))

  abbrev t : Tree (suc l)
  t = s.stands.tree

  pub F : Fit (suc l) t
  F = s.stands.fit.fit

  pub way : Step l t index
  way = step l t F index (omega (arith, s.below))

  module _ (r : Turn) (T : (a : Above w id index) → Turns a.height a.tree index r) where
    -- at a separator
    module _ (e : r.separator ≡ true) where
      pub at : at_separator l t index ≡ true
      at = sym (T above).separator ∙ e

      abbrev pub sep_has : HasElement w id r.child
      sep_has = record {
        node = node_of (suc l) t s.stands.here s.stands.at F;
        below = rw (T above).child (separator l t F index s.below (eqb-true (find l t index).sub (size l (kid l t (find l t index).child)) at));
      }

      sep_counted : (n x : ℕ) → ((q : HasElement w id r.child) → x ≡ get_or q.node.elems r.child 0)
          → Counted (suc l) t index n (n + r.compared) x
      sep_counted n x E =
          let g = get_separator l t index at in
          record {
            element = E sep_has ∙ rw (T above).child (sym (ap (λ (f : Found). f.element) g));
            compared = omega (arith, (T above).compared, ap (λ (f : Found). f.compared) g);
          }

    -- in a child
    module _ (e : r.separator ≡ false) where
      pub inside : at_separator l t index ≡ false
      inside = sym (T above).separator ∙ e

      abbrev pub below_has : Has w l r.id r.sub
      below_has = record {
        stands = stands_kid s.stands (find l t index).child (omega (arith, way.child, F.one_more)) (sym (T above).id);
        below =
            let n = eqb-false (find l t index).sub (size l (kid l t (find l t index).child)) inside in
            rw (T above).sub (omega (arith, way.sub));
      }

      below_counted : (n n' x : ℕ) → ((q : Has w l r.id r.sub) → Counted l q.stands.tree r.sub (n + r.compared) n' x)
          → Counted (suc l) t index n n' x
      below_counted n n' x E =
          let g = get_inside l t index inside in
          let C : Counted l (kid l t (find l t index).child) (find l t index).sub (n + r.compared) n' x = rw (T above).sub at (E below_has) in
          record {
            element = C.element ∙ sym (ap (λ (f : Found). f.element) g);
            compared = omega (arith, C.compared, (T above).compared, ap (λ (f : Found). f.compared) g);
          }

-- ---- the same for any levels that are not 0

abbrev pub Turned : List ℕ → ℕ → ℕ → Turn → Type 0
Turned w id index r = (a : Above w id index) → Turns a.height a.tree index r

module _ {w : List ℕ} {id index : ℕ} where
  pub has_above : (h : ℕ) → (h ≡ 0 → ⊥) → Has w h id index → Above w id index
  has_above zero n s = absurd (n refl)
  has_above (suc l) n s = above s

  pub has_separator : (h : ℕ) → (h ≡ 0 → ⊥) → Has w h id index → (r : Turn) → Turned w id index r → r.separator ≡ true
      → HasElement w id r.child
  has_separator zero n s r T e = absurd (n refl)
  has_separator (suc l) n s r T e = sep_has s r T e

  -- a node has at most 32 children to compare
  pub few_compared : (h : ℕ) → (h ≡ 0 → ⊥) → Has w h id index → (r : Turn) → Turned w id index r → r.compared ≤ 32
  few_compared zero n s r T = absurd (n refl)
  few_compared (suc l) n s r T = omega (arith, (T (above s)).compared, (way s).compared, (way s).child, (F s).most)

  pub separator_counted : (h : ℕ) → (h ≡ 0 → ⊥) → (s : Has w h id index) (r : Turn) → Turned w id index r → r.separator ≡ true
      → (n x : ℕ) → ((q : HasElement w id r.child) → x ≡ get_or q.node.elems r.child 0)
      → Counted h s.stands.tree index n (n + r.compared) x
  separator_counted zero z s r T e n x E = absurd (z refl)
  separator_counted (suc l) z s r T e n x E = sep_counted s r T e n x E

  -- the call is made at l
  pub has_below : (h l : ℕ) → h ≡ suc l → Has w h id index → (r : Turn) → Turned w id index r → r.separator ≡ false
      → Has w l r.id r.sub
  has_below zero l e s r T f = absurd (omega arith)
  has_below (suc h) l e s r T f =
      let q : h ≡ l = omega arith in
      subst (λ n. Has w n r.id r.sub) q (below_has s r T f)

  pub child_counted : (h l : ℕ) → h ≡ suc l → (s : Has w h id index) (r : Turn) → Turned w id index r → r.separator ≡ false → (n n' x : ℕ)
      → ((q : Has w l r.id r.sub) → Counted l q.stands.tree r.sub (n + r.compared) n' x)
      → Counted h s.stands.tree index n n' x
  child_counted zero l e s r T f n n' x E = absurd (omega arith)
  child_counted (suc h) l e s r T f n n' x E =
      let q : l ≡ h = omega arith in
      below_counted s r T f n n' x (subst (λ m. (q : Has w m r.id r.sub) → Counted m q.stands.tree r.sub (n + r.compared) n' x) q E)

-- ---- a whole lookup

pub levels_fit : {w : List ℕ} {h id index : ℕ} → Has w h id index → 32 * h < 2 ^ 64
levels_fit {h = h} s = omega (arith, levels_few h s.stands.tree s.stands.fit, s.stands.small)
