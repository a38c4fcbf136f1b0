-- The stretch of elements from an index on: where it stands, level by level.
use mathlib.Core.Path.{◌≡◌, refl, sym, ap, ap₂, subst, ◌∙◌}
use mathlib.Core.Bool.{true, false}
use mathlib.Core.List.{List}
use Prim.Native.Nat.{ℕ, zero, suc, ◌-◌, ◌≤◌}
use native.Mathlib.Omega.{arith}
use Rattle.model.specs.declared.Stretch.{Stretch}
use Rattle.model.specs.Tree.{Tree, kid, find}
use Rattle.model.specs.Calls.{stretch}
use Rattle.model.proofs.Spans.{stretch_separator, stretch_inside}
use Rattle.pool.specs.Parts.{count_at}
use Rattle.tree.specs.declared.Turn.{Turn}
use Rattle.tree.specs.Node.{Node}
use Rattle.tree.specs.Lookup.{Has}
use Rattle.tree.proofs.Standing.{node_of, node_count}
use Rattle.tree.proofs.Getting.{Turned, above, leaf-below, below_has}

abbrev pub own_node : {w : List ℕ} {h id index : ℕ} → Has w h id index → Node w id
own_node {h = h} s = node_of h s.stands.tree s.stands.here s.stands.at s.stands.fit.fit

pub leaf_within : {w : List ℕ} {id index : ℕ} (h : ℕ) → h ≡ 0 → (s : Has w h id index) (n : ℕ) → n ≡ count_at w id → index ≤ n
leaf_within h e s n E = omega (arith, leaf-below h e s, node_count (own_node s))

pub leaf_spans : {w : List ℕ} {id index : ℕ} (h : ℕ) → h ≡ 0 → (s : Has w h id index) (n : ℕ) → n ≡ count_at w id
    → ◌≡◌ {A = Stretch} (record { node = id; slot = index; count = n - index }) (stretch h s.stands.tree index)
unfolding stretch
leaf_spans {index = index} zero e s n E =
    ap₂ (λ (k m : ℕ). record { node = k; slot = index; count = m - index }) (sym s.stands.here) (E ∙ node_count (own_node s))
leaf_spans (suc h) e s n E = absurd (omega arith)

module _ {w : List ℕ} {id index : ℕ} where
  pub separator_spans : (h : ℕ) → (h ≡ 0 → ⊥) → (s : Has w h id index) (r : Turn) → Turned w id index r → r.separator ≡ true
      → ◌≡◌ {A = Stretch} (record { node = id; slot = r.child; count = 1 }) (stretch h s.stands.tree index)
  separator_spans zero n s r T e = absurd (n refl)
  separator_spans (suc l) n s r T e =
      ap₂ (λ (k c : ℕ). record { node = k; slot = c; count = 1 }) (sym s.stands.here) (T (above s)).child
      ∙ sym (stretch_separator l s.stands.tree index (sym (T (above s)).separator ∙ e))

  -- the call is made at l
  pub child_spans : (h l : ℕ) → h ≡ suc l → (s : Has w h id index) (r : Turn) → Turned w id index r → r.separator ≡ false → (q : Stretch)
      → ((z : Has w l r.id r.sub) → q ≡ stretch l z.stands.tree r.sub) → q ≡ stretch h s.stands.tree index
  child_spans zero l e s r T f q E = absurd (omega arith)
  child_spans (suc h) l e s r T f q E =
      let m : l ≡ h = omega arith in
      let t : Tree (suc h) = s.stands.tree in
      subst (λ n. (z : Has w n r.id r.sub) → q ≡ stretch n z.stands.tree r.sub) m E (below_has s r T f)
      ∙ ap (stretch h (kid h t (find h t index).child)) (T (above s)).sub
      ∙ sym (stretch_inside h t index (sym (T (above s)).separator ∙ f))
