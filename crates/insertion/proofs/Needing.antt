-- How many nodes an insertion needs: what each step of the count has read.
use mathlib.Core.Path.{◌≡◌, refl, sym, ap, subst, ◌∙◌}
use mathlib.Core.Bool.{Bool, true, false}
use mathlib.Core.List.{List}
use mathlib.Core.Logic.{◌≢◌}
use Prim.Native.Nat.{ℕ, zero, suc, ◌+◌, ◌≤◌, ◌<◌}
use native.Mathlib.Omega.{arith}
use lib.Dec.{leb}
use lib.ListN.{length}
use Rattle.model.specs.Tree.{Tree, find}
use Rattle.model.specs.Insert.{is_full, needed_below}
use Rattle.model.proofs.Find.{Step, into, step}
use Rattle.model.proofs.Bounds.{needed-below_lem}
use Rattle.tree.specs.declared.Turn.{Turn}
use Rattle.tree.specs.Node.{Node}
use Rattle.tree.specs.Lookup.{Above}
use Rattle.tree.proofs.Standing.{node_of}
use Rattle.tree.proofs.Getting.{Turned, stands_above, stands_kid}
use Rattle.insertion.specs.Steps.{Upto}

-- what `is_full` has answered for a node
abbrev pub Told : List ℕ → ℕ → Bool → Type 0
Told w k b = (m : Node w k) → b ≡ leb 31 (length m.elems)

-- ---- one level

module _ {w : List ℕ} {id index h : ℕ} (s : Upto w (suc h) id index) where
  abbrev t : Tree (suc h)
  t = s.stands.tree

  abbrev upto_above : Above w id index
  upto_above = stands_above s.stands index s.upto

  way : Step h t index
  way = step h t s.stands.fit.fit index s.upto

  place : (find h t index).child < length t.kids
  place = omega (arith, way.child, s.stands.fit.fit.one_more)

  module _ (r : Turn) (T : Turned w id index r) where
    abbrev upto_below : Upto w h r.id r.sub
    upto_below = record {
      stands = stands_kid s.stands (find h t index).child place (sym (T upto_above).id);
      upto = rw (T upto_above).sub way.sub;
    }

    abbrev below_node : Node w r.id
    below_node = let u = upto_below.stands in node_of h u.tree u.here u.at u.fit.fit

    module _ (n : ℕ) (N : (q : Upto w h r.id r.sub) → n ≡ needed_below h q.stands.tree r.sub) where
      below_needs : n ≡ needed_below h (into h t index) (find h t index).sub
      below_needs = N upto_below ∙ ap (needed_below h (into h t index)) (T upto_above).sub

      below_few : n ≤ h
      below_few = rw (N upto_below) (needed-below_lem h upto_below.stands.tree r.sub)

      module _ (b : Bool) (B : Told w r.id b) where
        full_kid : is_full h (into h t index) ≡ b
        unfolding is_full
        full_kid = sym (B below_node)

        needs_one_more : b ≡ true → 1 + n ≡ needed_below (suc h) t index
        unfolding needed_below
        needs_one_more e = rw (full_kid ∙ e) (omega (arith, below_needs))

        needs_no_more : b ≡ false → n ≡ needed_below (suc h) t index
        unfolding needed_below
        needs_no_more e = rw (full_kid ∙ e) (omega (arith, below_needs))

-- ---- the same by the levels as the code has them: the call is made at l

abbrev pub Needs : List ℕ → ℕ → ℕ → ℕ → ℕ → Type 0
Needs w levels id index n = (s : Upto w levels id index) → n ≡ needed_below levels s.stands.tree index

module _ {w : List ℕ} {id index : ℕ} where
  pub leaf_needs : (levels : ℕ) → levels ≡ 0 → Needs w levels id index 0
  unfolding needed_below
  leaf_needs zero e s = refl
  leaf_needs (suc h) e s = absurd (omega arith)

  pub as_above : (levels : ℕ) → levels ≢ 0 → Upto w levels id index → Above w id index
  as_above zero n s = absurd (n refl)
  as_above (suc h) n s = upto_above s

  module _ (r : Turn) (T : Turned w id index r) where
    pub as_below : (levels l : ℕ) → levels ≡ suc l → Upto w levels id index → Upto w l r.id r.sub
    as_below zero l e s = absurd (omega arith)
    as_below (suc h) l e s =
        let q : h ≡ l = omega arith in
        subst (λ (n : ℕ). Upto w n r.id r.sub) q (upto_below s r T)

    pub as_node : (levels : ℕ) → levels ≢ 0 → Upto w levels id index → Node w r.id
    as_node zero n s = absurd (n refl)
    as_node (suc h) n s = below_node s r T

    module _ (n : ℕ) where
      pub as_few : (levels l : ℕ) → levels ≡ suc l → Needs w l r.id r.sub n → Upto w levels id index → n < levels
      as_few zero l e N s = absurd (omega arith)
      as_few (suc h) l e N s =
          let q : l ≡ h = omega arith in
          omega (arith, below_few s r T n (subst (λ (m : ℕ). Needs w m r.id r.sub n) q N))

      module _ (b : Bool) (B : Told w r.id b) where
        pub one_more : (levels l : ℕ) → levels ≡ suc l → Needs w l r.id r.sub n → b ≡ true → Needs w levels id index (1 + n)
        one_more zero l e N y s = absurd (omega arith)
        one_more (suc h) l e N y s =
            let q : l ≡ h = omega arith in
            needs_one_more s r T n (subst (λ (m : ℕ). Needs w m r.id r.sub n) q N) b B y

        pub no_more : (levels l : ℕ) → levels ≡ suc l → Needs w l r.id r.sub n → b ≡ false → Needs w levels id index n
        no_more zero l e N y s = absurd (omega arith)
        no_more (suc h) l e N y s =
            let q : l ≡ h = omega arith in
            needs_no_more s r T n (subst (λ (m : ℕ). Needs w m r.id r.sub n) q N) b B y
