use mathlib.Core.Path.{◌≡◌, sym, ap, ◌∙◌}
use mathlib.Core.List.{List}
use Prim.Native.Nat.{ℕ, ◌+◌, ◌<◌}
use native.Mathlib.Decide.{ℕ_discrete}
use native.Mathlib.Omega.{arith}
use lib.ListN.{length, get_or}
use lib.Seq.{ext_get_or}
use Rattle.model.specs.declared.Found.{Found}
use Rattle.model.specs.Tree.{get, list_of}
use Rattle.tree.specs.declared.Known.{Known}
use Rattle.tree.specs.Lookup.{Has}
use Rattle.calls.specs.Does.{Ready}
use Rattle.calls.proofs.Reading.{root_has}
use Rattle.model.proofs.Calls.{equal-same, equal_differ}
use Rattle.views.proofs.Views.{root_element}
use Rattle.views.proofs.equal.Goals as goal
use Rattle.views.proofs.equal.Invariants.{Agree}

-- at place i, by what the lookups found
module _ {a b : List ℕ} {x y : Known} {n i : ℕ} (A : Agree a x b y n i) (l : i < n) (f g : Found)
    (F : (q : Has a x.levels x.root i) → f ≡ get x.levels q.stands.tree i)
    (G : (q : Has b y.levels y.root i) → g ≡ get y.levels q.stands.tree i) where
  in_left : (s : Ready a x) → f.element ≡ get_or (list_of s.bag.root) i 0
  in_left s = root_element s i (omega (arith, A.left s)) f F

  in_right : (t : Ready b y) → g.element ≡ get_or (list_of t.bag.root) i 0
  in_right t = root_element t i (omega (arith, A.right t)) g G

  further : f.element ≡ g.element → Agree a x b y n (i + 1)
  further e = record { left = A.left; right = A.right; upto = λ s t j m. go s t j m (ℕ_discrete j i) }
    where
      go : (s : Ready a x) (t : Ready b y) (j : ℕ) → j < i + 1 → Dec (j ≡ i) → get_or (list_of s.bag.root) j 0 ≡ get_or (list_of t.bag.root) j 0
      go s t j m (yes q) = rw q (sym (in_left s) ∙ e ∙ in_right t)
      go s t j m (no q) = A.upto s t j (omega arith)

pub returns-then-n-len : goal.returns-then-n-len
returns-then-n-len c s t =
    let e = c.len-n.ensures s in
    let f = c.len.ensures t in
    sym (equal_differ s.bag t.bag (λ q. c.if-n-len.true (e ∙ ap length q ∙ sym f)))

pub look_up-x-requires : goal.look_up-x-requires
look_up-x-requires c =
    let s = c.requires.0 in
    root_has s _ (omega (arith, c.loop-i.invariant.left s))

pub look_up-y-requires : goal.look_up-y-requires
look_up-y-requires c =
    let t = c.requires.1 in
    root_has t _ (omega (arith, c.loop-i.invariant.right t))

pub returns-then-x-y : goal.returns-then-x-y
returns-then-x-y c s t =
    let A = c.loop-i.invariant in
    let F = c.look_up-x.ensures in
    let G = c.look_up-y.ensures in
    sym
    (equal_differ s.bag t.bag
    (λ q. c.if-x-y.true
    (in_left A (omega arith) _ _ F G s ∙ ap (λ (xs : List ℕ). get_or xs c.loop-i.i 0) q ∙ sym (in_right A (omega arith) _ _ F G t))))

pub loop-i-preserved : goal.loop-i-preserved
loop-i-preserved c =
    further c.loop-i.invariant (omega arith) _ _ c.look_up-x.ensures
    c.look_up-y.ensures c.if-x-y.false

pub returns : goal.returns
returns c s t =
    let A = c.loop-i.invariant in
    sym
    (equal-same s.bag t.bag
    (ext_get_or 0 (list_of s.bag.root) (list_of t.bag.root) (sym (A.left s) ∙ A.right t) (λ j l. A.upto s t j (omega (arith, A.left s)))))
