-- Removal from a tree.
use mathlib.Core.Path.{◌≡◌, refl, sym, ap, ◌∙◌}
use mathlib.Core.List.{List, [], ◌∷◌, ◌++◌, append_assoc}
use mathlib.Core.Bool.{Bool, true, false}
use Prim.Native.Nat.{ℕ, zero, suc, ◌+◌, ◌-◌, ◌≤◌, ◌<◌}
use native.Mathlib.Omega.{arith}
use borrow.Author.Tests.{eqb-true, eqb-false}
use lib.Dec.{leb}
use lib.ListN.{length, get_or, length-append}
use lib.Seq.{get_or_at, set_split}
use Rattle.lists.specs.Lists.{remove_at, sum, count}
use Rattle.lists.proofs.All.{nil, cons}
use Rattle.lists.proofs.Edits.{length-remove_at, remove_at_middle, remove_at_between, remove_at-last, remove_at_first}
use Rattle.lists.proofs.Edits.{get_or_middle, set_left, set_right}
use Rattle.model.specs.Tree.{Tree, kid, none, size, ids, weave, flat, find, before, at_separator}
use Rattle.model.specs.Fit.{Child, Fit}
use Rattle.model.specs.declared.Way.{Way}
use Rattle.model.specs.declared.Way.TheVariants.{Inside, ByLast, ByFirst, ByMerge}
use Rattle.model.specs.Remove.{is_thin, merge, Filled, fill, Shrunk, back, swapped}
use Rattle.model.specs.Remove.{choose_way, way_for, remove_step, remove}
use Rattle.model.proofs.Nodes.{held, child, flat-length, size_least}
use Rattle.model.proofs.Splice.{splice, left, right, left_length, splice_flat, splice_elems, splice_fit}
use Rattle.model.proofs.Splice.{flat_one, with_flat, with_fit, with_held, two, flat_two, held_two}
use Rattle.model.proofs.Find.{into, Step, step, separator}
use Rattle.model.proofs.Fill.{tests, Refilled, merge_refills, fill_law}

-- the element at index i is given back; a root may lose one element, and freed nodes go to the front of the free ones
pub record Removed (h : ℕ) (t : Tree h) (i : ℕ) (f : List ℕ) (r : Shrunk (Tree h)) : Type 0 where
  pub list : flat h r.tree ≡ remove_at (flat h t) i
  pub old : r.old ≡ get_or (flat h t) i 0
  pub fit : Fit h r.tree
  pub fewer : length t.elems ≤ length r.tree.elems + 1
  pub nodes : (k : ℕ) → held h k r.tree + count k r.free ≡ held h k t + count k f

-- ---- inside a child: child c, with 16 elements or more, after the removal below it

back_law : (h : ℕ) (t : Tree (suc h)) (c i : ℕ) (f : List ℕ) (r : Shrunk (Tree h)) → Fit (suc h) t → c ≤ length t.elems
    → 16 ≤ length (kid h t c).elems → before h t c ≤ i → i < before h t c + size h (kid h t c)
    → Removed h (kid h t c) (i - before h t c) f r → Removed (suc h) t i f (back h t c r)
back_law h t c i f r F l n u v Q =
    let a : Tree h = kid h t c in
    let j : ℕ = i - before h t c in
    let at : i ≡ length (left h t c) + j = omega (arith, left_length h t c F l) in
    let m : j < length (flat h a) = omega (arith, flat-length h a (F.each c (omega arith)).fit) in
    let whole = flat_one h t F c l in
    record {
      list = with_flat h t F c l r.tree
          ∙ rw Q.list (sym (rw whole (remove_at_middle (left h t c) (flat h a) (right h t c) i j at m)));
      old = Q.old ∙ sym (rw whole (get_or_middle (left h t c) (flat h a) (right h t c) i j at 0 m));
      fit = with_fit h t F c l r.tree (child h r.tree Q.fit (omega (arith, Q.fewer)));
      fewer = omega arith;
      nodes = λ k. omega (arith, with_held h t F c l r.tree k, Q.nodes k);
    }

-- the same where the node was changed for it
refilled_law : (h : ℕ) (t : Tree (suc h)) (i : ℕ) (f : List ℕ) (s : Filled h) (r : Shrunk (Tree h)) → Refilled h t i f s
    → Removed h (kid h s.node s.child) (i - before h s.node s.child) s.free r
    → Removed (suc h) t i f (back h s.node s.child r)
refilled_law h t i f s r P Q =
    let b = back_law h s.node s.child i s.free r P.same.fit P.child P.full P.from P.upto Q in
    record {
      list = b.list ∙ ap (λ (z : List ℕ). remove_at z i) P.same.list;
      old = b.old ∙ ap (λ (z : List ℕ). get_or z i 0) P.same.list;
      fit = b.fit;
      fewer = P.fewer;
      nodes = λ k. omega (arith, b.nodes k, P.same.nodes k);
    }

-- ---- at separator c: a neighbour gives an element for it

module _ (h : ℕ) (t : Tree (suc h)) (F : Fit (suc h) t)
    (c i : ℕ) (l : c < length t.elems) (at : i ≡ before h t c + size h (kid h t c)) where
  swap_law : (a b : Tree h) (x : ℕ) (f g : List ℕ) → Child h (Fit h) a → Child h (Fit h) b
      → flat h a ++ (x ∷ flat h b) ≡ flat h (kid h t c) ++ flat h (kid h t (c + 1))
      → ((k : ℕ) → held h k a + held h k b + count k g ≡ held h k (kid h t c) + held h k (kid h t (c + 1)) + count k f)
      → Removed (suc h) t i f (record { tree = splice h t c (suc c) (x ∷ []) (a ∷ (b ∷ [])); old = get_or t.elems c 0; free = g })
  unfolding weave sum
  swap_law a b x f g A B e own =
      let R = two h t F c l a x b in
      let L : List ℕ = left h t c ++ flat h (kid h t c) in
      let rest : List ℕ = flat h (kid h t (c + 1)) ++ right h t (suc c) in
      let len = length-append (left h t c) (flat h (kid h t c)) in
      let p = flat-length h (kid h t c) (F.each c (omega arith)).fit in
      let m : length L ≡ i = omega (arith, left_length h t c F (omega arith)) in
      record {
        list = splice_flat R ∙ rw (e, flat_two h t F c l, remove_at_between L (get_or t.elems c 0) rest i m) (simp append_assoc);
        old = rw (flat_two h t F c l) (sym (get_or_at L (get_or t.elems c 0) rest 0 i m));
        fit = splice_fit R (cons A (cons B nil)) (omega arith);
        fewer = omega (arith, splice_elems R);
        nodes = λ k. omega (arith, held_two h t F c l R k, own k);
      }

  by_last : (f : List ℕ) (r : Shrunk (Tree h)) → 16 ≤ length (kid h t c).elems
      → Removed h (kid h t c) (size h (kid h t c) - 1) f r → Removed (suc h) t i f (swapped h t c c r)
  by_last f r n Q =
      let a : Tree h = kid h t c in
      let b : Tree h = kid h t (c + 1) in
      let m : length (flat h a) ≡ size h a = flat-length h a (F.each c (omega arith)).fit in
      let s : 0 < length (flat h a) = omega (arith, size_least h a) in
      let e : flat h r.tree ++ (r.old ∷ []) ≡ flat h a = rw (Q.list, Q.old, ← m) (remove_at-last (flat h a) 0 s) in
      let A = child h r.tree Q.fit (omega (arith, Q.fewer)) in
      rw (set_split t.elems c r.old l, set_left t.kids c (none h) (omega arith) r.tree)
      (swap_law r.tree b r.old f r.free A (F.each (c + 1) (omega arith)) (rw (← e) (simp append_assoc))
      (λ k. omega (arith, Q.nodes k)))

  by_first : (f : List ℕ) (r : Shrunk (Tree h)) → 16 ≤ length (kid h t (c + 1)).elems
      → Removed h (kid h t (c + 1)) 0 f r → Removed (suc h) t i f (swapped h t c (c + 1) r)
  by_first f r n Q =
      let a : Tree h = kid h t c in
      let b : Tree h = kid h t (c + 1) in
      let s : 0 < length (flat h b) = omega (arith, size_least h b, flat-length h b (F.each (c + 1) (omega arith)).fit) in
      let B = child h r.tree Q.fit (omega (arith, Q.fewer)) in
      rw (set_split t.elems c r.old l, set_right t.kids c (none h) (omega arith) r.tree)
      (swap_law a r.tree r.old f r.free (F.each c (omega arith)) B (rw (Q.list, Q.old, remove_at_first (flat h b) 0 s) refl)
      (λ k. omega (arith, Q.nodes k)))

-- ---- the choice

-- what it says of the children around separator c
abbrev pub Says : (h : ℕ) → Tree (suc h) → ℕ → ℕ → Way → Type 0
Says h t c i Inside = i < before h t c + size h (kid h t c)
Says h t c i ByLast = (i ≡ before h t c + size h (kid h t c)) × (16 ≤ length (kid h t c).elems)
Says h t c i ByFirst = (i ≡ before h t c + size h (kid h t c)) × (16 ≤ length (kid h t (c + 1)).elems)
Says h t c i ByMerge = (i ≡ before h t c + size h (kid h t c)) × (length (kid h t c).elems ≤ 15) × (length (kid h t (c + 1)).elems ≤ 15)

pub says : (h : ℕ) (t : Tree (suc h)) (i : ℕ) → Step h t i → Says h t (find h t i).child i (way_for h t i)
unfolding way_for is_thin
says h t i w = go (at_separator h t i) (thin (find h t i).child) (thin ((find h t i).child + 1)) refl refl refl
  where
    thin : ℕ → Bool
    thin d = leb (length (kid h t d).elems) 15

    go : (b1 b2 b3 : Bool) → at_separator h t i ≡ b1 → thin (find h t i).child ≡ b2 → thin ((find h t i).child + 1) ≡ b3
        → Says h t (find h t i).child i (choose_way b1 b2 b3)
    go false b2 b3 p q r =
        let n = eqb-false (find h t i).sub (size h (into h t i)) p in
        omega (arith, w.index, w.sub)
    go true false b3 p q r = omega (arith, tests, eqb-true, w.index)
    go true true false p q r = omega (arith, tests, eqb-true, w.index)
    go true true true p q r = omega (arith, tests, eqb-true, w.index)

-- one level, from the law one level down
step_law : (h : ℕ) (below : Tree h → ℕ → List ℕ → Shrunk (Tree h))
    → ((u : Tree h) (j : ℕ) (g : List ℕ) → Fit h u → 0 < length u.elems → j < size h u → Removed h u j g (below u j g))
    → (t : Tree (suc h)) (i : ℕ) (f : List ℕ) → Fit (suc h) t → 0 < length t.elems → i < size (suc h) t
    → Removed (suc h) t i f (remove_step h below (way_for h t i) t (find h t i).child i f)
unfolding remove_step
step_law h below law t i f F n l = let w = step h t F i (omega arith) in go w (way_for h t i) (says h t i w)
  where
    c : ℕ
    c = (find h t i).child

    refilled : (s : Filled h) → Refilled h t i f s → Removed (suc h) t i f
        (back h s.node s.child (below (kid h s.node s.child) (i - before h s.node s.child) s.free))
    refilled s q =
        let k : Tree h = kid h s.node s.child in
        let K = (q.same.fit.each s.child (omega (arith, q.child, q.same.fit.one_more))).fit in
        let j : ℕ = i - before h s.node s.child in
        refilled_law h t i f s (below k j s.free) q (law k j s.free K (omega (arith, q.full)) (omega (arith, q.from, q.upto)))

    go : Step h t i → (y : Way) → Says h t c i y → Removed (suc h) t i f (remove_step h below y t c i f)
    go w Inside p = refilled (fill h t c f) (fill_law h t c i f F n w.child (omega arith) p)
    go w ByLast p =
        let m : c < length t.elems = separator h t F i l (omega arith) in
        let k : Tree h = kid h t c in
        by_last h t F c i m p.0 f (below k (size h k - 1) f) p.1
        (law k (size h k - 1) f w.below.fit (omega arith) (omega (arith, size_least h k)))
    go w ByFirst p =
        let m : c < length t.elems = separator h t F i l (omega arith) in
        let k : Tree h = kid h t (c + 1) in
        by_first h t F c i m p.0 f (below k 0 f) p.1
        (law k 0 f (F.each (c + 1) (omega arith)).fit (omega arith) (omega (arith, size_least h k)))
    go w ByMerge p =
        let m : c < length t.elems = separator h t F i l (omega arith) in
        refilled (record { node = merge h t c; child = c; free = (kid h t (c + 1)).id ∷ f })
        (merge_refills h t F c m p.1 p.2 i f (omega arith) (omega arith))

-- ---- all levels

pub remove_law : (h : ℕ) (t : Tree h) (i : ℕ) (f : List ℕ) → Fit h t → 0 < length t.elems → i < size h t
    → Removed h t i f (remove h t i f)
unfolding remove flat size ids
remove_law zero t i f F n l =
    let e : length (remove_at t.elems i) + 1 ≡ length t.elems = length-remove_at t.elems i l in
    record { list = refl; old = refl; fit = record { most = omega arith }; fewer = omega arith; nodes = λ k. refl }
remove_law (suc h) t i f F n l = step_law h (remove h) (remove_law h) t i f F n l
