-- A child brought to 16 elements or more, before a removal goes into it.
use mathlib.Core.Path.{◌≡◌, refl, ap, ap₂, subst, ◌∙◌}
use mathlib.Core.List.{List, [], ◌∷◌, ◌++◌, append_assoc}
use mathlib.Core.Bool.{Bool, true, false}
use Prim.Native.Nat.{ℕ, suc, ◌+◌, ◌-◌, ◌≤◌, ◌<◌}
use native.Mathlib.Numerals.{add-two}
use native.Mathlib.Omega.{arith}
use borrow.Author.Tests.{leb-true, leb-false, ltb-true, ltb-false}
use lib.Dec.{leb, ltb}
use lib.ListN.{length, take, drop, get_or, length-append}
use lib.Seq.{set_split}
use Rattle.lists.specs.Lists.{sum, remove_at, last}
use Rattle.lists.proofs.Counts.{count-append}
use Rattle.model.specs.Tree.{Tree, kid, none, size, before}
use Rattle.model.specs.Fit.{Child, Fit}
use Rattle.model.specs.declared.Repair.{Repair}
use Rattle.model.specs.declared.Repair.TheVariants.{Nothing, FromLeft, FromRight, WithLeft, WithRight}
use Rattle.model.specs.Remove.{is_thin, merge, gave_last, took_front, gave_first, took_back, with_pair, borrow_left, borrow_right}
use Rattle.model.specs.Remove.{choose, repair_for, Filled, repaired, fill}
use Rattle.model.proofs.Nodes.{node, Rearranged, rearranged}
use Rattle.model.proofs.Splice.{Run, splice, splice_flat, splice_elems, splice_fit, splice_kid, splice_before, flat_two, held_two}
use Rattle.model.proofs.Find.{before_next}
use Rattle.model.proofs.Pairs.{Recast, recast_size, join_recast, lend_right, lend_left, gave_last_less, gave_first_less}

pub ruleset tests = (leb-true, leb-false, ltb-true, ltb-false)

-- the same list in a node whose child with index i in it has 16 elements or more
pub record Refilled (h : ℕ) (t : Tree (suc h)) (i : ℕ) (f : List ℕ) (s : Filled h) : Type 0 where
  pub same : Rearranged (suc h) t f s.node s.free
  pub fewer : length t.elems ≤ length s.node.elems + 1
  pub child : s.child ≤ length s.node.elems
  pub full : 16 ≤ length (kid h s.node s.child).elems
  pub from : before h s.node s.child ≤ i
  pub upto : i < before h s.node s.child + size h (kid h s.node s.child)

-- ---- children c and c + 1 and the separator between them give way to others

module _ (h : ℕ) (t : Tree (suc h)) (F : Fit (suc h) t) (c : ℕ) (l : c < length t.elems) where
  abbrev Pair : List ℕ → List ℕ → List (Tree h) → Type 0
  Pair freed es ks = Recast h (kid h t c) (get_or t.elems c 0) (kid h t (c + 1)) freed es ks

  run : {freed es : List ℕ} {ks : List (Tree h)} → Pair freed es ks → Run h t c (suc c) es ks
  run R = record { fit = F; order = omega arith; inside = l; between = R.between }

  run_fit : {freed es : List ℕ} {ks : List (Tree h)} → Pair freed es ks → Fit (suc h) (splice h t c (suc c) es ks)
  run_fit R = splice_fit (run R) R.all (omega (arith, R.few, F.most))

  same : {freed es : List ℕ} {ks : List (Tree h)} → Pair freed es ks → (f : List ℕ)
      → Rearranged (suc h) t f (splice h t c (suc c) es ks) (freed ++ f)
  same {freed} R f =
      rearranged F
      (splice_flat (run R) ∙ rw (R.list, flat_two h t F c l) (simp append_assoc))
      (run_fit R)
      (λ k. omega (arith, held_two h t F c l (run R) k, R.nodes k, count-append k freed f))

  -- index i being in the new child n, which is child d
  refilled : {freed es : List ℕ} {ks : List (Tree h)} → Pair freed es ks → (i : ℕ) (f : List ℕ)
      → (n d : ℕ) → n < length ks → d ≡ c + n → 16 ≤ length (get_or ks n (none h)).elems
      → before h (splice h t c (suc c) es ks) d ≤ i → i < before h (splice h t c (suc c) es ks) d + size h (get_or ks n (none h))
      → Refilled h t i f (record { node = splice h t c (suc c) es ks; child = d; free = freed ++ f })
  refilled {es = es} {ks} R i f n d m e u p q =
      let k : kid h (splice h t c (suc c) es ks) d ≡ get_or ks n (none h) = splice_kid (run R) n d m e in
      record {
        same = same R f;
        fewer = omega (arith, splice_elems (run R));
        child = omega (arith, splice_elems (run R), R.between);
        full = rw k u;
        from = p;
        upto = rw k q;
      }

  pair_splice : (a : Tree h) (e : ℕ) (b : Tree h) → with_pair h t c a e b ≡ splice h t c (suc c) (e ∷ []) (a ∷ (b ∷ []))
  pair_splice a e b =
      ap₂ (node t.id) (set_split t.elems c e l) (ap (λ (n : ℕ). take c t.kids ++ (a ∷ (b ∷ drop n t.kids))) (add-two c))

  lent : {a b : Tree h} {e : ℕ} → Recast h (kid h t c) (get_or t.elems c 0) (kid h t (c + 1)) [] (e ∷ []) (a ∷ (b ∷ [])) → (f : List ℕ)
      → Rearranged (suc h) t f (with_pair h t c a e b) f
  lent {a} {b} {e} R f = rw (pair_splice a e b) (same R f)

  -- ---- merge and borrow; the children at hand

  abbrev a : Tree h
  a = kid h t c

  abbrev e : ℕ
  e = get_or t.elems c 0

  abbrev b : Tree h
  b = kid h t (c + 1)

  A : Child h (Fit h) a
  A = F.each c (omega arith)

  B : Child h (Fit h) b
  B = F.each (c + 1) (omega arith)

  -- the right node is freed
  pub merge_law : length a.elems + length b.elems ≤ 30 → (f : List ℕ) → Rearranged (suc h) t f (merge h t c) (b.id ∷ f)
  unfolding merge remove_at
  merge_law m f = rw (add-two c) (same (join_recast h a e b A B m) f)

  pub borrow_right_law : length a.elems ≤ 30 → 16 ≤ length b.elems → (f : List ℕ) → Rearranged (suc h) t f (borrow_right h t c) f
  unfolding borrow_right
  borrow_right_law m n f = lent (lend_left h a e b A B m n) f

  pub borrow_left_law : 16 ≤ length a.elems → length b.elems ≤ 30 → (f : List ℕ) → Rearranged (suc h) t f (borrow_left h t c) f
  unfolding borrow_left
  borrow_left_law m n f = lent (lend_right h a e b A B m n) f

  -- ---- and where index i then is

  pub merge_refills : length a.elems ≤ 15 → length b.elems ≤ 15 → (i : ℕ) (f : List ℕ)
      → before h t c ≤ i → i < before h t c + size h a + 1 + size h b
      → Refilled h t i f (record { node = merge h t c; child = c; free = b.id ∷ f })
  unfolding merge remove_at sum
  merge_refills m n i f u v =
      let R = join_recast h a e b A B (omega arith) in
      let w = splice_before (run R) in
      let z = recast_size h a e b A B R in
      let len = length-append a.elems (e ∷ b.elems) in
      rw (add-two c) (refilled R i f 0 c (omega arith) (omega arith) (omega (arith, A.least)) (omega arith) (omega arith))

  right_refills : length a.elems ≤ 15 → 16 ≤ length b.elems → (i : ℕ) (f : List ℕ)
      → before h t c ≤ i → i < before h t c + size h a
      → Refilled h t i f (record { node = borrow_right h t c; child = c; free = f })
  unfolding borrow_right sum
  right_refills m n i f u v =
      let R = lend_left h a e b A B (omega arith) n in
      let w = splice_before (run R) in
      let y = gave_first_less h a e b A B in
      let z = recast_size h a e b A B R in
      let len = length-append a.elems (e ∷ []) in
      rw (pair_splice (took_back a e b) (get_or b.elems 0 0) (gave_first b))
      (refilled R i f 0 c (omega arith) (omega arith) (omega (arith, A.least)) (omega arith) (omega arith))

  left_refills : 16 ≤ length a.elems → length b.elems ≤ 15 → (i : ℕ) (f : List ℕ)
      → before h t (c + 1) ≤ i → i < before h t (c + 1) + size h b
      → Refilled h t i f (record { node = borrow_left h t c; child = c + 1; free = f })
  unfolding borrow_left sum
  left_refills m n i f u v =
      let x : ℕ = last a.elems 0 in
      let R = lend_right h a e b A B m (omega arith) in
      let s : Tree (suc h) = splice h t c (suc c) (x ∷ []) (gave_last a ∷ (took_front a e b ∷ [])) in
      let y = gave_last_less h a e b A B in
      let z = recast_size h a e b A B R in
      let w : before h s (c + 1) ≡ before h t c + size h (gave_last a) + 1 =
      omega (
        arith,
        before_next h s c (omega (arith, splice_elems (run R), (run_fit R).one_more)),
        splice_before (run R),
        ap (size h) (splice_kid (run R) 0 c (omega arith) (omega arith)),
      ) in
      let q = before_next h t c (omega arith) in
      rw (pair_splice (gave_last a) x (took_front a e b))
      (refilled R i f 1 (c + 1) (omega arith) refl (omega (arith, B.least)) (omega arith) (omega arith))

-- ---- the choice

-- what it says of the children
abbrev pub Says : (h : ℕ) → Tree (suc h) → ℕ → Repair → Type 0
Says h t c Nothing = 16 ≤ length (kid h t c).elems
Says h t c FromLeft = (0 < c) × (16 ≤ length (kid h t (c - 1)).elems) × (length (kid h t c).elems ≤ 15)
Says h t c FromRight = (c + 1 < length t.kids) × (length (kid h t c).elems ≤ 15) × (16 ≤ length (kid h t (c + 1)).elems)
Says h t c WithLeft = (0 < c) × (length (kid h t (c - 1)).elems ≤ 15) × (length (kid h t c).elems ≤ 15)
Says h t c WithRight = (c + 1 < length t.kids) × (length (kid h t c).elems ≤ 15) × (length (kid h t (c + 1)).elems ≤ 15)

pub says : (h : ℕ) (t : Tree (suc h)) (c : ℕ) → 1 < length t.kids → Says h t c (repair_for h t c)
unfolding repair_for is_thin
says h t c n =
    go (thin c) (ltb 0 c) (thin (c - 1)) (ltb (c + 1) (length t.kids)) (thin (c + 1)) refl refl refl refl refl
  where
    thin : ℕ → Bool
    thin d = leb (length (kid h t d).elems) 15

    go : (b1 b2 b3 b4 b5 : Bool) → thin c ≡ b1 → ltb 0 c ≡ b2 → thin (c - 1) ≡ b3 → ltb (c + 1) (length t.kids) ≡ b4 → thin (c + 1) ≡ b5
        → Says h t c (choose b1 b2 b3 b4 b5)
    go false b2 b3 b4 b5 p q r s u = omega (arith, tests)
    go true true false b4 b5 p q r s u = omega (arith, tests)
    go true true true true false p q r s u = omega (arith, tests)
    go true true true true true p q r s u = omega (arith, tests)
    go true true true false b5 p q r s u = omega (arith, tests)
    go true false b3 true false p q r s u = omega (arith, tests)
    go true false b3 true true p q r s u = omega (arith, tests)
    go true false b3 false b5 p q r s u = omega (arith, tests)

pub fill_law : (h : ℕ) (t : Tree (suc h)) (c i : ℕ) (f : List ℕ) → Fit (suc h) t → 0 < length t.elems → c ≤ length t.elems
    → before h t c ≤ i → i < before h t c + size h (kid h t c) → Refilled h t i f (fill h t c f)
unfolding fill repaired
fill_law h t c i f F n l u v = go (repair_for h t c) (says h t c (omega arith))
  where
    go : (r : Repair) → Says h t c r → Refilled h t i f (repaired h r t c f)
    go Nothing p =
        record { same = rearranged F refl F (λ k. refl); fewer = omega arith; child = l; full = p; from = u; upto = v }
    go FromLeft p =
        let e : c - 1 + 1 ≡ c = omega arith in
        subst (λ x. Refilled h t i f (record { node = borrow_left h t (c - 1); child = x; free = f })) e
        (left_refills h t F (c - 1) (omega arith) p.1 (rw e p.2) i f (rw e u) (rw e v))
    go FromRight p = right_refills h t F c (omega arith) p.1 p.2 i f u v
    go WithLeft p =
        let e : c - 1 + 1 ≡ c = omega arith in
        let w = rw e at (before_next h t (c - 1) (omega arith)) in
        subst (λ x. Refilled h t i f (record { node = merge h t (c - 1); child = c - 1; free = (kid h t x).id ∷ f })) e
        (merge_refills h t F (c - 1) (omega arith) p.1 (rw e p.2) i f (omega arith) (rw e (omega arith)))
    go WithRight p = merge_refills h t F c (omega arith) p.1 p.2 i f u (omega arith)
