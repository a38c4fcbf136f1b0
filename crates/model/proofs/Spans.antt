-- What is shown of an element: itself and those after it in its leaf, or a separator by itself. These are the list's elements from it on,
-- and the stretch of an index is where they stand in a node of the tree.
use mathlib.Core.Path.{◌≡◌, refl, sym, ap, ◌∙◌}
use mathlib.Core.Bool.{Bool, true, false}
use mathlib.Core.List.{List, [], ◌∷◌, ◌++◌}
use Prim.Native.Nat.{ℕ, zero, suc, ◌+◌, ◌≤◌, ◌<◌}
use native.Mathlib.Omega.{arith}
use borrow.Author.Tests.{eqb-true, eqb-false}
use lib.ListN.{length, take, drop, get_or, length-append, length-take, length-drop}
use lib.Seq.{take_all, take-length, take-append-le, drop-cons, drop_at, drop-append-le, drop-append-add}
use Rattle.model.specs.declared.Place.{Place}
use Rattle.model.specs.declared.Stretch.{Stretch}
use Rattle.model.specs.Tree.{Tree, kid, size, flat, find, before, at_separator, Root, bare, rooted, list_of}
use Rattle.model.specs.Fit.{Fit, FitRoot}
use Rattle.model.specs.Calls.{stretch}
use Rattle.model.proofs.Nodes.{flat-length}
use Rattle.model.proofs.Splice.{left, right, left_length, flat_one, flat_two}
use Rattle.model.proofs.Find.{found, into, Step, step, separator}

-- ---- what is shown of element i: from it to the end of its leaf; a separator by itself

pub data Shown : (h : ℕ) → Tree h → ℕ → List ℕ → Type 0 where
  leaf : {t : Tree 0} {i : ℕ} → i < length t.elems → Shown 0 t i (drop i t.elems)
  alone : {h : ℕ} {t : Tree (suc h)} {i : ℕ} (c : ℕ) → c < length t.elems → i ≡ before h t c + size h (kid h t c)
      → Shown (suc h) t i (get_or t.elems c 0 ∷ [])
  below : {h : ℕ} {t : Tree (suc h)} {i : ℕ} {xs : List ℕ} (c j : ℕ) → c < length t.kids → j < size h (kid h t c) → i ≡ before h t c + j
      → Shown h (kid h t c) j xs → Shown (suc h) t i xs

shown_some : {h : ℕ} {t : Tree h} {i : ℕ} {xs : List ℕ} → Shown h t i xs → 1 ≤ length xs
shown_some (leaf {t} {i} l) = omega (arith, length-drop i t.elems)
shown_some (alone c l e) = omega arith
shown_some (below c j l m e S) = shown_some S

-- an index has one place
one_place : (h : ℕ) (t : Tree (suc h)) {i j k : ℕ} (c d : ℕ) → c < length t.kids → j ≤ size h (kid h t c) → i ≡ before h t c + j
    → d < length t.kids → k ≤ size h (kid h t d) → i ≡ before h t d + k → (c ≡ d) × (j ≡ k)
one_place h t {i} {j} {k} c d l m e n o f =
    let s = sym (found h t i c j l m e) ∙ found h t i d k n o f in
    (ap (λ (p : Place). p.child) s, ap (λ (p : Place). p.sub) s)

-- nothing else is
pub shown_one : {h : ℕ} {t : Tree h} {i : ℕ} {xs ys : List ℕ} → Fit h t → Shown h t i xs → Shown h t i ys → xs ≡ ys
shown_one F (leaf l) (leaf m) = refl
shown_one F (alone {h} {t} c l e) (alone d m f) =
    let s = one_place h t c d (omega arith) (omega arith) e (omega arith) (omega arith) f in
    ap (λ (k : ℕ). get_or t.elems k 0 ∷ []) s.0
shown_one F (alone {h} {t} c l e) (below d j m n f S) =
    let s = one_place h t c d (omega arith) (omega arith) e m (omega arith) f in
    absurd (omega (arith, s.1, ap (λ (k : ℕ). size h (kid h t k)) s.0))
shown_one F (below {h} {t} c k l o e R) (alone d m f) =
    let s = one_place h t c d l (omega arith) e (omega arith) (omega arith) f in
    absurd (omega (arith, s.1, ap (λ (k : ℕ). size h (kid h t k)) s.0))
shown_one F (below {h} {t} c k l o e R) (below d j m n f S) =
    let s = one_place h t c d l (omega arith) e m (omega arith) f in
    shown_one (F.each c l).fit R (rw (← s.0, ← s.1) at S)

-- they are the list's elements from i on
pub shown_list : {h : ℕ} {t : Tree h} {i : ℕ} {xs : List ℕ} → Fit h t → Shown h t i xs → xs ≡ take (length xs) (drop i (flat h t))
shown_list F (leaf {t} {i} l) = unfold flat in sym (take-length (drop i t.elems))
shown_list F (alone {h} {t} {i} c l e) =
    let p : List ℕ = left h t c in
    let q : List ℕ = flat h (kid h t c) in
    let long = flat-length h (kid h t c) (F.each c (omega arith)).fit in
    let at : length (p ++ q) ≡ i = omega (arith, length-append p q, left_length h t c F (omega arith)) in
    rw (flat_two h t F c l, drop_at (p ++ q) _ i at)
shown_list F (below {h} {t} {i} {xs} c j l m e S) =
    let p : List ℕ = left h t c in
    let q : List ℕ = flat h (kid h t c) in
    let s : List ℕ = right h t c in
    let long = flat-length h (kid h t c) (F.each c l).fit in
    let r = shown_list (F.each c l).fit S in
    let at : i ≡ length p + j = omega (arith, left_length h t c F (omega arith)) in
    let few : length xs ≤ length (drop j q) = omega (arith, ap length r, length-take (length xs) (drop j q)) in
    let inside : j ≤ length q = omega arith in
    rw (flat_one h t F c (omega arith), at, drop-append-add, drop-append-le j q s, take-append-le (length xs) (drop j q) s) r

-- the same of a root
abbrev pub ShownRoot : Root → ℕ → List ℕ → Type 0
ShownRoot bare i xs = ⊥
ShownRoot (rooted h t) i xs = Shown h t i xs

pub root_shown_some : (r : Root) (i : ℕ) (xs : List ℕ) → ShownRoot r i xs → 1 ≤ length xs
root_shown_some bare i xs S = absurd S
root_shown_some (rooted h t) i xs S = shown_some S

pub root_shown_list : (r : Root) (i : ℕ) (xs : List ℕ) → FitRoot r → ShownRoot r i xs → xs ≡ take (length xs) (drop i (list_of r))
unfolding list_of
root_shown_list bare i xs F S = absurd S
root_shown_list (rooted h t) i xs F S = shown_list F.fit S

-- ---- where they stand

-- u, of g inner levels, is a node of t: its root, or one of a child's
pub data NodeOf (g : ℕ) (u : Tree g) : (h : ℕ) → Tree h → Type 0 where
  root : NodeOf g u g u
  kids : {h : ℕ} {t : Tree (suc h)} (c : ℕ) → c < length t.kids → NodeOf g u h (kid h t c) → NodeOf g u (suc h) t

-- at a separator, and inside a child
pub stretch_separator : (h : ℕ) (t : Tree (suc h)) (i : ℕ) → at_separator h t i ≡ true
    → stretch (suc h) t i ≡ record { node = t.id; slot = (find h t i).child; count = 1 }
unfolding stretch
stretch_separator h t i e = rw (e, stretch)

pub stretch_inside : (h : ℕ) (t : Tree (suc h)) (i : ℕ) → at_separator h t i ≡ false → stretch (suc h) t i ≡ stretch h (into h t i) (find h t i).sub
unfolding stretch
stretch_inside h t i e = rw (e, stretch)

-- in one node: what is shown of element i
pub record Spans (h : ℕ) (t : Tree h) (i : ℕ) (s : Stretch) : Type 0 where
  pub levels : ℕ
  pub holder : Tree levels
  pub within : NodeOf levels holder h t
  pub fit : Fit levels holder
  pub node : s.node ≡ holder.id
  pub few : s.slot + s.count ≤ length holder.elems
  pub shown : Shown h t i (take s.count (drop s.slot holder.elems))

-- in the root
here : {h : ℕ} {t : Tree h} {i c n : ℕ} → Fit h t → c + n ≤ length t.elems → Shown h t i (take n (drop c t.elems))
    → Spans h t i (record { node = t.id; slot = c; count = n })
here {h} {t} F l S = record { levels = h; holder = t; within = root; fit = F; node = refl; few = l; shown = S }

pub stretch_law : (h : ℕ) (t : Tree h) → Fit h t → (i : ℕ) → i < size h t → Spans h t i (stretch h t i)
unfolding stretch size
stretch_law zero t F i l =
    let s : Stretch = stretch zero t i in
    let all : take s.count (drop s.slot t.elems) ≡ drop i t.elems =
    take_all s.count (drop i t.elems) (omega (arith, length-drop i t.elems)) in
    here F (omega arith) (rw all (leaf l))
stretch_law (suc h) t F i l =
    let w = step h t F i (omega arith) in
    go (at_separator h t i) refl w (stretch_law h (into h t i) w.below.fit (find h t i).sub)
  where
    c : ℕ
    c = (find h t i).child

    j : ℕ
    j = (find h t i).sub

    k : Tree h
    k = kid h t c

    go : (b : Bool) → at_separator h t i ≡ b → Step h t i → (j < size h k → Spans h k j (stretch h k j))
        → Spans (suc h) t i (stretch (suc h) t i)
    go true e w inner =
        let q = eqb-true j (size h k) e in
        let m : c < length t.elems = separator h t F i l q in
        let at : i ≡ before h t c + size h k = omega (arith, w.index) in
        rw (stretch_separator h t i e) (here F (omega arith) (rw (drop-cons t.elems c 0) (alone c m at)))
    go false e w inner =
        let q = eqb-false j (size h k) e in
        let l : c < length t.kids = omega arith in
        let m : j < size h k = omega arith in
        let r = inner m in
        rw (stretch_inside h t i e) (record {
          levels = r.levels;
          holder = r.holder;
          within = kids c l r.within;
          fit = r.fit;
          node = r.node;
          few = r.few;
          shown = below c j l m w.index r.shown;
        })
