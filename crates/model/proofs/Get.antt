-- Lookup and replacement.
use mathlib.Core.Path.{◌≡◌, refl, sym, ap, ap₂, ◌∙◌}
use mathlib.Core.List.{List, [], ◌∷◌, ◌++◌}
use mathlib.Core.Bool.{Bool, true, false}
use Prim.Native.Nat.{ℕ, zero, suc, ◌+◌, ◌*◌, ◌≤◌, ◌<◌}
use native.Mathlib.Omega.{arith}
use borrow.Author.Tests.{eqb-true, eqb-false}
use lib.ListN.{length, get_or, set, length-append, length-set}
use lib.Seq.{get_or_at, set_at, set_split, map-set_same}
use Rattle.lists.proofs.Edits.{get_or_middle, set_middle, split_two}
use Rattle.model.specs.declared.Found.{Found}
use Rattle.model.specs.Tree.{Tree, none, kid, size, ids, flat, find, at_separator, with_kid, with_elem, get, replace}
use Rattle.model.specs.Fit.{Fit}
use Rattle.model.proofs.Nodes.{node}
use Rattle.model.proofs.Splice.{splice, left, right, flat_one, with_flat, with_fit, pair_flat, flat_two}
use Rattle.model.proofs.Find.{into, Step, step, separator}

-- ---- lookup

-- at a separator, and inside a child
pub get_separator : (h : ℕ) (t : Tree (suc h)) (i : ℕ) → at_separator h t i ≡ true
    → get (suc h) t i ≡ record { element = get_or t.elems (find h t i).child 0; compared = (find h t i).compared }
unfolding get
get_separator h t i e = rw (e, get)

pub get_inside : (h : ℕ) (t : Tree (suc h)) (i : ℕ) → at_separator h t i ≡ false
    → get (suc h) t i ≡ (let r = get h (into h t i) (find h t i).sub in record { element = r.element; compared = (find h t i).compared + r.compared })
unfolding get
get_inside h t i e = rw (e, get)

-- the element at index i, and the child lengths compared: at most 32 in each inner level, and some if there is one
pub record Got (h : ℕ) (t : Tree h) (i : ℕ) (r : Found) : Type 0 where
  pub element : r.element ≡ get_or (flat h t) i 0
  pub compared : r.compared ≤ 32 * h
  pub some : 0 < h → 0 < r.compared

pub get_law : (h : ℕ) (t : Tree h) → Fit h t → (i : ℕ) → i < size h t → Got h t i (get h t i)
unfolding get flat
get_law zero t F i l = record { element = refl; compared = omega arith; some = omega arith }
get_law (suc h) t F i l =
    let w = step h t F i (omega arith) in
    go (at_separator h t i) refl w (get_law h (kid h t (find h t i).child) w.below.fit (find h t i).sub)
  where
    c : ℕ
    c = (find h t i).child

    j : ℕ
    j = (find h t i).sub

    k : Tree h
    k = kid h t c

    go : (b : Bool) → at_separator h t i ≡ b → Step h t i → (j < size h k → Got h k j (get h k j)) → Got (suc h) t i (get (suc h) t i)
    go true e w below =
        let q = eqb-true j (size h k) e in
        let m : c < length t.elems = separator h t F i l q in
        let at : length (left h t c ++ flat h k) ≡ i = omega (arith, length-append (left h t c) (flat h k)) in
        let after : List ℕ = flat h (kid h t (c + 1)) ++ right h t (suc c) in
        rw (get_separator h t i e) (record {
          element = sym (rw (flat_two h t F c m) (get_or_at (left h t c ++ flat h k) (get_or t.elems c 0) after 0 i at));
          compared = omega arith;
          some = omega arith;
        })
    go false e w below =
        let q = eqb-false j (size h k) e in
        let r = below (omega arith) in
        let mid = get_or_middle (left h t c) (flat h k) (right h t c) i j w.in_list 0 (omega arith) in
        rw (get_inside h t i e) (record {
          element = r.element ∙ sym (rw (flat_one h t F c w.child) mid);
          compared = omega arith;
          some = omega arith;
        })

-- ---- replacement

pub replace_separator : (h : ℕ) (t : Tree (suc h)) (i x : ℕ) → at_separator h t i ≡ true
    → replace (suc h) t i x ≡ with_elem (suc h) t (find h t i).child x
unfolding replace
replace_separator h t i x e = rw (e, replace)

pub replace_inside : (h : ℕ) (t : Tree (suc h)) (i x : ℕ) → at_separator h t i ≡ false
    → replace (suc h) t i x ≡ with_kid h t (find h t i).child (replace h (into h t i) (find h t i).sub x)
unfolding replace
replace_inside h t i x e = rw (e, replace)

-- the list with another element at index i, in the same nodes
pub record Replaced (h : ℕ) (t : Tree h) (i x : ℕ) (s : Tree h) : Type 0 where
  pub list : flat h s ≡ set (flat h t) i x
  pub fit : Fit h s
  pub nodes : ids h s ≡ ids h t
  pub elems : length s.elems ≡ length t.elems

elem_splice : (h : ℕ) (t : Tree (suc h)) (c x : ℕ) → c < length t.elems → c + 1 < length t.kids
    → with_elem (suc h) t c x ≡ splice h t c (suc c) (x ∷ []) (kid h t c ∷ (kid h t (c + 1) ∷ []))
elem_splice h t c x l m = ap₂ (node t.id) (set_split t.elems c x l) (split_two t.kids c (none h) m)

pub replace_law : (h : ℕ) (t : Tree h) → Fit h t → (i x : ℕ) → i < size h t → Replaced h t i x (replace h t i x)
unfolding replace flat
replace_law zero t F i x l =
    let n = length-set t.elems i x in
    record { list = refl; fit = record { most = omega arith }; nodes = unfold ids in refl; elems = n }
replace_law (suc h) t F i x l =
    let w = step h t F i (omega arith) in
    go (at_separator h t i) refl w (replace_law h (kid h t (find h t i).child) w.below.fit (find h t i).sub x)
  where
    c : ℕ
    c = (find h t i).child

    j : ℕ
    j = (find h t i).sub

    k : Tree h
    k = kid h t c

    go : (b : Bool) → at_separator h t i ≡ b → Step h t i → (j < size h k → Replaced h k j x (replace h k j x))
        → Replaced (suc h) t i x (replace (suc h) t i x)
    go true e w below =
        let q = eqb-true j (size h k) e in
        let m : c < length t.elems = separator h t F i l q in
        let at : length (left h t c ++ flat h k) ≡ i = omega (arith, length-append (left h t c) (flat h k)) in
        let after : List ℕ = flat h (kid h t (c + 1)) ++ right h t (suc c) in
        let n = length-set t.elems c x in
        rw (replace_separator h t i x e) (record {
          list = ap (flat (suc h)) (elem_splice h t c x m (omega arith))
              ∙ pair_flat h t F c m k x (kid h t (c + 1))
              ∙ sym (rw (flat_two h t F c m) (set_at (left h t c ++ flat h k) (get_or t.elems c 0) after x i at));
          fit = record { most = omega arith; one_more = omega arith; each = F.each };
          nodes = unfold ids in refl;
          elems = n;
        })
    go false e w below =
        let q = eqb-false j (size h k) e in
        let r = below (omega arith) in
        let s : Tree h = replace h k j x in
        let mid = set_middle (left h t c) (flat h k) (right h t c) i j w.in_list x (omega arith) in
        rw (replace_inside h t i x e) (record {
          list = with_flat h t F c w.child s
              ∙ rw r.list (sym (rw (flat_one h t F c w.child) mid));
          fit = with_fit h t F c w.child s (record { least = omega arith; fit = r.fit });
          nodes = unfold ids in rw (map-set_same (ids h) t.kids c s (none h) r.nodes) refl;
          elems = refl;
        })
