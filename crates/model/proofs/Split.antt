-- A node whose full child is split: the same list, and an index that went into the child goes into one of its halves.
use mathlib.Core.Path.{◌≡◌, refl, sym, ap, ◌∙◌}
use mathlib.Core.List.{List, [], ◌∷◌}
use Prim.Native.Nat.{ℕ, zero, suc, ◌+◌, ◌-◌, ◌≤◌, ◌<◌}
use native.Mathlib.Decide.{dec_le}
use native.Mathlib.Omega.{arith}
use borrow.Author.Tests.{lt-leb}
use lib.ListN.{length, take, drop, get_or, length-take, length-drop}
use lib.Seq.{get_or-take, get_or-drop, take-take, take-add}
use Rattle.lists.specs.Lists.{sum, insert_at}
use Rattle.lists.proofs.All.{nil, cons}
use Rattle.lists.proofs.Sums.{total_append}
use Rattle.lists.proofs.Counts.{count-append}
use Rattle.model.specs.declared.Place.{Place}
use Rattle.model.specs.Tree.{Tree, none, kid, size, weave, find, before}
use Rattle.model.specs.Fit.{Fit}
use Rattle.model.specs.Insert.{is_full, split_child, needed_below}
use Rattle.model.proofs.Nodes.{shape, child, Rearranged, rearranged}
use Rattle.model.proofs.Nodes.{left_part, right_part, left_fit, right_fit, parts_flat, parts_held, parts_size}
use Rattle.model.proofs.Splice.{Run, splice, splice_flat, splice_elems, splice_fit, splice_kid, splice_before, flat_one, held_one}
use Rattle.model.proofs.Find.{place, into, found, step, before_next}

-- ---- an index needs as many nodes in a part of a node as in the node

module _ (c k : ℕ) where
  needed_left : (h : ℕ) (t : Tree h) → Fit h t → c < length t.elems → (j : ℕ) → j ≤ size h (left_part c t)
      → needed_below h (left_part c t) j ≡ needed_below h t j
  unfolding needed_below before
  needed_left zero t F l j m = refl
  needed_left (suc h) t F l j m =
      let L : Tree (suc h) = left_part c t in
      let w = step h L (left_fit c k (suc h) t F l) j m in
      let p : Place = find h L j in
      let b : p.child < suc c = omega (arith, length-take c t.elems) in
      let same : kid h L p.child ≡ kid h t p.child = get_or-take (suc c) t.kids p.child (none h) b in
      let at : before h L p.child ≡ before h t p.child = rw (take-take p.child (suc c) t.kids (omega arith)) refl in
      let f : find h t j ≡ place p.child p.sub =
      found h t j p.child p.sub (omega arith) (omega (arith, ap (size h) same)) (omega arith) in
      rw (f, same) refl

  needed_right : (h : ℕ) (t : Tree h) → Fit h t → c < length t.elems → (j m : ℕ) → m ≤ size h (right_part c k t)
      → j ≡ size h (left_part c t) + 1 + m → needed_below h (right_part c k t) m ≡ needed_below h t j
  unfolding needed_below before size
  needed_right zero t F l j m n e = refl
  needed_right (suc h) t F l j m n e =
      let R : Tree (suc h) = right_part c k t in
      let w = step h R (right_fit c k (suc h) t F l) m n in
      let p : Place = find h R m in
      let b : suc c + p.child < length t.kids = omega (arith, length-drop (suc c) t.elems) in
      let same : kid h R p.child ≡ kid h t (suc c + p.child) = get_or-drop (suc c) t.kids p.child (none h) in
      let at : before h t (suc c + p.child) ≡ size (suc h) (left_part c t) + 1 + before h R p.child =
      rw (take-add (suc c) p.child t.kids) (omega (
        arith,
        total_append (size h) (take (suc c) t.kids) (take p.child (drop (suc c) t.kids)),
        length-take c t.elems,
      )) in
      let f : find h t j ≡ place (suc c + p.child) p.sub =
      found h t j (suc c + p.child) p.sub b (omega (arith, ap (size h) same)) (omega arith) in
      rw (f, same) refl

-- ---- the full child that index i goes into is split, its right half into node a

-- index i goes into a child of s that is not full, and needs n nodes
pub record Goes (h : ℕ) (s : Tree (suc h)) (i n : ℕ) : Type 0 where
  pub room : length (into h s i).elems < 31
  pub need : needed_below (suc h) s i ≡ n

goes : (h : ℕ) (s : Tree (suc h)) (i c j : ℕ) (z : Tree h) → find h s i ≡ place c j → kid h s c ≡ z
    → length z.elems < 31 → Goes h s i (needed_below h z j)
unfolding needed_below is_full
goes h s i c j z f e l = record { room = rw (f, e) l; need = rw (f, e, lt-leb 31 (length z.elems) l) (omega arith) }

-- the node after it: the same list in one node more, which was free; and it has one element more itself
pub record Split (h : ℕ) (t : Tree (suc h)) (i a : ℕ) (f : List ℕ) (s : Tree (suc h)) : Type 0 where
  pub same : Rearranged (suc h) t (a ∷ f) s f
  pub elems : length s.elems ≡ length t.elems + 1
  pub goes : Goes h s i (needed_below h (into h t i) (find h t i).sub)

pub split_law : (h : ℕ) (t : Tree (suc h)) → Fit (suc h) t → length t.elems < 31 → (i a : ℕ) (f : List ℕ) → i ≤ size (suc h) t
    → length (into h t i).elems ≡ 31 → Split h t i a f (split_child h t (find h t i).child a)
unfolding split_child insert_at weave sum
split_law h t F r i a f m full =
    let w = step h t F i m in
    let c : ℕ = (find h t i).child in
    let j : ℕ = (find h t i).sub in
    let k : Tree h = kid h t c in
    let K : Fit h k = w.below.fit in
    let x : ℕ = get_or k.elems 15 0 in
    let L : Tree h = left_part 15 k in
    let N : Tree h = right_part 15 a k in
    let n : 15 < length k.elems = omega arith in
    let u : length L.elems ≡ 15 = rw length-take (omega arith) in
    let v : length N.elems ≡ 15 = rw length-drop (omega arith) in
    let R : Run h t c c (x ∷ []) (L ∷ (N ∷ [])) = record { fit = F; order = omega arith; inside = w.child; between = omega arith } in
    let s : Tree (suc h) = splice h t c c (x ∷ []) (L ∷ (N ∷ [])) in
    let LC = child h L (left_fit 15 a h k K n) (omega arith) in
    let NC = child h N (right_fit 15 a h k K n) (omega arith) in
    let S : Fit (suc h) s = splice_fit R (cons LC (cons NC nil)) (omega arith) in
    let e : length s.elems ≡ length t.elems + 1 = omega (arith, splice_elems R) in
    let kl : kid h s c ≡ L = splice_kid R 0 c (omega arith) (omega arith) in
    let kn : kid h s (c + 1) ≡ N = splice_kid R 1 (c + 1) (omega arith) refl in
    let z = parts_size 15 a h k K n in
    record {
      same = rearranged F
          (splice_flat R ∙ sym (flat_one h t F c w.child ∙ rw (parts_flat 15 a h k (shape h k K) n) refl))
          S
          (λ q. omega (arith, held_one h t F c w.child R q, parts_held 15 a h q k n, count-append q (a ∷ []) f));
      elems = e;
      goes = elim (dec_le j (size h L)) [
        | yes p ↦
            rw (← needed_left 15 a h k K n j p)
            (goes h s i c j L (found h s i c j (omega (arith, S.one_more)) (rw kl p) (omega (arith, splice_before R))) kl (omega arith))
        | no p ↦
            (let d : ℕ = j - (size h L + 1) in
            let b : d ≤ size h N = omega arith in
            let g : before h s (c + 1) ≡ before h t c + size h L + 1 =
            omega (arith, before_next h s c (omega (arith, S.one_more)), splice_before R, ap (size h) kl) in
            rw (← needed_right 15 a h k K n j d b (omega arith))
            (goes h s i (c + 1) d N (found h s i (c + 1) d (omega (arith, S.one_more)) (rw kn b) (omega arith)) kn (omega arith)))
      ];
    }
