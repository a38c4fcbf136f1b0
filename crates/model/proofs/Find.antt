-- Where an index lies: the one child c and index j in it with `i ≡ before c + j`, j being at most that child's size.
use mathlib.Core.Path.{◌≡◌, refl, ap, ◌∙◌}
use mathlib.Core.List.{List, [], ◌∷◌, ◌++◌, map}
use mathlib.Core.Bool.{Bool, true, false, cond}
use Prim.Native.Nat.{ℕ, zero, suc, ◌+◌, ◌-◌, ◌≤◌, ◌<◌}
use native.Mathlib.Nat.{suc-add}
use native.Mathlib.Numerals.{add-one}
use native.Mathlib.Decide.{dec_lt}
use native.Mathlib.Omega.{arith}
use borrow.Author.Tests.{leb-true, leb-false, le-leb, lt-leb}
use lib.Dec.{leb}
use lib.ListN.{length, take, get_or, length-append, drop_of_length-le}
use lib.Seq.{take-suc}
use Rattle.lists.specs.Lists.{sum}
use Rattle.lists.proofs.Sums.{total, total_append}
use Rattle.model.specs.declared.Place.{Place}
use Rattle.model.specs.Tree.{Tree, kid, none, size, flat, find_in, find, before}
use Rattle.model.specs.Fit.{Child, Fit}
use Rattle.model.proofs.Weave.{after}
use Rattle.model.proofs.Nodes.{flat-length}
use Rattle.model.proofs.Splice.{left, right, left_length, flat_one}

-- ---- in a list of sizes

-- index j in child c: every child up to it was compared
abbrev pub place : ℕ → ℕ → Place
place c j = record { child = c; sub = j; compared = c + 1 }

-- the same one child further on
abbrev later : Place → Place
later p = record { child = suc p.child; sub = p.sub; compared = suc p.compared }

find_here : (n : ℕ) (ns : List ℕ) (i : ℕ) → i ≤ n → find_in (n ∷ ns) i ≡ place 0 i
unfolding find_in
find_here n ns i l = ap (λ (b : Bool). cond b (place 0 i) (later (find_in ns (i - (n + 1))))) (le-leb i n l)

find_there : (n : ℕ) (ns : List ℕ) (i j : ℕ) → i ≡ n + 1 + j → find_in (n ∷ ns) i ≡ later (find_in ns j)
unfolding find_in
find_there n ns i j e =
    let d : i - (n + 1) ≡ j = omega arith in
    rw (lt-leb i n (omega arith), d) refl

-- children of the sizes g, read past the end as z
module _ {A : Type 0} (g : A → ℕ) (z : A) where
  record At (ks : List A) (i : ℕ) (p : Place) : Type 0 where
    child : p.child < length ks
    sub : p.sub ≤ g (get_or ks p.child z)
    index : i ≡ total g (take p.child ks) + p.child + p.sub
    compared : p.compared ≡ p.child + 1

  find_at : (ks : List A) (i : ℕ) → i < total g ks + length ks → At ks i (find_in (map g ks) i)
  unfolding sum
  find_at [] i l = absurd (omega arith)
  find_at (k ∷ ks) i l = go (leb i (g k)) refl (find_at ks)
    where
      go : (b : Bool) → leb i (g k) ≡ b → ((j : ℕ) → j < total g ks + length ks → At ks j (find_in (map g ks) j))
          → At (k ∷ ks) i (find_in (map g (k ∷ ks)) i)
      go true e rec =
          let m = leb-true i (g k) e in
          rw (find_here (g k) (map g ks) i m) (record { child = omega arith; sub = m; index = omega arith; compared = refl })
      go false e rec =
          let m = leb-false i (g k) e in
          let j : ℕ = i - (g k + 1) in
          let r = rec j (omega arith) in
          rw (find_there (g k) (map g ks) i j (omega arith)) (record {
            child = omega arith;
            sub = r.sub;
            index = omega arith;
            compared = omega arith;
          })

  pub find_unique : (ks : List A) (i c j : ℕ) → c < length ks → j ≤ g (get_or ks c z) → i ≡ total g (take c ks) + c + j
      → find_in (map g ks) i ≡ place c j
  unfolding sum
  find_unique [] i c j l m e = absurd (omega arith)
  find_unique (k ∷ ks) i zero j l m e =
      let q : i ≡ j = omega arith in
      rw q (find_here (g k) (map g ks) j m)
  find_unique (k ∷ ks) i (suc c) j l m e =
      let r : ℕ = total g (take c ks) + c + j in
      rw (suc-add c 1)
      (find_there (g k) (map g ks) i r (omega arith)
      ∙ ap later (find_unique ks r c j (omega arith) m refl))

-- ---- in a tree

-- no other child and index has the same place
pub found : (h : ℕ) (t : Tree (suc h)) (i c j : ℕ) → c < length t.kids → j ≤ size h (kid h t c) → i ≡ before h t c + j
    → find h t i ≡ place c j
unfolding before
found h t i c j l m e = find_unique (size h) (none h) t.kids i c j l m e

-- the child that index i goes into
abbrev pub into : (h : ℕ) → Tree (suc h) → ℕ → Tree h
into h t i = kid h t (find h t i).child

-- what is known of it
pub record Step (h : ℕ) (t : Tree (suc h)) (i : ℕ) : Type 0 where
  pub child : (find h t i).child ≤ length t.elems
  pub sub : (find h t i).sub ≤ size h (into h t i)
  pub index : i ≡ before h t (find h t i).child + (find h t i).sub
  pub compared : (find h t i).compared ≡ (find h t i).child + 1
  pub in_list : i ≡ length (left h t (find h t i).child) + (find h t i).sub
  pub below : Child h (Fit h) (into h t i)
  pub length-below : length (flat h (into h t i)) ≡ size h (into h t i)

pub step : (h : ℕ) (t : Tree (suc h)) → Fit (suc h) t → (i : ℕ) → i ≤ size (suc h) t → Step h t i
unfolding size before
step h t F i l =
    let a = find_at (size h) (none h) t.kids i (omega arith) in
    let c : ℕ = (find h t i).child in
    let K = F.each c a.child in
    let m : c ≤ length t.elems = omega arith in
    record {
      child = m;
      sub = a.sub;
      index = a.index;
      compared = a.compared;
      in_list = omega (arith, a.index, left_length h t c F m);
      below = K;
      length-below = flat-length h (kid h t c) K.fit;
    }

pub before_next : (h : ℕ) (t : Tree (suc h)) (c : ℕ) → c < length t.kids → before h t (c + 1) ≡ before h t c + size h (kid h t c) + 1
unfolding before sum
before_next h t c l =
    rw (add-one c, take-suc t.kids c (none h) l) (omega (arith, total_append (size h) (take c t.kids) (kid h t c ∷ [])))

-- an index before the list's end that is at its child's end is that of the separator after the child
pub separator : (h : ℕ) (t : Tree (suc h)) → Fit (suc h) t → (i : ℕ) → i < size (suc h) t
    → (find h t i).sub ≡ size h (into h t i) → (find h t i).child < length t.elems
unfolding after
separator h t F i l e =
    let s = step h t F i (omega arith) in
    let c : ℕ = (find h t i).child in
    elim (dec_lt c (length t.elems)) [
      | yes p ↦ p
      | no q ↦
          (let z : right h t c ≡ [] = rw (drop_of_length-le t.elems {i = c} (omega arith)) refl in
          absurd (omega (
            arith,
            flat-length (suc h) t F,
            ap length (flat_one h t F c s.child),
            length-append (left h t c) (flat h (kid h t c) ++ right h t c),
            length-append (flat h (kid h t c)) (right h t c),
            ap length z,
          )))
    ]
