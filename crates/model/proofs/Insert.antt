-- Insertion into a tree whose root has room: the list, the shape, and which nodes are taken.
use mathlib.Core.Path.{◌≡◌, refl, sym, ap, ◌∙◌}
use mathlib.Core.List.{List, [], ◌∷◌}
use mathlib.Core.Bool.{Bool, true, false}
use Prim.Native.Nat.{ℕ, zero, suc, ◌+◌, ◌≤◌, ◌<◌}
use native.Mathlib.Omega.{arith}
use borrow.Author.Tests.{leb-true, leb-false, lt-leb}
use lib.ListN.{length, drop}
use Rattle.lists.specs.Lists.{count, insert_at}
use Rattle.lists.proofs.Edits.{length-insert_at, insert_at_middle}
use Rattle.model.specs.Tree.{Tree, kid, size, ids, flat, find, with_kid}
use Rattle.model.specs.Fit.{Fit}
use Rattle.model.specs.Insert.{is_full, split_child, Grown, insert_non_full, needed_below}
use Rattle.model.proofs.Nodes.{held, most}
use Rattle.model.proofs.Splice.{left, right, flat_one, with_flat, with_fit, with_held}
use Rattle.model.proofs.Find.{into, step}
use Rattle.model.proofs.Split.{split_law}

-- what the test for a full node says
pub full : (h : ℕ) (t : Tree h) → is_full h t ≡ true → 31 ≤ length t.elems
unfolding is_full
full h t e = leb-true 31 (length t.elems) e

pub not_full : (h : ℕ) (t : Tree h) → is_full h t ≡ false → length t.elems < 31
unfolding is_full
not_full h t e = leb-false 31 (length t.elems) e

-- x stands at index i, and the free nodes needed are taken, from the front
pub record Inserted (h : ℕ) (t : Tree h) (i x : ℕ) (f : List ℕ) (r : Grown (Tree h)) : Type 0 where
  pub list : flat h r.tree ≡ insert_at (flat h t) i x
  pub fit : Fit h r.tree
  pub least : length t.elems ≤ length r.tree.elems
  pub rest : r.free ≡ drop (needed_below h t i) f
  pub nodes : (k : ℕ) → held h k r.tree + count k r.free ≡ held h k t + count k f

-- ---- one level: what was inserted below child c goes back into it

abbrev raised : (h : ℕ) → Tree (suc h) → ℕ → Grown (Tree h) → Grown (Tree (suc h))
raised h t c r = record { tree = with_kid h t c r.tree; free = r.free }

module _ (h : ℕ) (t : Tree (suc h)) (i x : ℕ) where
  pub through : (f : List ℕ) → is_full h (into h t i) ≡ false → insert_non_full (suc h) t i x f
      ≡ raised h t (find h t i).child (insert_non_full h (into h t i) (find h t i).sub x f)
  unfolding insert_non_full
  through f e = rw (e, insert_non_full) refl

  need_through : is_full h (into h t i) ≡ false
      → needed_below (suc h) t i ≡ needed_below h (into h t i) (find h t i).sub
  unfolding needed_below
  need_through e = rw e (omega arith)

  pub after_split : (a : ℕ) (f : List ℕ) → is_full h (into h t i) ≡ true → insert_non_full (suc h) t i x (a ∷ f)
      ≡ (let s = split_child h t (find h t i).child a in
      raised h s (find h s i).child (insert_non_full h (into h s i) (find h s i).sub x f))
  unfolding insert_non_full
  after_split a f e = rw (e, insert_non_full) refl

  through_law : Fit (suc h) t → (f : List ℕ) → i ≤ size (suc h) t → is_full h (into h t i) ≡ false
      → Inserted h (into h t i) (find h t i).sub x f (insert_non_full h (into h t i) (find h t i).sub x f)
      → Inserted (suc h) t i x f (insert_non_full (suc h) t i x f)
  through_law F f l e I =
      let w = step h t F i l in
      let c : ℕ = (find h t i).child in
      let j : ℕ = (find h t i).sub in
      let k : Tree h = kid h t c in
      let s : Tree h = (insert_non_full h k j x f).tree in
      let mid = insert_at_middle (left h t c) (flat h k) (right h t c) i j w.in_list x (omega arith) in
      rw (through f e) (record {
        list = with_flat h t F c w.child s ∙ rw I.list (sym (rw (flat_one h t F c w.child) mid));
        fit = with_fit h t F c w.child s (record { least = omega arith; fit = I.fit });
        least = omega arith;
        rest = I.rest ∙ ap (λ (n : ℕ). drop n f) (sym (need_through e));
        nodes = λ n. omega (arith, I.nodes n, with_held h t F c w.child s n);
      })

pub insert_law : (h : ℕ) (t : Tree h) → Fit h t → length t.elems < 31 → (i x : ℕ) (f : List ℕ) → i ≤ size h t
    → needed_below h t i ≤ length f → Inserted h t i x f (insert_non_full h t i x f)
unfolding insert_non_full flat size needed_below
insert_law zero t F r i x f l n =
    let e = length-insert_at t.elems i x l in
    record {
      list = refl;
      fit = record { most = omega arith };
      least = omega arith;
      rest = refl;
      nodes = λ k. unfold ids in refl;
    }
insert_law (suc h) t F r i x f l n = go (is_full h (into h t i)) f refl n (insert_law h)
  where
    go : (b : Bool) (f : List ℕ) → is_full h (into h t i) ≡ b → needed_below (suc h) t i ≤ length f
        → ((u : Tree h) → Fit h u → length u.elems < 31 → (j x : ℕ) (f : List ℕ) → j ≤ size h u
        → needed_below h u j ≤ length f → Inserted h u j x f (insert_non_full h u j x f))
        → Inserted (suc h) t i x f (insert_non_full (suc h) t i x f)
    go false f e n below =
        let w = step h t F i l in
        let k : Tree h = into h t i in
        through_law h t i x F f l e
        (below k w.below.fit (not_full h k e) (find h t i).sub x f w.sub (omega (arith, need_through h t i x e)))
    go true [] e n below = absurd (omega (arith, rw e at n))
    go true (a ∷ f) e n below =
        let w = step h t F i l in
        let k : Tree h = into h t i in
        let S = split_law h t F r i a f l (omega (arith, full h k e, most h k w.below.fit)) in
        let s : Tree (suc h) = split_child h t (find h t i).child a in
        let u : Tree h = into h s i in
        let q : is_full h u ≡ false = unfold is_full in lt-leb 31 (length u.elems) S.goes.room in
        let split-first : insert_non_full (suc h) t i x (a ∷ f) ≡ insert_non_full (suc h) s i x f =
        after_split h t i x a f e ∙ sym (through h s i x f q) in
        let m : i ≤ size (suc h) s = omega (arith, S.same.sized) in
        let d : needed_below (suc h) t i ≡ suc (needed_below (suc h) s i) = rw e (omega (arith, S.goes.need)) in
        let v = step h s S.same.fit i m in
        let I = through_law h s i x S.same.fit f m q
        (below u v.below.fit S.goes.room (find h s i).sub x f v.sub (omega (arith, need_through h s i x q))) in
        rw split-first (record {
          list = I.list ∙ ap (λ (z : List ℕ). insert_at z i x) S.same.list;
          fit = I.fit;
          least = omega (arith, I.least, S.elems);
          rest = I.rest ∙ ap (λ (n : ℕ). drop n (a ∷ f)) (sym d);
          nodes = λ n. I.nodes n ∙ S.same.nodes n;
        })
