-- Where an index goes without a search: from a node's end, and after the child that it went into was split.
use mathlib.Core.Path.{◌≡◌, refl, sym, ap, ◌∙◌}
use mathlib.Core.Bool.{true}
use mathlib.Core.List.{List, [], ◌∷◌}
use Prim.Native.Nat.{ℕ, suc, ◌+◌, ◌-◌, ◌≤◌, ◌<◌}
use native.Mathlib.Omega.{arith}
use borrow.Author.Tests.{eq-eqb}
use lib.ListN.{length, drop, get_or, drop_of_length-le}
use Rattle.lists.specs.Lists.{sum, insert_at}
use Rattle.lists.proofs.Sums.{total, total_at}
use Rattle.model.specs.declared.Place.{Place}
use Rattle.model.specs.Tree.{Tree, kid, none, size, find, before}
use Rattle.model.specs.Fit.{Fit}
use Rattle.model.specs.Insert.{split_child}
use Rattle.model.proofs.Nodes.{left_part, right_part, parts_size}
use Rattle.model.proofs.Splice.{Run, splice_kid, splice_before}
use Rattle.model.proofs.Find.{place, into, found, step, before_next}
use Rattle.model.proofs.Split.{Split, split_law}
use Rattle.pool.specs.Parts.{Inside, At, count_at, length_at, kid_at}
use Rattle.pool.proofs.Node.{at_length, at_kid}
use Rattle.tree.specs.Node.{Node}
use Rattle.tree.specs.Lookup.{Above, Turns}
use Rattle.tree.proofs.Standing.{node_of, node_count, node_size}

-- ---- from a node's end

-- an index behind all elements goes to the last child's end
find_end : (h : ℕ) (t : Tree (suc h)) → Fit (suc h) t → (i : ℕ) → i ≡ size (suc h) t
    → find h t i ≡ place (length t.elems) (size h (kid h t (length t.elems)))
unfolding size before sum
find_end h t F i e =
    let n : ℕ = length t.elems in
    let l : n < length t.kids = omega (arith, F.one_more) in
    let z : total (size h) (drop (suc n) t.kids) ≡ 0 = rw (drop_of_length-le t.kids {i = suc n} (omega (arith, F.one_more))) refl in
    found h t i n (size h (kid h t n)) l (omega arith) (omega (arith, total_at (size h) t.kids n (none h) l))

-- what is read there
module _ {w : List ℕ} {id index : ℕ} (s : Above w id index) where
  abbrev h : ℕ
  h = s.height

  abbrev t : Tree (suc h)
  t = s.tree

  abbrev n : ℕ
  n = length t.elems

  abbrev own : Node w id
  own = node_of (suc h) t s.here s.at s.fit

  last : At w h (kid h t n)
  last = s.at.each n (omega (arith, s.fit.one_more))

  module _ (c : ℕ) (ec : c ≡ count_at w id) where
    end_child : c ≡ n
    end_child = ec ∙ node_count own

    pub end_readable : Inside w id × (c < 32)
    end_readable = (own.stored.inside, omega (arith, end_child, s.fit.most))

    module _ (k : ℕ) (ek : k ≡ kid_at w id c) where
      end_id : k ≡ (kid h t n).id
      end_id =
          ek ∙ ap (λ (j : ℕ). kid_at w j c) (sym s.here) ∙ at_kid w h t s.at.here s.fit.most c end_readable.1
          ∙ ap (λ (j : ℕ). (kid h t j).id) end_child

      pub end_inside : Inside w k
      end_inside = rw end_id last.here.inside

      pub end_turns : (m : ℕ) → m ≡ length_at w id → m ≤ index → (j : ℕ) → j ≡ length_at w k
          → Turns h t index (record { child = c; sub = j; compared = c + 1; id = k; separator = true })
      end_turns m em l j ej =
          let p = find_end h t s.fit index (omega (arith, s.upto, node_size own)) in
          let e : j ≡ size h (kid h t n) = ej ∙ rw end_id (at_length w h (kid h t n) last.here) in
          record {
            child = rw p end_child;
            sub = rw p e;
            compared = rw (p, end_child);
            id = rw p end_id;
            separator = rw p (sym (eq-eqb (size h (kid h t n)) (size h (kid h t n)) refl));
          }

-- ---- the full child that index i goes into was split

-- p was its place in t; in s it goes into the left half, or into the right one behind it
pub record Halved (h : ℕ) (t : Tree (suc h)) (p : Place) (s : Tree (suc h)) (i : ℕ) : Type 0 where
  pub id : (kid h s p.child).id ≡ (kid h t p.child).id
  pub two : p.child + 1 < length s.kids
  pub left : p.sub ≤ size h (kid h s p.child) → find h s i ≡ place p.child p.sub
  pub right : size h (kid h s p.child) < p.sub
      → find h s i ≡ place (p.child + 1) (p.sub - size h (kid h s p.child) - 1)

pub halved : (h : ℕ) (t : Tree (suc h)) → Fit (suc h) t → length t.elems < 31 → (i a : ℕ) → i ≤ size (suc h) t
    → length (into h t i).elems ≡ 31 → Halved h t (find h t i) (split_child h t (find h t i).child a) i
unfolding split_child insert_at
halved h t F r i a m full =
    let w = step h t F i m in
    let c : ℕ = (find h t i).child in
    let j : ℕ = (find h t i).sub in
    let k : Tree h = into h t i in
    let s : Tree (suc h) = split_child h t c a in
    let S : Split h t i a [] s = split_law h t F r i a [] m full in
    let R : Run h t c c (get_or k.elems 15 0 ∷ []) (left_part 15 k ∷ (right_part 15 a k ∷ [])) =
    record { fit = F; order = omega arith; inside = w.child; between = omega arith } in
    let kl : kid h s c ≡ left_part 15 k = splice_kid R 0 c (omega arith) (omega arith) in
    let kn : kid h s (c + 1) ≡ right_part 15 a k = splice_kid R 1 (c + 1) (omega arith) refl in
    let two : c + 1 < length s.kids = omega (arith, w.child, S.elems, S.same.fit.one_more) in
    let b : before h s c ≡ before h t c = splice_before R in
    let n : before h s (c + 1) ≡ before h s c + size h (kid h s c) + 1 = before_next h s c (omega arith) in
    let z = parts_size 15 a h k w.below.fit (omega arith) in
    record {
      id = rw kl refl;
      two = two;
      left = λ l. found h s i c j (omega arith) l (omega (arith, w.index));
      right = λ l. found h s i (c + 1) (j - size h (kid h s c) - 1) two (omega (arith, w.sub, ap (size h) kl, ap (size h) kn)) (omega (arith, w.index));
    }
