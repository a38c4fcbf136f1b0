-- The steps of an insertion, in the model: the node in which there is room, and what is inserted through it.
use mathlib.Core.Path.{◌≡◌, refl, ap}
use mathlib.Core.Bool.{Bool, true, false, cond}
use mathlib.Core.List.{List, [], ◌∷◌}
use Prim.Native.Nat.{ℕ, zero, suc, ◌+◌, ◌≤◌, ◌<◌}
use native.Mathlib.Omega.{arith}
use borrow.Author.Tests.{lt-leb}
use lib.ListN.{length, get_or, drop}
use lib.Seq.{map-set_same}
use Rattle.lists.specs.Lists.{sum}
use Rattle.lists.proofs.Edits.{length-insert_at}
use Rattle.lists.proofs.Sums.{total_set}
use Rattle.model.specs.Tree.{Tree, kid, none, size, flat, find, with_kid}
use Rattle.model.specs.Fit.{Fit}
use Rattle.model.specs.Insert.{is_full, split_child, Grown, insert_non_full, needed_below}
use Rattle.model.proofs.Nodes.{most, flat-length, Rearranged}
use Rattle.model.proofs.Find.{into, step}
use Rattle.model.proofs.Split.{split_law}
use Rattle.model.proofs.Insert.{full, not_full, Inserted, through, after_split}
use Rattle.pool.specs.Layout.{node_block, id_of, kid_ids, root_block}
use Rattle.insertion.specs.Steps.{roomed}

-- ---- the root keeps its id, and the tree has one element more

pub insert_id : (h : ℕ) (t : Tree h) (i x : ℕ) (f : List ℕ) → (insert_non_full h t i x f).tree.id ≡ t.id
unfolding insert_non_full
insert_id zero t i x f = refl
insert_id (suc h) t i x f = go (is_full h (into h t i)) refl
  where
    go : (b : Bool) → is_full h (into h t i) ≡ b → (insert_non_full (suc h) t i x f).tree.id ≡ t.id
    go false e = rw (e, insert_non_full) refl
    go true e = rw (e, insert_non_full) refl

pub insert-size : {h : ℕ} {t : Tree h} {i x : ℕ} {f : List ℕ} {r : Grown (Tree h)} → Fit h t → i ≤ size h t → Inserted h t i x f r
    → size h r.tree ≡ size h t + 1
insert-size {h} {t} {i} {x} {r = r} F l I =
    let n = flat-length h t F in
    omega (arith, flat-length h r.tree I.fit, ap length I.list, length-insert_at (flat h t) i x (omega arith))

-- ---- a node with another child of the same id, that has one element more

module _ (h : ℕ) (t : Tree (suc h)) (c : ℕ) (k : Tree h) (l : c < length t.kids) where
  with_size : size h k ≡ size h (kid h t c) + 1 → size (suc h) (with_kid h t c k) ≡ size (suc h) t + 1
  unfolding size sum
  with_size e = omega (arith, total_set (size h) t.kids c (none h) k l)

  -- the words of the node then
  pub with_block_lem : size h k ≡ size h (kid h t c) + 1 → k.id ≡ (kid h t c).id
      → node_block (size (suc h) t + 1) t.elems (kid_ids (suc h) t) ≡ root_block (suc h) (with_kid h t c k)
  unfolding root_block kid_ids
  with_block_lem e d = rw (with_size e, map-set_same (id_of h) t.kids c k (none h) d) refl

-- ---- there is room

-- the index goes into a child that is not full, and an insertion into t is one through s
pub record Roomed (h : ℕ) (t : Tree (suc h)) (i : ℕ) (f : List ℕ) (s : Tree (suc h)) (g : List ℕ) : Type 0 where
  pub same : Rearranged (suc h) t f s g
  pub id : s.id ≡ t.id
  pub room : length (into h s i).elems < 31
  pub need : needed_below h (into h s i) (find h s i).sub ≤ length g
  pub taken : needed_below (suc h) t i ≡ cond (is_full h (into h t i)) 1 0 + needed_below h (into h s i) (find h s i).sub
  pub insert : (x : ℕ) → insert_non_full (suc h) t i x f ≡ (let r = insert_non_full h (into h s i) (find h s i).sub x g in
      record { tree = with_kid h s (find h s i).child r.tree; free = r.free })

module _ (h : ℕ) (t : Tree (suc h)) (i : ℕ) where
  pub roomed_not : (f : List ℕ) → is_full h (into h t i) ≡ false → roomed h t i f ≡ record { tree = t; free = f }
  unfolding roomed
  roomed_not f e = rw (e, roomed) refl

  pub roomed_full : (f : List ℕ) → is_full h (into h t i) ≡ true
      → roomed h t i f ≡ record { tree = split_child h t (find h t i).child (get_or f 0 0); free = drop 1 f }
  unfolding roomed
  roomed_full f e = rw (e, roomed) refl

  pub room_law : Fit (suc h) t → length t.elems < 31 → i ≤ size (suc h) t → (f : List ℕ) → needed_below (suc h) t i ≤ length f
      → Roomed h t i f (roomed h t i f).tree (roomed h t i f).free
  unfolding needed_below split_child
  room_law F r l f n = go (is_full h (into h t i)) refl f n
    where
      go : (b : Bool) → is_full h (into h t i) ≡ b → (f : List ℕ) → needed_below (suc h) t i ≤ length f
          → Roomed h t i f (roomed h t i f).tree (roomed h t i f).free
      go false e f n = rw (roomed_not f e) (record {
        same = record { list = refl; sized = refl; fit = F; nodes = λ k. refl };
        id = refl;
        room = not_full h (into h t i) e;
        need = omega (arith, rw e at n);
        taken = refl;
        insert = λ x. through h t i x f e;
      })
      go true e [] n = absurd (omega (arith, rw e at n))
      go true e (a ∷ f) n =
          let w = step h t F i l in
          let S = split_law h t F r i a f l (omega (arith, full h (into h t i) e, most h (into h t i) w.below.fit)) in
          let s : Tree (suc h) = split_child h t (find h t i).child a in
          let q : is_full h (into h s i) ≡ false = unfold is_full in lt-leb 31 (length (into h s i).elems) S.goes.room in
          rw (roomed_full (a ∷ f) e) (record {
            same = S.same;
            id = refl;
            room = S.goes.room;
            need = omega (arith, rw e at n, rw q at S.goes.need);
            taken = omega (arith, rw q at S.goes.need);
            insert = λ x. after_split h t i x a f e;
          })
