-- The four operations on a whole bag: the list as `Vec` has it, the root's shape, and every node met as often as before.
use mathlib.Core.Path.{◌≡◌, refl, sym, ap, ◌∙◌}
use mathlib.Core.List.{List, [], ◌∷◌}
use mathlib.Core.Bool.{Bool, true, false}
use Prim.Native.Nat.{ℕ, zero, suc, ◌+◌, ◌≤◌, ◌<◌}
use native.Mathlib.Omega.{arith}
use lib.ListN.{length, drop, get_or, set, length-drop}
use lib.Seq.{take-nil, drop-nil, drop-drop}
use Rattle.lists.specs.Lists.{sum, count, insert_at, remove_at}
use Rattle.lists.proofs.All.{nil, cons}
use Rattle.lists.proofs.Counts.{count-append, count-nil, count_first}
use Rattle.model.specs.Tree.{Tree, Below, size, ids, flat, find, before, Root, bare, rooted, Bag, list_of, root_ids, met}
use Rattle.model.specs.Tree.{bag_get, bag_replace}
use Rattle.model.specs.Fit.{Fit, FitTree, FitRoot}
use Rattle.model.specs.Insert.{is_full, split_child, insert_non_full, needed_below, needed, above_root, grown_bag, bag_insert}
use Rattle.model.specs.Remove.{remove, lowered, Removal, bag_remove}
use Rattle.model.proofs.Nodes.{node, held, held_inner, fits, child, most, flat-length}
use Rattle.model.proofs.Find.{place, found}
use Rattle.model.proofs.Get.{get_law, replace_law}
use Rattle.model.proofs.Split.{Split, split_law}
use Rattle.model.proofs.Insert.{full, not_full, insert_law}
use Rattle.model.proofs.Remove.{remove_law}

abbrev bag : Root → List ℕ → Bag
bag r f = record { root = r; free = f }

-- b became d, whose list is xs
pub record Edited (b : Bag) (xs : List ℕ) (d : Bag) : Type 0 where
  pub list : list_of d.root ≡ xs
  pub fit : FitRoot d.root
  pub nodes : (k : ℕ) → met k d ≡ met k b

-- ---- lookup and replacement

pub bag_get_lem : (b : Bag) (i : ℕ) → FitRoot b.root → i < length (list_of b.root) → (bag_get b i).element ≡ get_or (list_of b.root) i 0
unfolding bag_get list_of
bag_get_lem b i F l = go b.root F l
  where
    go : (r : Root) → FitRoot r → i < length (list_of r) → (bag_get (bag r b.free) i).element ≡ get_or (list_of r) i 0
    go bare F l = absurd (omega arith)
    go (rooted h t) F l = (get_law h t F.fit i (omega (arith, flat-length h t F.fit))).element

pub bag_replace_lem : (b : Bag) (i x : ℕ) → FitRoot b.root → i < length (list_of b.root)
    → Edited b (set (list_of b.root) i x) (bag_replace b i x)
unfolding bag_replace list_of root_ids
bag_replace_lem b i x F l = go b.root b.free F l
  where
    go : (r : Root) (f : List ℕ) → FitRoot r → i < length (list_of r) → Edited (bag r f) (set (list_of r) i x) (bag_replace (bag r f) i x)
    go bare f F l = absurd (omega arith)
    go (rooted h t) f F l =
        let R = replace_law h t F.fit i x (omega (arith, flat-length h t F.fit)) in
        record {
          list = R.list;
          fit = record { some = omega (arith, R.elems, F.some); fit = R.fit };
          nodes = λ k. ap (λ (js : List ℕ). count k js + count k f) R.nodes;
        }

-- ---- insertion

-- the nodes needed are taken from the front of the free ones
pub record BagInserted (b : Bag) (i x : ℕ) (d : Bag) : Type 0 where
  pub edited : Edited b (insert_at (list_of b.root) i x) d
  pub rest : d.free ≡ drop (needed b.root i) b.free

-- ---- a full root under a new one, and split

pub record Lifted (h : ℕ) (t : Tree h) (i : ℕ) (f : List ℕ) (s : Tree (suc h)) : Type 0 where
  pub id : s.id ≡ get_or f 0 0
  pub list : flat (suc h) s ≡ flat h t
  pub fit : Fit (suc h) s
  pub sized : size (suc h) s ≡ size h t
  pub elems : length s.elems ≡ 1
  pub need : needed_below (suc h) s i ≡ needed_below h t i
  pub nodes : (k : ℕ) → held (suc h) k s + count k (drop 2 f) ≡ held h k t + count k f

pub lift_law : (h : ℕ) (t : Tree h) → Fit h t → length t.elems ≡ 31 → (i : ℕ) → i ≤ size h t → (f : List ℕ) → 2 ≤ length f
    → Lifted h t i f (above_root h t f)
unfolding split_child size sum before flat
lift_law h t F n i l [] m = absurd (omega arith)
lift_law h t F n i l (a ∷ []) m = absurd (omega arith)
lift_law h t F n i l (a ∷ (b ∷ f)) m =
    let o : Tree (suc h) = node a [] (t ∷ []) in
    let e : find h o i ≡ place 0 i = found h o i 0 i (omega arith) l (omega arith) in
    let C = cons (child h t F (omega arith)) nil in
    let O : Fit (suc h) o = fits (suc h) o (record { one_more = omega arith; children = C }) (omega arith) in
    let S : Split h o i b f (split_child h o 0 b) = rw e at (split_law h o O (omega arith) i b f (omega arith) (rw e n)) in
    record {
      id = refl;
      list = S.same.list;
      fit = S.same.fit;
      sized = omega (arith, S.same.sized);
      elems = S.elems;
      need = rw e at S.goes.need;
      nodes = λ k. omega (arith, S.same.nodes k, held_inner h k o, count-append k (a ∷ []) (b ∷ f));
    }

-- ---- by what the root is

module _ (b : Bag) (i x : ℕ) where
  pub bag_bare : b.root ≡ bare
      → bag_insert b i x ≡ grown_bag 0 (record { tree = node (get_or b.free 0 0) (x ∷ []) []; free = drop 1 b.free })
  unfolding bag_insert
  bag_bare e = ap (λ (r : Root). bag_insert (record { root = r; free = b.free }) i x) e

  module _ (h : ℕ) (t : Tree h) (e : b.root ≡ rooted h t) where
    pub bag_room : is_full h t ≡ false → bag_insert b i x ≡ grown_bag h (insert_non_full h t i x b.free)
    unfolding bag_insert
    bag_room q = ap (λ (r : Root). bag_insert (record { root = r; free = b.free }) i x) e ∙ rw (q, bag_insert) refl

    pub bag_full : is_full h t ≡ true
        → bag_insert b i x ≡ grown_bag (suc h) (insert_non_full (suc h) (above_root h t b.free) i x (drop 2 b.free))
    unfolding bag_insert
    bag_full q = ap (λ (r : Root). bag_insert (record { root = r; free = b.free }) i x) e ∙ rw (q, bag_insert) refl

-- into an empty list
insert_bare : (f : List ℕ) (i x : ℕ) → 0 < length f → BagInserted (bag bare f) i x (bag_insert (bag bare f) i x)
unfolding list_of root_ids needed insert_at
insert_bare f i x l =
    rw (bag_bare (bag bare f) i x refl) (record {
      edited = record {
        list = rw (take-nil i, drop-nil i) refl;
        fit = record { some = omega arith; fit = record { most = omega arith } };
        nodes = λ k. unfold ids in omega (arith, count_first k f l, count-nil k);
      };
      rest = refl;
    })

module _ (h : ℕ) (t : Tree h) (F : FitTree h t) (i x : ℕ) (l : i ≤ size h t) (f : List ℕ) where
  -- a root with room
  insert_room : is_full h t ≡ false → needed (rooted h t) i ≤ length f → BagInserted (bag (rooted h t) f) i x (bag_insert (bag (rooted h t) f) i x)
  unfolding list_of root_ids needed
  insert_room e n =
      let d : needed (rooted h t) i ≡ needed_below h t i = rw e (omega arith) in
      let I = insert_law h t F.fit (not_full h t e) i x f l (omega arith) in
      rw (bag_room (bag (rooted h t) f) i x h t refl e) (record {
        edited = record { list = I.list; fit = record { some = omega (arith, F.some); fit = I.fit }; nodes = I.nodes };
        rest = I.rest ∙ ap (λ (n : ℕ). drop n f) (sym d);
      })

  -- a full root, raised first
  insert_full : is_full h t ≡ true → needed (rooted h t) i ≤ length f → BagInserted (bag (rooted h t) f) i x (bag_insert (bag (rooted h t) f) i x)
  unfolding list_of root_ids needed
  insert_full e n =
      let two : 2 + needed_below h t i ≤ length f = rw e at n in
      let u : Tree (suc h) = above_root h t f in
      let L = lift_law h t F.fit (omega (arith, full h t e, most h t F.fit)) i l f (omega arith) in
      let d : needed (rooted h t) i ≡ 2 + needed_below (suc h) u i = rw e (omega (arith, L.need)) in
      let I = insert_law (suc h) u L.fit (omega (arith, L.elems)) i x (drop 2 f) (omega (arith, L.sized)) (omega (arith, length-drop 2 f, L.need)) in
      rw (bag_full (bag (rooted h t) f) i x h t refl e) (record {
        edited = record {
          list = I.list ∙ ap (λ (z : List ℕ). insert_at z i x) L.list;
          fit = record { some = omega (arith, I.least, L.elems); fit = I.fit };
          nodes = λ k. I.nodes k ∙ L.nodes k;
        };
        rest = I.rest ∙ drop-drop (needed_below (suc h) u i) 2 f ∙ ap (λ (n : ℕ). drop n f) (sym d);
      })

  insert_rooted : needed (rooted h t) i ≤ length f → BagInserted (bag (rooted h t) f) i x (bag_insert (bag (rooted h t) f) i x)
  insert_rooted n = go (is_full h t) refl
    where
      go : (b : Bool) → is_full h t ≡ b → BagInserted (bag (rooted h t) f) i x (bag_insert (bag (rooted h t) f) i x)
      go false e = insert_room e n
      go true e = insert_full e n

pub bag_insert_lem : (b : Bag) (i x : ℕ) → FitRoot b.root → i ≤ length (list_of b.root) → needed b.root i ≤ length b.free
    → BagInserted b i x (bag_insert b i x)
unfolding list_of needed
bag_insert_lem b i x F l n = go b.root b.free F l n
  where
    go : (r : Root) (f : List ℕ) → FitRoot r → i ≤ length (list_of r) → needed r i ≤ length f
        → BagInserted (bag r f) i x (bag_insert (bag r f) i x)
    go bare f F l n = insert_bare f i x n
    go (rooted h t) f F l n = insert_rooted h t F i x (omega (arith, flat-length h t F.fit)) f n

-- ---- removal

-- a root that may have no element left gives way to its one child, if it has one
pub lowered_law : (h : ℕ) (t : Tree h) (f : List ℕ) → Fit h t → Edited (bag (rooted h t) f) (flat h t) (lowered h t f)
unfolding lowered list_of root_ids count
lowered_law h t f F = go h t.id t.elems t.kids F
  where
    go : (h i : ℕ) (es : List ℕ) (ks : List (Below h)) → Fit h (node i es ks)
        → Edited (bag (rooted h (node i es ks)) f) (flat h (node i es ks)) (lowered h (node i es ks) f)
    go zero i [] ks F = record { list = refl; fit = tt; nodes = λ k. omega arith }
    go zero i (e ∷ es) ks F = record { list = refl; fit = record { some = omega arith; fit = F }; nodes = λ k. refl }
    go (suc h) i [] [] F = absurd (omega arith)
    go (suc h) i [] (k ∷ []) F =
        let C = F.each 0 (omega arith) in
        record { list = refl; fit = record { some = omega arith; fit = C.fit }; nodes = λ n. omega (arith, count-append n (ids h k) []) }
    go (suc h) i [] (k ∷ (l ∷ ks)) F = absurd (omega arith)
    go (suc h) i (e ∷ es) ks F = record { list = refl; fit = record { some = omega arith; fit = F }; nodes = λ k. refl }

pub record BagRemoved (b : Bag) (i : ℕ) (r : Removal) : Type 0 where
  pub edited : Edited b (remove_at (list_of b.root) i) r.bag
  pub old : r.old ≡ get_or (list_of b.root) i 0

pub bag_remove_lem : (b : Bag) (i : ℕ) → FitRoot b.root → i < length (list_of b.root) → BagRemoved b i (bag_remove b i)
unfolding bag_remove list_of root_ids
bag_remove_lem b i F l = go b.root b.free F l
  where
    go : (r : Root) (f : List ℕ) → FitRoot r → i < length (list_of r) → BagRemoved (bag r f) i (bag_remove (bag r f) i)
    go bare f F l = absurd (omega arith)
    go (rooted h t) f F l =
        let R = remove_law h t i f F.fit F.some (omega (arith, flat-length h t F.fit)) in
        let L = lowered_law h (remove h t i f).tree (remove h t i f).free R.fit in
        record {
          edited = record { list = L.list ∙ R.list; fit = L.fit; nodes = λ k. L.nodes k ∙ R.nodes k };
          old = R.old;
        }
