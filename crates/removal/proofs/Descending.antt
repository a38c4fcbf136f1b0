-- One level of a removal in the model, as the way down and the way up: no pool is in sight.
use mathlib.Core.Path.{◌≡◌, refl, ◌∙◌}
use Rattle.std.specs.Prelude.{Option, Some, None}
use mathlib.Core.List.{List, ◌∷◌}
use Prim.Native.Nat.{ℕ, zero, suc, ◌+◌, ◌-◌, ◌≤◌, ◌<◌}
use native.Mathlib.Omega.{arith}
use lib.ListN.{length, set}
use Rattle.model.specs.declared.Repair.{Repair}
use Rattle.model.specs.declared.Repair.TheVariants.{Nothing, FromLeft, FromRight, WithLeft, WithRight}
use Rattle.model.specs.declared.Way.{Way}
use Rattle.model.specs.declared.Way.TheVariants.{Inside, ByLast, ByFirst, ByMerge}
use Rattle.model.specs.Tree.{Tree, kid, size, find, before}
use Rattle.model.specs.Fit.{Fit}
use Rattle.model.specs.Remove.{merge, repair_for, repaired, Filled, fill, Shrunk, way_for, remove_step, remove}
use Rattle.model.proofs.Nodes.{size_least, Rearranged, rearranged}
use Rattle.model.proofs.Find.{Step, step, separator}
use Rattle.model.proofs.Fill.{Refilled, merge_refills, fill_law}
use Rattle.model.proofs.Remove.{Says, says}
use Rattle.removal.specs.Down.{Descended, entered, beside, down_by, descend, up_by, ascend, swapped_in, given_back}

-- ---- the way up

-- with or without a swapped separator
abbrev pub raised : (h : ℕ) → Descended h → Shrunk (Tree h) → Shrunk (Tree (suc h))
raised h d r = record {
  tree = record { id = d.node.id; elems = swapped_in d.swaps d.node.elems r.old; kids = set d.node.kids d.child r.tree };
  old = given_back d.swaps d.node.elems r.old;
  free = r.free;
}

raised_is : (h : ℕ) (d : Descended h) (r : Shrunk (Tree h)) → ascend h d r ≡ raised h d r
raised_is h d r = go d.swaps
  where
    go : (o : Option ℕ) → up_by h o d.node d.child r ≡ record {
      tree = record { id = d.node.id; elems = swapped_in o d.node.elems r.old; kids = set d.node.kids d.child r.tree };
      old = given_back o d.node.elems r.old;
      free = r.free;
    }
    go None = refl
    go (Some c) = refl

-- the child that the removal goes into
abbrev pub goal : (h : ℕ) → Descended h → Tree h
goal h d = kid h d.node d.child

pub remove_raised : (h : ℕ) (t : Tree (suc h)) (i : ℕ) (f : List ℕ)
    → remove (suc h) t i f ≡ raised h (descend h t i f) (remove h (goal h (descend h t i f)) (descend h t i f).sub (descend h t i f).free)
unfolding remove descend
remove_raised h t i f = go (way_for h t i) ∙ raised_is h (descend h t i f) (remove h (goal h (descend h t i f)) (descend h t i f).sub (descend h t i f).free)
  where
    go : (y : Way) → remove_step h (λ u j g. remove h u j g) y t (find h t i).child i f
        ≡ ascend h (down_by h y t (find h t i).child i f)
        (remove h (goal h (down_by h y t (find h t i).child i f)) (down_by h y t (find h t i).child i f).sub
        (down_by h y t (find h t i).child i f).free)
    go Inside = refl
    go ByLast = refl
    go ByFirst = refl
    go ByMerge = refl

-- ---- the way down

pub record Descends (h : ℕ) (t : Tree (suc h)) (f : List ℕ) (d : Descended h) : Type 0 where
  pub same : Rearranged (suc h) t f d.node d.free
  pub here : d.node.id ≡ t.id
  pub child : d.child < length d.node.kids
  pub full : 16 ≤ length (goal h d).elems
  pub below : d.sub < size h (goal h d)
  pub place : (j : ℕ) → d.swaps ≡ Some j → j < length d.node.elems
  pub few : length d.free ≤ length f + 1

-- a repair leaves the node's id, and frees one node at most
record Keeps (h : ℕ) (t : Tree (suc h)) (f : List ℕ) (s : Filled h) : Type 0 where
  here : s.node.id ≡ t.id
  few : length s.free ≤ length f + 1

fill_keeps : (h : ℕ) (t : Tree (suc h)) (c : ℕ) (f : List ℕ) → Keeps h t f (fill h t c f)
unfolding fill
fill_keeps h t c f = go (repair_for h t c)
  where
    go : (r : Repair) → Keeps h t f (repaired h r t c f)
    go Nothing = record { here = refl; few = omega arith }
    go FromLeft = record { here = refl; few = omega arith }
    go FromRight = record { here = refl; few = omega arith }
    go WithLeft = record { here = refl; few = omega arith }
    go WithRight = record { here = refl; few = omega arith }

module _ (h : ℕ) (t : Tree (suc h)) (i : ℕ) (f : List ℕ) (F : Fit (suc h) t) (n : 0 < length t.elems) (b : i < size (suc h) t) where
  abbrev c : ℕ
  c = (find h t i).child

  pub way : Step h t i
  way = step h t F i (omega arith)

  went : Says h t c i (way_for h t i)
  went = says h t i way

  refilled : (s : Filled h) → Refilled h t i f s → Keeps h t f s → Descends h t f (entered h s i)
  refilled s R K = record {
    same = R.same;
    here = K.here;
    child = omega (arith, R.child, R.same.fit.one_more);
    full = R.full;
    below = omega (arith, R.from, R.upto);
    place = λ j e. absurd cc;
    few = K.few;
  }

  pub place_of : i ≡ before h t c + size h (kid h t c) → c < length t.elems
  place_of e = separator h t F i b (omega (arith, way.index))

  filled : Says h t c i Inside → Refilled h t i f (fill h t c f)
  filled p = fill_law h t c i f F n way.child (omega (arith, way.index)) p

  merged : Says h t c i ByMerge → Refilled h t i f (record { node = merge h t c; child = c; free = (kid h t (c + 1)).id ∷ f })
  merged p = merge_refills h t F c (place_of p.0) p.1 p.2 i f (omega (arith, way.index)) (omega (arith, p.0))

  beside_law : (d j : ℕ) → c < length t.elems → d < length t.kids → 16 ≤ length (kid h t d).elems → j < size h (kid h t d)
      → Descends h t f (beside h t d j c f)
  beside_law d j l m u v = record {
    same = rearranged F refl F (λ k. refl);
    here = refl;
    child = m;
    full = u;
    below = v;
    place = λ j e. (let q : c ≡ j = cc in omega arith);
    few = omega arith;
  }

  pub descends : Descends h t f (descend h t i f)
  unfolding descend
  descends = go (way_for h t i) went
    where
      go : (y : Way) → Says h t c i y → Descends h t f (down_by h y t c i f)
      go Inside p = refilled (fill h t c f) (filled p) (fill_keeps h t c f)
      go ByLast p =
          let l = place_of p.0 in
          beside_law c (size h (kid h t c) - 1) l (omega (arith, F.one_more)) p.1 (omega (arith, size_least h (kid h t c)))
      go ByFirst p =
          let l = place_of p.0 in
          beside_law (c + 1) 0 l (omega (arith, F.one_more)) p.1 (omega (arith, size_least h (kid h t (c + 1))))
      go ByMerge p =
          refilled (record { node = merge h t c; child = c; free = (kid h t (c + 1)).id ∷ f }) (merged p)
          (record { here = unfold merge in refl; few = omega arith })

-- ---- all levels: the root keeps its id, and each level frees one node at most

pub remove_id : (h : ℕ) (t : Tree h) (i : ℕ) (f : List ℕ) → Fit h t → 0 < length t.elems → i < size h t → (remove h t i f).tree.id ≡ t.id
remove_id zero t i f F n b = unfold remove in refl
remove_id (suc h) t i f F n b = rw (remove_raised h t i f) (descends h t i f F n b).here

pub remove_few : (h : ℕ) (t : Tree h) (i : ℕ) (f : List ℕ) → Fit h t → 0 < length t.elems → i < size h t
    → length (remove h t i f).free ≤ length f + h
remove_few zero t i f F n b = unfold remove in omega arith
remove_few (suc h) t i f F n b =
    let D = descends h t i f F n b in
    let d = descend h t i f in
    rw (remove_raised h t i f)
    (omega (arith, D.few, remove_few h (goal h d) d.sub d.free (D.same.fit.each d.child D.child).fit (omega (arith, D.full)) D.below))
