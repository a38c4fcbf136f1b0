-- A lookup and the window, from what is known of the bag.
use mathlib.Core.Path.{◌≡◌, sym, ap, ◌∙◌}
use mathlib.Core.List.{List}
use Prim.Native.Nat.{ℕ, ◌+◌, ◌≤◌, ◌<◌}
use native.Mathlib.Decide.{dec_lt}
use native.Mathlib.Omega.{arith}
use borrow.Author.Tests.{le-leb, lt-leb}
use lib.ListN.{length, get_or}
use Rattle.model.specs.declared.Found.{Found}
use Rattle.model.specs.declared.Stretch.{Stretch}
use Rattle.model.specs.Tree.{Tree, get, Root, bare, rooted, Bag, list_of}
use Rattle.model.specs.Fit.{FitRoot}
use Rattle.model.specs.Calls.{length_of}
use Rattle.words.specs.Words.{run}
use Rattle.words.proofs.Laws.{run_length}
use Rattle.model.proofs.Bags.{bag_get_lem}
use Rattle.model.proofs.Nodes.{flat-length, most}
use Rattle.pool.specs.Parts.{Inside, At, RootAt}
use Rattle.tree.specs.declared.Known.{Known}
use Rattle.tree.specs.Stands.{BagStands}
use Rattle.tree.specs.Lookup.{Has}
use Rattle.calls.specs.Does.{Ready}
use Rattle.views.specs.Part.{nowhere, span_of, root_span, part_call}
use Rattle.model.specs.Calls.{stretch}
use Rattle.model.proofs.Spans.{ShownRoot, root_shown_some, Spans, stretch_law}
use Rattle.pool.proofs.Node.{elems_part, at_node}
use Rattle.calls.proofs.Reading.{root_of, root_has, root_got}

-- ---- a lookup

-- the element that a lookup finds, as the list has it
pub root_element : {w : List ℕ} {known : Known} (s : Ready w known) (i : ℕ) → i < length_of s.bag → (f : Found)
    → ((q : Has w known.levels known.root i) → f ≡ get known.levels q.stands.tree i)
    → f.element ≡ get_or (list_of s.bag.root) i 0
root_element s i l f G =
    ap (λ (g : Found). g.element) (root_got s i l f G) ∙ bag_get_lem s.bag i s.holds.lawful.fit l

-- ---- the window

pub part_beyond : (b : Bag) (i : ℕ) → length_of b ≤ i → part_call i b ≡ nowhere
unfolding part_call
part_beyond b i l = rw (le-leb (length_of b) i l)

part-done : (b : Bag) (i : ℕ) → i < length_of b → part_call i b ≡ root_span b.root i
unfolding part_call
part-done b i l = rw (lt-leb (length_of b) i l)

-- the stretch that the tree function finds at the root
pub record Stood (w : List ℕ) (b : Bag) (i : ℕ) (q : Stretch) : Type 0 where
  pub inside : Inside w q.node
  pub few : q.slot + q.count ≤ 31
  pub is : span_of q ≡ part_call i b

-- a stretch of a tree lies in a node of the pool, in the slots of its elements
in_node : {w : List ℕ} {h : ℕ} {t : Tree h} {i : ℕ} {s : Stretch} → At w h t → Spans h t i s → Inside w s.node × (s.slot + s.count ≤ 31)
in_node A S = (rw S.node (at_node S.within A).here.inside, omega (arith, S.few, most S.levels S.holder S.fit))

pub stood : {w : List ℕ} {known : Known} (s : Ready w known) (i : ℕ) → i < length_of s.bag → (q : Stretch)
    → ((z : Has w known.levels known.root i) → q ≡ stretch known.levels z.stands.tree i) → Stood w s.bag i q
unfolding root_span
stood {w} {known} s i l q Q =
    let R = root_of s i l in
    let h : ℕ = known.levels in
    let e : q ≡ stretch h R.tree i = Q (root_has s i l) in
    let N = in_node R.owns.at (stretch_law h R.tree R.owns.fit i (omega (arith, R.long))) in
    record {
      inside = rw e N.0;
      few = rw e N.1;
      is = ap span_of e ∙ sym (part-done s.bag i l ∙ ap (λ (r : Root). root_span r i) R.is);
    }

module _ {w : List ℕ} {b : Bag} (B : BagStands w b) (i : ℕ) where
  -- it lies in the pool
  pub part-fits : (part_call i b).start + (part_call i b).count ≤ length w
  unfolding root_span list_of
  part-fits =
      elim (dec_lt i (length_of b)) [
        | yes l ↦ rw (part-done b i l) (go b.root B.tree B.fit l)
        | no n ↦ rw (part_beyond b i (omega arith)) (omega arith)
      ]
    where
      go : (r : Root) → RootAt w r → FitRoot r → i < length (list_of r) → (root_span r i).start + (root_span r i).count ≤ length w
      go bare A F l = omega arith
      go (rooted h t) A F l =
          let N = in_node A (stretch_law h t F.fit i (omega (arith, flat-length h t F.fit))) in
          omega (arith, N.0.room, N.1)

  module _ (l : i < length_of b) where
    -- its words are what is shown of the element
    pub part_shows : ShownRoot b.root i (run w (part_call i b).start (part_call i b).count)
    unfolding root_span list_of
    part_shows = rw (part-done b i l) (go b.root B.tree B.fit l)
      where
        go : (r : Root) → RootAt w r → FitRoot r → i < length (list_of r)
            → ShownRoot r i (run w (root_span r i).start (root_span r i).count)
        go bare A F l = absurd (omega arith)
        go (rooted h t) A F l =
            let s : Stretch = stretch h t i in
            let S = stretch_law h t F.fit i (omega (arith, flat-length h t F.fit)) in
            let u : Tree S.levels = S.holder in
            let e : run w (span_of s).start s.count ≡ run u.elems s.slot s.count =
            rw S.node
            (elems_part w S.levels u (at_node S.within A).here (most S.levels u S.fit) s.slot s.count S.few) in
            rw e (unfold run in S.shown)

    pub part_some : 1 ≤ (part_call i b).count
    part_some =
        omega (arith, root_shown_some b.root i _ part_shows, run_length w (part_call i b).start (part_call i b).count part-fits)
