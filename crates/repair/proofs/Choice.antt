-- What is done for a child that has no element to spare: how it is found out, and what each repair asks and leaves.
use mathlib.Core.Path.{◌≡◌, refl, sym, ap, subst, ◌∙◌}
use mathlib.Core.Bool.{Bool, true, false}
use mathlib.Core.List.{List, ◌∷◌}
use Prim.Native.Nat.{ℕ, suc, ◌+◌, ◌-◌, ◌≤◌, ◌<◌}
use native.Mathlib.Decide.{dec_lt}
use native.Mathlib.Omega.{arith}
use borrow.Author.Tests.{lt-ltb, le-ltb}
use lib.Dec.{leb}
use lib.ListN.{length}
use Rattle.model.specs.Tree.{Tree, kid}
use Rattle.model.specs.Remove.{is_thin, merge, borrow_right, repair_for, Filled, repaired, fill}
use Rattle.model.specs.declared.Repair.{Repair}
use Rattle.model.specs.declared.Repair.TheVariants.{Nothing, FromLeft, FromRight, WithLeft, WithRight}
use Rattle.model.proofs.Fill.{Says, says}
use Rattle.pool.specs.Parts.{Inside, count_at, kid_at}
use Rattle.pool.proofs.Node.{at_count}
use Rattle.tree.specs.Stands.{Reshaped}
use Rattle.tree.proofs.Edits.{child_is, reshaped_none}
use Rattle.repair.specs.declared.Refill.{Refill}
use Rattle.repair.specs.Ready.{PairReady, Few, LeftLends, RightLends, FillReady, Fills}
use Rattle.repair.proofs.Places.{Stays, merge-stays, borrow_stays, one_less}

-- child d has no element to spare, or has one
abbrev pub ThinIs : List ℕ → ℕ → ℕ → Bool → Type 0
ThinIs w id d b = (q : FillReady w id d) → is_thin q.height (kid q.height q.tree d) ≡ b

module _ {w : List ℕ} {id c : ℕ} (s : FillReady w id c) where
  abbrev h : ℕ
  h = s.height

  abbrev t : Tree (suc h)
  t = s.tree

  -- another child of the node
  pub sibling : (d : ℕ) → d < length t.kids → FillReady w id d
  sibling d l = record { height = h; tree = t; free = s.free; owns = s.owns; here = s.here; some = s.some; place = l }

  -- the count of child c, which is in node k
  module _ (k : ℕ) (ek : k ≡ kid_at w id c) where
    is : (kid h t c).id ≡ k
    is = child_is s.owns s.here s.place k ek

    pub kid_inside : Inside w k
    kid_inside = subst (Inside w) is (s.owns.at.each c s.place).here.inside

    pub thin_is : (n : ℕ) → n ≡ count_at w k → leb n 15 ≡ is_thin h (kid h t c)
    unfolding is_thin
    thin_is n e = rw (e, ← is, at_count w h (kid h t c) (s.owns.at.each c s.place).here) refl

  pub count_is : (m : ℕ) → m ≡ count_at w id → m + 1 ≡ length t.kids
  count_is m e =
      omega (arith, e, ap (count_at w) s.here, at_count w (suc h) t s.owns.at.here, s.owns.fit.one_more)

  -- ---- the rows

  at_kid : {b : Bool} (d : ℕ) → d < length t.kids → ThinIs w id d b → is_thin h (kid h t d) ≡ b
  unfolding sibling
  at_kid d l e = e (sibling d l)

  pub row_nothing : ThinIs w id c false → Nothing ≡ repair_for h t c
  unfolding repair_for
  row_nothing e = rw (at_kid c s.place e) refl

  module _ (e : ThinIs w id c true) where
    pub row_from_left : 0 < c → ThinIs w id (c - 1) false → FromLeft ≡ repair_for h t c
    unfolding repair_for
    row_from_left l f = rw (at_kid c s.place e, lt-ltb 0 c l, at_kid (c - 1) (omega (arith, s.place)) f) refl

    -- there is no left sibling, or it cannot lend
    module _ (left : 0 < c → ThinIs w id (c - 1) true) (m : ℕ) (em : m ≡ count_at w id) where
      -- the first tests
      second : (l : 0 < c) → is_thin h (kid h t (c - 1)) ≡ true
      second l = at_kid (c - 1) (omega (arith, s.place)) (left l)

      pub row_from_right : c < m → ThinIs w id (c + 1) false → FromRight ≡ repair_for h t c
      unfolding repair_for
      row_from_right lm f =
          let n : c + 1 < length t.kids = omega (arith, count_is m em) in
          elim (dec_lt 0 c) [
            | yes l ↦ rw (at_kid c s.place e, lt-ltb 0 c l, second l, lt-ltb (c + 1) (length t.kids) n, at_kid (c + 1) n f) refl
            | no l ↦ rw (at_kid c s.place e, le-ltb 0 c (omega arith), lt-ltb (c + 1) (length t.kids) n, at_kid (c + 1) n f) refl
          ]

      -- nor is there a right one that can
      module _ (right : c < m → ThinIs w id (c + 1) true) where
        third : c + 1 < length t.kids → is_thin h (kid h t (c + 1)) ≡ true
        third n = at_kid (c + 1) n (right (omega (arith, count_is m em)))

        pub row_with_left : 0 < c → WithLeft ≡ repair_for h t c
        unfolding repair_for
        row_with_left l =
            elim (dec_lt (c + 1) (length t.kids)) [
              | yes n ↦ rw (at_kid c s.place e, lt-ltb 0 c l, second l, lt-ltb (c + 1) (length t.kids) n, third n) refl
              | no n ↦ rw (at_kid c s.place e, lt-ltb 0 c l, second l, le-ltb (c + 1) (length t.kids) (omega arith)) refl
            ]

        pub row_with_right : c ≤ 0 → WithRight ≡ repair_for h t c
        unfolding repair_for
        row_with_right l =
            elim (dec_lt (c + 1) (length t.kids)) [
              | yes n ↦ rw (at_kid c s.place e, le-ltb 0 c l, lt-ltb (c + 1) (length t.kids) n, third n) refl
              | no n ↦ rw (at_kid c s.place e, le-ltb 0 c l, le-ltb (c + 1) (length t.kids) (omega arith)) refl
            ]

-- ---- what each repair asks and leaves; a is the one chosen

module _ {w : List ℕ} {id c : ℕ} (a : Repair) (ea : (q : FillReady w id c) → a ≡ repair_for q.height q.tree c) (s : FillReady w id c) where
  said : (r : Repair) → a ≡ r → Says s.height s.tree c r
  said r e = subst (Says s.height s.tree c) (sym (ea s) ∙ e) (says s.height s.tree c (omega (arith, s.some, s.owns.fit.one_more)))

  pairs : {P : ℕ → ℕ → Type 0} (d : ℕ) → d < length s.tree.elems
      → P (length (kid s.height s.tree d).elems) (length (kid s.height s.tree (d + 1)).elems) → PairReady P w id d
  pairs d l p = record {
    height = s.height;
    tree = s.tree;
    free = s.free;
    owns = s.owns;
    here = s.here;
    place = l;
    counts = p;
  }

  pub from_left : a ≡ FromLeft → (0 < c) × PairReady LeftLends w id (c - 1)
  from_left e =
      let p = said FromLeft e in
      (p.0, pairs {P = LeftLends} (c - 1) (omega (arith, s.place, s.owns.fit.one_more)) (rw (one_less c p.0) (omega arith)))

  pub from_right : a ≡ FromRight → PairReady RightLends w id c
  from_right e = let p = said FromRight e in pairs {P = RightLends} c (omega (arith, s.owns.fit.one_more)) (omega arith)

  pub with_left : a ≡ WithLeft → (0 < c) × PairReady Few w id (c - 1)
  with_left e =
      let p = said WithLeft e in
      (p.0, pairs {P = Few} (c - 1) (omega (arith, s.place, s.owns.fit.one_more)) (rw (one_less c p.0) (omega arith)))

  pub with_right : a ≡ WithRight → PairReady Few w id c
  with_right e = let p = said WithRight e in pairs {P = Few} c (omega (arith, s.owns.fit.one_more)) (omega arith)

  abbrev hₛ : ℕ
  hₛ = s.height

  abbrev tₛ : Tree (suc hₛ)
  tₛ = s.tree

  -- words w' and answer n are those of a repair
  module _ (w' : List ℕ) (n : Refill) where
    abbrev Does : Filled hₛ → Type 0
    Does d = Fills w w' hₛ tₛ s.free c d n

    by : (r : Repair) → a ≡ r → Does (repaired hₛ r tₛ c s.free) → Does (fill hₛ tₛ c s.free)
    unfolding fill
    by r e D = subst (λ (x : Repair). Does (repaired hₛ x tₛ c s.free)) (sym e ∙ ea s) D

    pub left_borrowed : a ≡ FromLeft → ((q : PairReady LeftLends w id (c - 1))
        → Fills w w' q.height q.tree q.free c (repaired q.height FromLeft q.tree c q.free) n)
        → Does (fill hₛ tₛ c s.free)
    unfolding from_left pairs
    left_borrowed e done = by FromLeft e (done (from_left e).1)

    pub left_merged : a ≡ WithLeft → ((q : PairReady Few w id (c - 1))
        → Fills w w' q.height q.tree q.free c (repaired q.height WithLeft q.tree c q.free) n)
        → Does (fill hₛ tₛ c s.free)
    unfolding with_left pairs
    left_merged e done = by WithLeft e (done (with_left e).1)

  -- child c, in node k, stays where it is
  module _ (k : ℕ) (ek : k ≡ kid_at w id c) where
    abbrev answer : ℕ → Refill
    answer n = record { id = k; ahead = 0; freed = n }

    stayed : {w' : List ℕ} (t' : Tree (suc hₛ)) (g : List ℕ) (n : ℕ) → Stays hₛ tₛ t' c → length s.free + n ≡ length g
        → Reshaped w w' (suc hₛ) tₛ s.free t' g
        → Fills w w' hₛ tₛ s.free c (record { node = t'; child = c; free = g }) (answer n)
    stayed t' g n S e R = record { id = sym (S.id ∙ is s k ek); ahead = omega (arith, S.start); freed = e; reshaped = R }

    pub nothing_done : a ≡ Nothing → Fills w w hₛ tₛ s.free c (fill hₛ tₛ c s.free) (answer 0)
    unfolding repaired
    nothing_done e =
        by w (answer 0) Nothing e (stayed tₛ s.free 0 (record { id = refl; start = refl }) (omega arith) (reshaped_none s.owns))

    module _ (w' : List ℕ) where
      pub right_borrowed : a ≡ FromRight → ((q : PairReady RightLends w id c)
          → Reshaped w w' (suc q.height) q.tree q.free (borrow_right q.height q.tree c) q.free)
          → Fills w w' hₛ tₛ s.free c (fill hₛ tₛ c s.free) (answer 0)
      unfolding repaired from_right pairs
      right_borrowed e done =
          by w' (answer 0) FromRight e
          (stayed (borrow_right hₛ tₛ c) s.free 0 (borrow_stays hₛ tₛ c s.place) (omega arith) (done (from_right e)))

      pub right_merged : a ≡ WithRight → ((q : PairReady Few w id c) → Reshaped w w' (suc q.height) q.tree q.free
          (merge q.height q.tree c) ((kid q.height q.tree (c + 1)).id ∷ q.free))
          → Fills w w' hₛ tₛ s.free c (fill hₛ tₛ c s.free) (answer 1)
      unfolding repaired with_right pairs
      right_merged e done =
          by w' (answer 1) WithRight e
          (stayed (merge hₛ tₛ c) ((kid hₛ tₛ (c + 1)).id ∷ s.free) 1 (merge-stays hₛ tₛ c s.place) (omega arith) (done (with_right e)))
