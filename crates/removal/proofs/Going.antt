-- The way of a removal through a node, step by step as the code goes it.
use mathlib.Core.Path.{◌≡◌, refl, sym, ap, subst, ◌∙◌}
use mathlib.Core.Bool.{Bool, true, false}
use mathlib.Core.List.{List, ◌∷◌}
use Rattle.std.specs.Prelude.{Some, None}
use Prim.Native.Nat.{ℕ, suc, ◌+◌, ◌-◌, ◌^◌, ◌<◌}
use native.Mathlib.Omega.{arith}
use borrow.Author.Tests.{eqb-true, leb-true, leb-false}
use lib.ListN.{length}
use Rattle.model.specs.declared.Way.{Way}
use Rattle.model.specs.declared.Way.TheVariants.{Inside, ByLast, ByFirst, ByMerge}
use Rattle.model.specs.Tree.{Tree, kid, size, find, at_separator}
use Rattle.model.specs.Remove.{is_thin, merge, fill, way_for}
use Rattle.model.proofs.Nodes.{size_least}
use Rattle.model.proofs.Find.{Step}
use Rattle.pool.specs.Parts.{kid_at}
use Rattle.tree.specs.declared.Turn.{Turn}
use Rattle.tree.specs.Lookup.{Above, Turns}
use Rattle.tree.specs.Stands.{Owns, Reshaped}
use Rattle.tree.proofs.Edits.{kid_readable, child_is, reshaped_none, owns_above}
use Rattle.repair.specs.declared.Refill.{Refill}
use Rattle.repair.specs.Ready.{PairReady, Few, FillReady, Fills}
use Rattle.repair.proofs.Places.{merge-stays}
use Rattle.repair.proofs.Choice.{ThinIs}
use Rattle.removal.specs.declared.Descent.{Descent}
use Rattle.removal.specs.Down.{down_by, descend, DownReady, Went}
use Rattle.removal.proofs.Descending.{way, place_of}

module _ {w : List ℕ} {id index : ℕ} (s : DownReady w id index) where
  abbrev h : ℕ
  h = s.height

  abbrev t : Tree (suc h)
  t = s.ready.tree

  abbrev f : List ℕ
  f = s.ready.free

  abbrev O : Owns w (suc h) t f
  O = s.ready.owns

  abbrev c : ℕ
  c = (find h t index).child

  W : Step h t index
  W = way h t index f O.fit s.ready.some s.ready.below

  abbrev pub above : Above w id index
  above = owns_above O s.ready.here index (omega (arith, s.ready.below))

  -- the step that is taken, by the way that is found
  by : {w' : List ℕ} {r : Descent} (y : Way) → way_for h t index ≡ y → Went w w' h t f (down_by h y t c index f) r
      → Went w w' h t f (descend h t index f) r
  unfolding descend
  by {w'} {r} y e D = subst (λ (x : Way). Went w w' h t f (down_by h x t c index f) r) (sym e) D

  module _ (u : Turn) (turned : (q : Above w id index) → Turns q.height q.tree index u) where
    T : Turns h t index u
    T = turned above

    -- a child of the node, by its number in the turn
    kid_ready : (d : ℕ) → d < length t.kids → FillReady w id d
    kid_ready d l = record { height = h; tree = t; free = f; owns = O; here = s.ready.here; some = s.ready.some; place = l }

    pub turn_kid : FillReady w id u.child
    turn_kid = kid_ready u.child (rw T.child (omega (arith, W.child, O.fit.one_more)))

    pub few_kids : u.child < 32
    few_kids = rw T.child (omega (arith, W.child, O.fit.most))

    -- ---- the index is inside the child

    module _ (w₁ : List ℕ) (r : Refill)
        (fills : (q : FillReady w id u.child) → Fills w w₁ q.height q.tree q.free u.child
        (fill q.height q.tree u.child q.free) r) where
      M : Fills w w₁ h t f c (fill h t c f) r
      unfolding turn_kid kid_ready
      M = subst (λ (d : ℕ). Fills w w₁ h t f d (fill h t d f) r) T.child (fills turn_kid)

      pub sub-fits : u.sub + r.ahead < 2 ^ 64
      sub-fits = omega (arith, T.sub, W.index, M.ahead, s.ready.below, O.small)

      pub went_inside : u.separator ≡ false
          → Went w w₁ h t f (descend h t index f) (record { id = r.id; index = u.sub + r.ahead; swaps = None; freed = r.freed })
      unfolding way_for down_by
      went_inside apart =
          by Inside (rw (sym T.separator ∙ apart) refl) (record {
            id = M.id;
            index = omega (arith, T.sub, W.index, M.ahead);
            swaps = refl;
            freed = M.freed;
            reshaped = M.reshaped;
          })

    -- ---- the index is that of the separator behind the child

    module _ (at : u.separator ≡ true) where
      sep : at_separator h t index ≡ true
      sep = sym T.separator ∙ at

      end : (find h t index).sub ≡ size h (kid h t c)
      end = eqb-true (find h t index).sub (size h (kid h t c)) sep

      place : c < length t.elems
      place = place_of h t index f O.fit s.ready.some s.ready.below (omega (arith, W.index, end))

      next_place : u.child + 1 < length t.kids
      next_place = rw T.child (omega (arith, place, O.fit.one_more))

      pub next_kid : FillReady w id (u.child + 1)
      next_kid = kid_ready (u.child + 1) next_place

      pub next_few : u.child + 1 < 32
      next_few = (kid_readable O s.ready.here next_place).1

      -- what the tests say of the two children
      left_thin : {b : Bool} → ThinIs w id u.child b → is_thin h (kid h t c) ≡ b
      unfolding turn_kid kid_ready
      left_thin {b} e = subst (λ (d : ℕ). is_thin h (kid h t d) ≡ b) T.child (e turn_kid)

      right_thin : {b : Bool} → ThinIs w id (u.child + 1) b → is_thin h (kid h t (c + 1)) ≡ b
      unfolding next_kid kid_ready
      right_thin {b} e = subst (λ (d : ℕ). is_thin h (kid h t (d + 1)) ≡ b) T.child (e next_kid)

      pub last_some : ThinIs w id u.child false → 0 < u.sub
      unfolding is_thin
      last_some e =
          omega (arith, T.sub, end, size_least h (kid h t c), leb-false (length (kid h t c).elems) 15 (left_thin e))

      pub went_last : ThinIs w id u.child false
          → Went w w h t f (descend h t index f) (record { id = u.id; index = u.sub - 1; swaps = Some u.child; freed = 0 })
      unfolding way_for down_by
      went_last e =
          by ByLast (rw (sep, left_thin e) refl) (record {
            id = T.id;
            index = ap (λ (n : ℕ). n - 1) (T.sub ∙ end);
            swaps = ap Some T.child;
            freed = omega arith;
            reshaped = reshaped_none O;
          })

      module _ (e : ThinIs w id u.child true) where
        pub went_first : ThinIs w id (u.child + 1) false
            → (k : ℕ) → k ≡ kid_at w id (u.child + 1)
            → Went w w h t f (descend h t index f) (record { id = k; index = 0; swaps = Some u.child; freed = 0 })
        unfolding way_for down_by next_kid kid_ready
        went_first g k ek =
            by ByFirst (rw (sep, left_thin e, right_thin g) refl) (record {
              id = subst (λ (d : ℕ). k ≡ (kid h t (d + 1)).id) T.child (sym (child_is O s.ready.here next_place k ek));
              index = refl;
              swaps = ap Some T.child;
              freed = omega arith;
              reshaped = reshaped_none O;
            })

        module _ (g : ThinIs w id (u.child + 1) true) where
          pub merge_ready : PairReady Few w id u.child
          unfolding is_thin
          merge_ready = record {
            height = h;
            tree = t;
            free = f;
            owns = O;
            here = s.ready.here;
            place = rw T.child place;
            counts = rw T.child (omega (
              arith,
              leb-true (length (kid h t c).elems) 15 (left_thin e),
              leb-true (length (kid h t (c + 1)).elems) 15 (right_thin g),
            ));
          }

          pub went_merged : (w₁ : List ℕ) → ((q : PairReady Few w id u.child) → Reshaped w w₁ (suc q.height) q.tree q.free
              (merge q.height q.tree u.child) ((kid q.height q.tree (u.child + 1)).id ∷ q.free))
              → Went w w₁ h t f (descend h t index f) (record { id = u.id; index = u.sub; swaps = None; freed = 1 })
          unfolding way_for down_by merge_ready
          went_merged w₁ done =
              let S = merge-stays h t c (omega (arith, place, O.fit.one_more)) in
              by ByMerge (rw (sep, left_thin e, right_thin g) refl) (record {
                id = T.id ∙ sym S.id;
                index = omega (arith, T.sub, W.index, S.start);
                swaps = refl;
                freed = omega arith;
                reshaped = subst (λ (d : ℕ). Reshaped w w₁ (suc h) t f (merge h t d) ((kid h t (d + 1)).id ∷ f)) T.child (done merge_ready);
              })
