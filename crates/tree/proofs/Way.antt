-- The way of an index from a node with children: what the code has read at each step of it.
use mathlib.Core.Path.{◌≡◌, sym, ap, ◌∙◌}
use mathlib.Core.List.{List}
use Prim.Native.Nat.{ℕ, suc, ◌+◌, ◌<◌}
use native.Mathlib.Omega.{arith}
use lib.Dec.{eqb}
use lib.ListN.{get_or}
use Rattle.model.specs.declared.Place.{Place}
use Rattle.model.specs.Tree.{Tree, kid, size, find_in, find}
use Rattle.model.specs.Fit.{Fit}
use Rattle.model.proofs.Find.{Step, step}
use Rattle.pool.specs.Layout.{start, block}
use Rattle.pool.specs.Parts.{Inside, At, length_at}
use Rattle.pool.specs.Find.{kid_lengths, Inner}
use Rattle.pool.proofs.Store.{part, block_in}
use Rattle.pool.proofs.Node.{at_length, at_kid, kid_lengths_lem, inner_at}
use Rattle.tree.specs.Lookup.{Above, Turns}

module _ {w : List ℕ} {id index : ℕ} (s : Above w id index) where
  abbrev h : ℕ
  h = s.height

  abbrev t : Tree (suc h)
  t = s.tree

  F : Fit (suc h) t
  F = s.fit

  A : At w (suc h) t
  A = s.at

  way : Step h t index
  way = step h t F index s.upto

  lent : (a : ℕ) → a ≡ start id → part w a ≡ block w t.id
  lent a e = block_in w a t.id (e ∙ ap start (sym s.here))

  pub way_inner : (a : ℕ) → a ≡ start id → Inner w (part w a) index
  way_inner a e = rw (lent a e) (inner_at w h t F A index s.upto)

  module _ (a : ℕ) (p : Place) (ea : a ≡ start id) (ep : p ≡ find_in (kid_lengths w (part w a)) index) where
    way_place : p ≡ find h t index
    way_place = ep ∙ rw (lent a ea, kid_lengths_lem w h t F A)

    pub way_child : p.child < 32
    way_child = rw way_place (omega (arith, way.child, F.most))

    module _ (k : ℕ) (ek : k ≡ get_or (part w a) (33 + p.child) 0) where
      way_id : k ≡ (kid h t (find h t index).child).id
      way_id = ek ∙ rw (lent a ea, way_place) (at_kid w h t A.here F.most (find h t index).child (omega (arith, way.child, F.most)))

      below : At w h (kid h t (find h t index).child)
      below = A.each (find h t index).child (omega (arith, way.child, F.one_more))

      pub way_inside : Inside w k
      way_inside = rw way_id below.here.inside

      pub way_turns : (n : ℕ) → n ≡ length_at w k
          → Turns h t index (record { child = p.child; sub = p.sub; compared = p.compared; id = k; separator = eqb p.sub n })
      way_turns n en =
          let e : n ≡ size h (kid h t (find h t index).child) =
          en ∙ rw way_id (at_length w h (kid h t (find h t index).child) below.here) in
          record {
            child = ap (λ (q : Place). q.child) way_place;
            sub = ap (λ (q : Place). q.sub) way_place;
            compared = ap (λ (q : Place). q.compared) way_place;
            id = way_id;
            separator = rw (way_place, e);
          }
