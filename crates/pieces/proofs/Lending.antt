-- A piece that goes from one node through the separator of a second to a third: what each step asks, and the words in the end.
use mathlib.Core.Path.{◌≡◌, sym, ◌∙◌}
use mathlib.Core.List.{List, [], ◌∷◌}
use Prim.Native.Nat.{ℕ, ◌+◌, ◌-◌}
use native.Mathlib.Omega.{arith}
use lib.ListN.{get_or, set, length-set}
use Rattle.lists.specs.Lists.{count, insert_at, remove_at}
use Rattle.lists.proofs.Edits.{length-insert_at, length-remove_at}
use Rattle.lists.proofs.Counts.{count_other, one_other}
use Rattle.pool.specs.Layout.{with_block, node_block}
use Rattle.pool.specs.Parts.{kid_at}
use Rattle.pool.specs.Frame.{Untouched}
use Rattle.pool.proofs.Blocks.{length-node_block}
use Rattle.pool.proofs.Frame.{stored_untouched, untouched_both, Wrote, wrote}
use Rattle.tree.specs.Node.{Node}
use Rattle.tree.specs.Lookup.{HasElement, Swapped}
use Rattle.tree.proofs.Standing.{node_kid_at}
use Rattle.tree.proofs.Edits.{node_untouched}
use Rattle.pieces.specs.declared.Piece.{Piece}
use Rattle.pieces.specs.declared.Spot.{Spot}
use Rattle.pieces.specs.Pieces.{Seated, Takes, TookOut, Puts, put_in, length_or, HasSlot, Lends, Lent}

-- a node after an edit of others
abbrev pub seated_kept : {w w' own : List ℕ} {k : ℕ} → Untouched w w' own → count k own ≡ 0 → Seated w k → Seated w' k
seated_kept U z s = record { node = node_untouched U z s.node; seats = s.seats; leaf = s.leaf }

module _ {w : List ℕ} {id c : ℕ} {from to : Spot} (s : Lends w id c from to)
    (r : ℕ) (er : (q : HasSlot w from.node from.kid) → r ≡ length_or w (get_or q.seated.node.kids from.kid 0)) where
  abbrev a : Node w from.node
  a = s.lender.seated.node

  abbrev e : Node w id
  e = s.parent.node

  abbrev b : Node w to.node
  b = s.taker.node

  is : r ≡ length_or w (get_or a.kids from.kid 0)
  is = er s.lender

  pub lend-take : Takes w from (r + 1)
  lend-take = record {
    seated = s.lender.seated;
    elem = s.elem;
    kid = s.lender.place;
    less = omega (arith, s.less, is);
  }

  module _ (p : Piece) (w₁ : List ℕ)
      (took : (q : Takes w from (r + 1)) → TookOut w w₁ from (r + 1)
      q.seated.node p) where
    T : TookOut w w₁ from (r + 1) a p
    unfolding lend-take
    T = took lend-take

    abbrev X : List ℕ
    X = node_block (a.size - (r + 1)) (remove_at a.elems from.elem) (remove_at a.kids from.kid)

    one : Wrote w w₁ from.node X
    one =
        let le = length-remove_at a.elems from.elem s.elem in
        let lk = length-remove_at a.kids from.kid (omega (arith, s.lender.place, s.lender.seated.seats)) in
        wrote T.words a.stored.inside
        (length-node_block (a.size - (r + 1)) (remove_at a.elems from.elem) (remove_at a.kids from.kid) (omega (arith, a.few_elems))
        (omega (arith, a.few_kids)))

    pub lend_swap : HasElement w₁ id c
    lend_swap = record { node = node_untouched one.untouched (one_other id from.node (λ q. s.from_below (sym q))) e; below = s.parent.below }

    module _ (x : ℕ) (w₂ : List ℕ) (swapped : (q : HasElement w₁ id c) → Swapped w₁ w₂ id c p.elem q.node x) where
      abbrev Y : List ℕ
      Y = node_block e.size (set e.elems c p.elem) e.kids

      two : Wrote w₁ w₂ id Y
      unfolding lend_swap
      two =
          wrote (swapped lend_swap).words lend_swap.node.stored.inside
          (length-node_block e.size (set e.elems c p.elem) e.kids (omega (arith, length-set e.elems c p.elem, e.few_elems)) e.few_kids)

      both : Untouched w w₂ (from.node ∷ (id ∷ []))
      both = untouched_both one.untouched two.untouched

      pub lend_put : Puts w₂ to (r + 1)
      lend_put = record {
        seated = seated_kept both (count_other to.node from.node (id ∷ []) (λ q. s.apart (sym q)) ∙ one_other to.node id s.to_below)
            s.taker;
        elem = s.new_elem;
        kid = s.new_kid;
        room = s.room;
        small = omega (arith, s.small, is);
      }

      pub lend-leaf : p.kid ≡ 0 → kid_at w₂ to.node 0 ≡ 0
      unfolding lend_put
      lend-leaf z = node_kid_at lend_put.seated.node 0 (omega arith) ∙ s.alike (sym T.kid ∙ z)

      pub lent : (w₃ : List ℕ)
          → ((q : Puts w₂ to (r + 1)) → w₃ ≡ with_block w₂ to.node
          (put_in q.seated.node to.elem to.kid x p.kid (r + 1)))
          → Lent w w₃ id c from to a e b
      unfolding lend_swap lend_put
      lent w₃ put =
          let Z : List ℕ = put_in b to.elem to.kid x p.kid (r + 1) in
          let le = length-insert_at b.elems to.elem x s.new_elem in
          let lk = length-insert_at b.kids to.kid p.kid (omega (arith, s.new_kid, s.taker.seats)) in
          let three : Wrote w₂ w₃ to.node Z =
          wrote (put lend_put) lend_put.seated.node.stored.inside
          (length-node_block (b.size + (r + 1)) (insert_at b.elems to.elem x) (insert_at b.kids to.kid p.kid) (omega (arith, s.room))
          (omega (arith, s.room, s.taker.seats))) in
          record {
            lender = rw (← is) (stored_untouched three.untouched (one_other from.node to.node s.apart)
                (stored_untouched two.untouched (one_other from.node id s.from_below) one.stored));
            parent = rw (← T.elem) (stored_untouched three.untouched (one_other id to.node (λ q. s.to_below (sym q))) two.stored);
            taker = rw (← is, ← T.kid, ← (swapped lend_swap).given) three.stored;
            untouched = untouched_both both three.untouched;
            chain = three.chain ∙ two.chain ∙ one.chain;
          }
