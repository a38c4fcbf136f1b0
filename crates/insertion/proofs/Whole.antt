-- Insertion into the whole list: into an empty list, under a root with room, and under a full root.
use mathlib.Core.Path.{◌≡◌, refl, sym, ap, subst, ◌∙◌}
use mathlib.Core.Bool.{Bool, true, false}
use mathlib.Core.List.{List, [], ◌∷◌, ◌++◌}
use mathlib.Core.Logic.{◌≢◌}
use Prim.Native.Nat.{ℕ, suc, ◌+◌, ◌-◌, ◌≤◌, ◌<◌}
use native.Mathlib.Numerals.{add-one}
use native.Mathlib.Omega.{arith}
use borrow.Author.Tests.{ltb-false}
use Rattle.std.specs.Prelude.{Some}
use lib.Dec.{ltb}
use lib.ListN.{length, get_or, drop, length-drop}
use Rattle.lists.specs.Lists.{count, insert_at}
use Rattle.lists.proofs.Counts.{count-append, count_first, one_same}
use Rattle.model.specs.Tree.{Tree, size, ids, Root, Bag, root_ids, levels_of}
use Rattle.model.specs.Insert.{Grown, insert_non_full, needed_below, needed, above_root, grown_bag, bag_insert}
use Rattle.model.proofs.Nodes.{node, most}
use Rattle.model.proofs.Insert.{full, not_full}
use Rattle.model.proofs.Bags.{bag_insert_lem, Lifted, lift_law, bag_bare, bag_room, bag_full}
use Rattle.pool.specs.Layout.{with_block, node_block, kid_ids, root_block, root_id}
use Rattle.pool.specs.Parts.{Stored, At, ChainAt}
use Rattle.pool.specs.Frame.{Untouched}
use Rattle.chain.specs.Chain.{Free, Took}
use Rattle.pool.proofs.Blocks.{length-node_block}
use Rattle.pool.proofs.Frame.{chain_untouched, untouched_none, untouched_more, untouched_both, Wrote, wrote, stored_same}
use Rattle.tree.specs.declared.Known.{Known}
use Rattle.tree.specs.Stands.{Became}
use Rattle.tree.proofs.Rooting.{Rooted, is_bare}
use Rattle.split.specs.Ready.{RaiseReady, Raised}
use Rattle.insertion.specs.Nodes.{HasRoom}
use Rattle.insertion.specs.Ready.{InsertReady, BagReady, Inserts}
use Rattle.insertion.specs.Steps.{InsertsBelow}
use Rattle.insertion.proofs.Needing.{Told}
use Rattle.insertion.proofs.Inserting.{BelowDone}
use Rattle.insertion.proofs.Rooms.{insert_id}
use Rattle.insertion.proofs.Rooting.{free_count, root_of, index_upto, is_full_root, root_needs, needs_one}

-- the bag that b became has this root and these free nodes
grown : {w w' : List ℕ} {b d : Bag} (h : ℕ) (g : Grown (Tree h)) (k : Known) → d ≡ grown_bag h g → k.root ≡ g.tree.id → k.levels ≡ h
    → k.free ≡ length d.free → At w' h g.tree → ChainAt w' g.free → Untouched w w' (root_ids b.root ++ b.free)
    → Became w w' b d k
unfolding root_id levels_of
grown {w} {w'} {b} h g k e er el ef A C U =
    subst (λ (d : Bag). k.free ≡ length d.free → Became w w' b d k) (sym e) (λ ef. record {
      known = λ i. record { root = er i; levels = el i; free = ef i };
      tree = A;
      chain = C;
      untouched = U;
    }) ef

leaf-block : (k x : ℕ) → node_block 1 (x ∷ []) [] ≡ root_block 0 (node k (x ∷ []) [])
unfolding root_block size kid_ids
leaf-block k x = refl

-- ---- the test for room

module _ {w : List ℕ} {known : Known} {index : ℕ} (x : ℕ) (a : Bool)
    (A : (q : BagReady w known index) → a ≡ ltb known.free (needed q.bag.root index)) (b : BagReady w known index) where
  module _ (e : a ≡ false) where
    pub enough : needed b.bag.root index ≤ length b.bag.free
    enough = omega (arith, ltb-false known.free (needed b.bag.root index) (sym (A b) ∙ e), free_count b)

    accepts : {w' : List ℕ} {k : Known} → Became w w' b.bag (bag_insert b.bag index x) k → Inserts w w' b.bag index x (Some k)
    accepts B = record {
      accepted = λ m. (ap Some B.known, record { known = refl; tree = B.tree; chain = B.chain; untouched = B.untouched });
      refused = λ m. absurd (omega (arith, enough));
    }

    left : (m : ℕ) → m + needed b.bag.root index ≡ known.free → m ≡ length (bag_insert b.bag index x).free
    left m s =
        let I = bag_insert_lem b.bag index x b.stands.fit b.upto enough in
        omega (arith, free_count b, ap length I.rest, length-drop (needed b.bag.root index) b.bag.free)

    -- ---- an empty list

    module _ (z : known.root ≡ 0) where
      abbrev f : List ℕ
      f = b.bag.free

      some : 0 < length f
      some = omega (arith, enough, needs_one z b)

      pub one_free : 0 < known.free
      one_free = omega (arith, some, free_count b)

      pub bare_free : Free w f
      bare_free = record { chain = b.stands.chain; once = λ k. omega (arith, b.stands.once k); some = some }

      module _ (root : ℕ) (w₁ : List ℕ) (et : (f : List ℕ) → Free w f → Took w f root w₁) where
        T : Took w f root w₁
        T = et f bare_free

        pub clean : Stored w₁ root (node_block 0 [] [])
        unfolding node_block
        clean = T.clean

        abbrev pub blank_takes : HasRoom w₁ root 0
        blank_takes = record {
          node = record { size = 0; elems = []; kids = []; stored = clean; few_elems = omega arith; few_kids = omega arith };
          place = omega arith;
          room = omega arith;
          small = omega arith;
        }

        pub bare_inserted : (w₂ : List ℕ) → ((s : HasRoom w₁ root 0)
            → w₂ ≡ with_block w₁ root (node_block (s.node.size + 1) (insert_at s.node.elems 0 x) s.node.kids))
            → Inserts w w₂ b.bag index x (Some (record { root = root; levels = 0; free = known.free - 1 }))
        unfolding insert_at root_ids
        bare_inserted w₂ e₂ =
            let W : Wrote w₁ w₂ root (node_block 1 (x ∷ []) []) =
            wrote (e₂ blank_takes) T.clean.inside (length-node_block 1 (x ∷ []) [] (omega arith) (omega arith)) in
            let own : (k : ℕ) → count k f ≡ count k (root ∷ []) + count k (drop 1 f) =
            (λ k. omega (arith, count_first k f some, one_same k T.first)) in
            accepts
            (grown 0 (record { tree = node (get_or f 0 0) (x ∷ []) []; free = drop 1 f })
            (record { root = root; levels = 0; free = known.free - 1 })
            (bag_bare b.bag index x (is_bare b.stands b.is z)) T.first refl
            (left (known.free - 1) (omega (arith, needs_one z b, one_free)))
            (record { here = stored_same (sym T.first) (leaf-block (get_or f 0 0) x) W.stored; each = tt })
            (chain_untouched W.untouched (λ k m. omega (arith, own k, b.stands.once k)) W.chain T.chain)
            (untouched_more (untouched_both T.untouched W.untouched) (λ k z.
            omega (arith, own k, count-append k (root ∷ []) (root ∷ []), count-append k (root_ids b.bag.root) f))))

    -- ---- a list with a root

    -- the caller's nodes
    abbrev all : List ℕ
    all = root_ids b.bag.root ++ b.bag.free

    -- top is known of the list when its root has room: an insertion below it is one into the list
    pub record Roomy (w₁ : List ℕ) (top : Known) : Type 0 where
      pub ready : InsertReady w₁ top.levels top.root index
      pub frees : top.free ≡ length ready.free
      pub spent : needed b.bag.root index + top.free ≡ known.free + needed_below top.levels ready.tree index
      pub grows : bag_insert b.bag index x ≡ grown_bag top.levels (insert_non_full top.levels ready.tree index x ready.free)
      pub untouched : Untouched w w₁ all
      pub within : (k : ℕ) → count k all ≡ 0 → count k (ids top.levels ready.tree ++ ready.free) ≡ 0

    module _ {w₁ : List ℕ} {top : Known} (R : Roomy w₁ top) (w' : List ℕ) (n : ℕ)
        (C : BelowDone w₁ w' top.levels top.root index x n) where
      abbrev u : Tree top.levels
      u = R.ready.tree

      abbrev g : List ℕ
      g = R.ready.free

      D : InsertsBelow w₁ w' top.levels u g index x n
      D = C R.ready

      pub few_taken : n ≤ top.free
      few_taken = omega (arith, D.taken, R.frees, R.ready.enough)

      pub inserted : Inserts w w' b.bag index x (Some (record { root = top.root; levels = top.levels; free = top.free - n }))
      inserted =
          accepts
          (grown top.levels (insert_non_full top.levels u index x g) (record { root = top.root; levels = top.levels; free = top.free - n })
          R.grows (sym (insert_id top.levels u index x g ∙ R.ready.here)) refl
          (left (top.free - n) (omega (arith, few_taken, D.taken, R.spent)))
          D.grew.at D.grew.chain
          (untouched_more (untouched_both R.untouched D.grew.untouched) (λ k z.
          omega (arith, count-append k all (ids top.levels u ++ g), R.within k z))))

    module _ (ne : known.root ≢ 0) (d : Bool) (told : Told w known.root d) where
      abbrev O : Rooted w known b.bag
      O = root_of b ne

      abbrev h : ℕ
      h = known.levels

      abbrev t : Tree h
      t = O.tree

      abbrev f₀ : List ℕ
      f₀ = b.bag.free

      same_nodes : (k : ℕ) → count k all ≡ count k (ids h t ++ f₀)
      unfolding root_ids
      same_nodes k = ap (λ (r : Root). count k (root_ids r ++ f₀)) O.is

      -- that has room
      pub room_roomy : d ≡ false → Roomy w known
      room_roomy q =
          let n : needed b.bag.root index ≡ needed_below h t index = omega (arith, rw q at (root_needs b ne d told)) in
          record {
            ready = record {
              tree = t;
              free = f₀;
              owns = O.owns;
              here = O.here;
              some = O.some;
              room = not_full h t (is_full_root b ne d told ∙ q);
              upto = index_upto b ne;
              enough = omega (arith, enough, n);
            };
            frees = free_count b;
            spent = omega (arith, n);
            grows = bag_room b.bag index x h t O.is (is_full_root b ne d told ∙ q);
            untouched = untouched_none;
            within = λ k z. omega (arith, same_nodes k);
          }

      -- that is full
      module _ (q : d ≡ true) where
        pub needs_two : needed b.bag.root index ≡ 2 + needed_below h t index
        needs_two = rw q at (root_needs b ne d told)

        pub two_free : 2 ≤ known.free
        two_free = omega (arith, enough, needs_two, free_count b)

        pub root_full : length t.elems ≡ 31
        root_full = omega (arith, full h t (is_full_root b ne d told ∙ q), most h t O.owns.fit)

        abbrev pub raise_ready : RaiseReady w known.root
        raise_ready = record {
          height = h;
          tree = t;
          free = f₀;
          owns = O.owns;
          here = O.here;
          full = root_full;
          two = omega (arith, enough, needs_two);
        }

        module _ (root : ℕ) (w₁ : List ℕ) (E : (s : RaiseReady w known.root) → Raised w w₁ s.height s.tree s.free root) where
          abbrev above : Tree (suc h)
          above = above_root h t f₀

          raised : Raised w w₁ h t f₀ root
          raised = E raise_ready

          lifted : Lifted h t index f₀ above
          lifted = lift_law h t O.owns.fit root_full index (index_upto b ne) f₀ (omega (arith, enough, needs_two))

          pub full_roomy : Roomy w₁ (record { root = root; levels = known.levels + 1; free = known.free - 2 })
          full_roomy = rw (add-one known.levels) (record {
            ready = record {
              tree = above;
              free = drop 2 f₀;
              owns = record {
                at = raised.at;
                fit = lifted.fit;
                chain = raised.chain;
                once = λ k. omega (arith, O.owns.once k, lifted.nodes k);
                small = omega (arith, O.owns.small, lifted.sized);
              };
              here = lifted.id ∙ sym raised.first;
              some = omega (arith, lifted.elems);
              room = omega (arith, lifted.elems);
              upto = omega (arith, index_upto b ne, lifted.sized);
              enough = omega (arith, enough, needs_two, lifted.need, length-drop 2 f₀);
            };
            frees = omega (arith, free_count b, length-drop 2 f₀);
            spent = omega (arith, two_free, needs_two, lifted.need);
            grows = bag_full b.bag index x h t O.is (is_full_root b ne d told ∙ q);
            untouched = untouched_more raised.untouched (λ k z. omega (arith, same_nodes k));
            within = λ k z. omega (
              arith,
              same_nodes k,
              lifted.nodes k,
              count-append k (ids h t) f₀,
              count-append k (ids (suc h) above) (drop 2 f₀),
            );
          })
