-- Insertion below a node, step by step: what each call asks, from what the calls before it ensured, and what stands in the end.
use mathlib.Core.Path.{◌≡◌, refl, sym, ap, subst, ◌∙◌}
use mathlib.Core.Bool.{Bool, true, false}
use mathlib.Core.List.{List, []}
use mathlib.Core.Logic.{◌≢◌}
use Prim.Native.Nat.{ℕ, zero, suc, ◌+◌, ◌-◌, ◌≤◌, ◌<◌}
use native.Mathlib.Omega.{arith}
use lib.Dec.{leb}
use lib.ListN.{length, get_or, drop}
use Rattle.lists.specs.Lists.{insert_at}
use Rattle.lists.proofs.Edits.{length-insert_at}
use Rattle.model.specs.declared.Place.{Place}
use Rattle.model.specs.Tree.{Tree, kid, size, find}
use Rattle.model.specs.Fit.{Fit}
use Rattle.model.specs.Insert.{is_full, split_child, Grown, insert_non_full, needed_below}
use Rattle.model.proofs.Nodes.{most}
use Rattle.model.proofs.Find.{Step, into, step}
use Rattle.model.proofs.Insert.{full, Inserted, insert_law}
use Rattle.model.proofs.Bounds.{needed-below_lem}
use Rattle.pool.specs.Layout.{node_words, with_block, node_block, kid_ids, root_block}
use Rattle.pool.specs.Parts.{Inside, length_at, kid_at}
use Rattle.pool.proofs.Blocks.{most_kids, length-node_block, length-root_block}
use Rattle.pool.proofs.Frame.{wrote, wrote_same}
use Rattle.tree.specs.declared.Turn.{Turn}
use Rattle.tree.specs.Node.{Node}
use Rattle.tree.specs.Stands.{Owns, Reshaped}
use Rattle.tree.specs.Lookup.{Above}
use Rattle.tree.proofs.Standing.{node_of, node_size}
use Rattle.tree.proofs.Getting.{Turned}
use Rattle.tree.proofs.Edits.{node_untouched, root_reshaped, owns_kid, root_apart, kid_reshaped, kid_readable, child_is}
use Rattle.tree.proofs.Edits.{reshaped_none, owns_after, reshaped_both, owns_above}
use Rattle.insertion.specs.Nodes.{HasRoom, Counts}
use Rattle.split.specs.Ready.{SplitReady}
use Rattle.insertion.specs.declared.Entry.{Entry}
use Rattle.insertion.specs.Ready.{InsertReady}
use Rattle.insertion.specs.Steps.{Grew, RoomReady, roomed, MakesRoom, InsertsBelow}
use Rattle.insertion.proofs.Ways.{Halved, halved}
use Rattle.insertion.proofs.Rooms.{insert_id, insert-size, with_block_lem, Roomed, roomed_not, roomed_full, room_law}

-- ---- in a leaf

leaf_upto : {w : List ℕ} {id index : ℕ} (i : InsertReady w 0 id index) → index ≤ length i.tree.elems
unfolding size
leaf_upto i = i.upto

abbrev leaf_takes : {w : List ℕ} {id index : ℕ} → InsertReady w 0 id index → HasRoom w id index
leaf_takes i = record {
  node = node_of 0 i.tree i.here i.owns.at i.owns.fit;
  place = leaf_upto i;
  room = i.room;
  small = i.owns.small;
}

leaf-block : (t : Tree 0) (es : List ℕ) → length es ≡ length t.elems + 1
    → node_block (size 0 t + 1) es (kid_ids 0 t) ≡ root_block 0 (record { id = t.id; elems = es; kids = t.kids })
unfolding root_block size kid_ids
leaf-block t es l = ap (λ (n : ℕ). node_block n es []) (sym l)

leaf_inserted : {w w' : List ℕ} {id index : ℕ} (i : InsertReady w 0 id index) (x : ℕ) → ((s : HasRoom w id index)
    → w' ≡ with_block w id (node_block (s.node.size + 1) (insert_at s.node.elems index x) s.node.kids))
    → InsertsBelow w w' 0 i.tree i.free index x 0
unfolding insert_non_full needed_below
leaf_inserted {w} {w'} {id} {index} i x e =
    let t : Tree 0 = i.tree in
    let es : List ℕ = insert_at t.elems index x in
    let s : Tree 0 = record { id = t.id; elems = es; kids = t.kids } in
    let l : length es ≡ length t.elems + 1 = length-insert_at t.elems index x (leaf_upto i) in
    let F : Fit 0 s = record { most = omega (arith, i.room) } in
    record {
      grew = root_reshaped 0 t es i.owns (wrote_same i.here refl
          (wrote (e (leaf_takes i) ∙ ap (with_block w id) (leaf-block t es l)) (leaf_takes i).node.stored.inside (length-root_block 0 s F)));
      taken = refl;
    }

-- ---- in a node with children, where there is room

module _ {w w₁ : List ℕ} {id index h : ℕ} (i : InsertReady w (suc h) id index)
    (R : Grew w w₁ (suc h) i.tree i.free (roomed h i.tree index i.free)) where
  abbrev s₁ : Tree (suc h)
  s₁ = (roomed h i.tree index i.free).tree

  abbrev g₁ : List ℕ
  g₁ = (roomed h i.tree index i.free).free

  laws : Roomed h i.tree index i.free s₁ g₁
  laws = room_law h i.tree index i.owns.fit i.room i.upto i.free i.enough

  owns₁ : Owns w₁ (suc h) s₁ g₁
  owns₁ = owns_after i.owns R laws.same

  way₁ : Step h s₁ index
  way₁ = step h s₁ owns₁.fit index (omega (arith, i.upto, laws.same.sized))

  place₁ : (find h s₁ index).child < length s₁.kids
  place₁ = omega (arith, way₁.child, owns₁.fit.one_more)

-- ---- the way from a node, and room made there

module _ {w : List ℕ} {id index h : ℕ} (i : InsertReady w (suc h) id index) where
  abbrev t : Tree (suc h)
  t = i.tree

  abbrev f : List ℕ
  f = i.free

  abbrev pub ready_above : Above w id index
  ready_above = owns_above i.owns i.here index i.upto

  way : Step h t index
  way = step h t i.owns.fit index i.upto

  pub place : (find h t index).child < length t.kids
  place = omega (arith, way.child, i.owns.fit.one_more)

  pub below : Owns w h (into h t index) f
  below = owns_kid i.owns (find h t index).child place

  module _ (r : Turn) (T : Turned w id index r) where
    pub way_node : Node w r.id
    way_node = node_of h (into h t index) (sym (T ready_above).id) below.at below.fit

    module _ (b : Bool) (eb : (m : Node w r.id) → b ≡ leb 31 (length m.elems)) where
      pub is_full_kid : is_full h (into h t index) ≡ b
      unfolding is_full
      is_full_kid = sym (eb (node_of h (into h t index) (sym (T ready_above).id) below.at below.fit))

      pub no_room_made : b ≡ false → MakesRoom w w h t f index (record { id = r.id; sub = r.sub; taken = 0 })
      no_room_made e =
          let n = roomed_not h t index f (is_full_kid ∙ e) in
          record {
            grew = rw n (reshaped_none i.owns);
            id = rw n (T ready_above).id;
            sub = rw n (T ready_above).sub;
            taken = rw (is_full_kid ∙ e);
          }

      module _ (e : b ≡ true) where
        pub some_free : 0 < length f
        unfolding needed_below
        some_free = omega (arith, rw (is_full_kid ∙ e) at i.enough)

        abbrev pub split_ready : SplitReady w id r.child
        split_ready = record {
          height = h;
          tree = t;
          free = f;
          owns = i.owns;
          here = i.here;
          place = rw (T ready_above).child place;
          full = rw (T ready_above).child (omega (arith, full h (into h t index) (is_full_kid ∙ e), most h (into h t index) below.fit));
          room = i.room;
          some = some_free;
        }

        -- after the split the index goes into a half
        module _ (w' : List ℕ) (S : (q : SplitReady w id r.child) → Reshaped w w' (suc q.height) q.tree q.free
            (split_child q.height q.tree r.child (get_or q.free 0 0)) (drop 1 q.free)) where
          abbrev child : ℕ
          child = (find h t index).child

          abbrev parted : Tree (suc h)
          parted = split_child h t child (get_or f 0 0)

          is_split : roomed h t index f ≡ record { tree = parted; free = drop 1 f }
          is_split = roomed_full h t index f (is_full_kid ∙ e)

          split_grew : Grew w w' (suc h) t f (roomed h t index f)
          split_grew = rw (is_split, ← (T ready_above).child) (S split_ready)

          split_owns : Owns w' (suc h) parted (drop 1 f)
          split_owns = subst (λ (g : Grown (Tree (suc h))). Owns w' (suc h) g.tree g.free) is_split (owns₁ i split_grew)

          split_here : parted.id ≡ id
          unfolding split_child
          split_here = i.here

          H : Halved h t (find h t index) parted index
          H = halved h t i.owns.fit i.room index (get_or f 0 0) i.upto (rw (← (T ready_above).child) split_ready.full)

          half : Owns w' h (kid h parted child) (drop 1 f)
          half = owns_kid split_owns child (omega (arith, H.two))

          half_here : (kid h parted child).id ≡ r.id
          half_here = H.id ∙ sym (T ready_above).id

          pub half_inside : Inside w' r.id
          half_inside = subst (Inside w') half_here half.at.here.inside

          pub right_few : r.child + 1 < 32
          right_few = rw (T ready_above).child (kid_readable split_owns split_here H.two).1

          room_made : (p : Place) (k : ℕ) → find h parted index ≡ p → k ≡ (kid h parted p.child).id
              → MakesRoom w w' h t f index (record { id = k; sub = p.sub; taken = 1 })
          room_made p k g d =
              record { grew = split_grew; id = rw (is_split, g) d; sub = rw (is_split, g) refl; taken = rw (is_full_kid ∙ e) }

          module _ (n : ℕ) (en : n ≡ length_at w' r.id) where
            half_size : n ≡ size h (kid h parted child)
            half_size = en ∙ node_size (node_of h (kid h parted child) half_here half.at half.fit)

            pub left_made : r.sub ≤ n → MakesRoom w w' h t f index (record { id = r.id; sub = r.sub; taken = 1 })
            left_made l =
                let d = (T ready_above).sub in
                rw d (room_made _ r.id (H.left (omega (arith, half_size))) (sym half_here))

            pub right_made : n < r.sub → (k : ℕ) → k ≡ kid_at w' id (r.child + 1)
                → MakesRoom w w' h t f index (record { id = k; sub = r.sub - n - 1; taken = 1 })
            right_made l k ek =
                let d = (T ready_above).sub in
                rw (d, half_size)
                (room_made _ k (H.right (omega (arith, half_size)))
                (sym (child_is split_owns split_here H.two k (rw (← (T ready_above).child) ek))))

-- ---- and below it

module _ {w w₁ : List ℕ} {id index h : ℕ} (i : InsertReady w (suc h) id index) (r : Entry)
    (M : MakesRoom w w₁ h i.tree i.free index r) where
  abbrev s : Tree (suc h)
  s = (roomed h i.tree index i.free).tree

  abbrev g : List ℕ
  g = (roomed h i.tree index i.free).free

  abbrev c : ℕ
  c = (find h s index).child

  abbrev L : Roomed h i.tree index i.free s g
  L = laws i M.grew

  abbrev O : Owns w₁ (suc h) s g
  O = owns₁ i M.grew

  abbrev l : c < length s.kids
  l = place₁ i M.grew

  abbrev next : InsertReady w₁ h r.id r.sub
  next = record {
    tree = into h s index;
    free = g;
    owns = owns_kid O c l;
    here = sym M.id;
    some = omega (arith, (way₁ i M.grew).below.least);
    room = L.room;
    upto = rw M.sub (way₁ i M.grew).sub;
    enough = rw M.sub L.need;
  }

  module _ (w₂ : List ℕ) (x n : ℕ) (C : (q : InsertReady w₁ h r.id r.sub)
      → InsertsBelow w₁ w₂ h q.tree q.free r.sub x n) where
    abbrev y : Grown (Tree h)
    y = insert_non_full h (into h s index) (find h s index).sub x g

    inner : InsertsBelow w₁ w₂ h (into h s index) g (find h s index).sub x n
    inner = subst (λ (j : ℕ). InsertsBelow w₁ w₂ h (into h s index) g j x n) M.sub (C next)

    inserted : Inserted h (into h s index) (find h s index).sub x g y
    inserted = insert_law h (into h s index) next.owns.fit L.room (find h s index).sub x g (way₁ i M.grew).sub L.need

    abbrev counts : Counts w₂ id
    counts = record {
      node = node_untouched inner.grew.untouched (root_apart O c l id (L.id ∙ i.here))
          (node_of (suc h) s (L.id ∙ i.here) O.at O.fit);
      small = O.small;
    }

    took : r.taken + n ≡ needed_below (suc h) i.tree index
    took = omega (arith, M.taken, L.taken, inner.taken)

    done : (w₃ : List ℕ) → ((q : Counts w₂ id)
        → w₃ ≡ with_block w₂ id (node_block (q.node.size + 1) q.node.elems q.node.kids))
        → InsertsBelow w w₃ (suc h) i.tree i.free index x (r.taken + n)
    done w₃ e =
        let k : Tree h = y.tree in
        let b = with_block_lem h s c k l (insert-size next.owns.fit (way₁ i M.grew).sub inserted)
        (insert_id h (into h s index) (find h s index).sub x g) in
        let m : length (node_block (size (suc h) s + 1) s.elems (kid_ids (suc h) s)) ≡ node_words =
        length-node_block (size (suc h) s + 1) s.elems (kid_ids (suc h) s) O.fit.most (most_kids (suc h) s O.fit) in
        let W = wrote_same (L.id ∙ i.here) b (wrote (e counts) counts.node.stored.inside m) in
        record {
          grew = rw (L.insert x) (reshaped_both M.grew L.same.nodes (kid_reshaped O c l s.elems inner.grew inserted.nodes W));
          taken = took;
        }

-- ---- the same by the levels as the code has them: the call is made at l

abbrev pub BelowDone : List ℕ → List ℕ → ℕ → ℕ → ℕ → ℕ → ℕ → Type 0
BelowDone w w' levels id index x n = (q : InsertReady w levels id index) → InsertsBelow w w' levels q.tree q.free index x n

abbrev RoomMade : List ℕ → List ℕ → ℕ → ℕ → Entry → Type 0
RoomMade w w' id index r = (q : RoomReady w id index) → MakesRoom w w' q.height q.ready.tree q.ready.free index r

module _ {w : List ℕ} {id index : ℕ} where
  pub as_leaf : (levels : ℕ) → levels ≡ 0 → InsertReady w levels id index → HasRoom w id index
  as_leaf zero e i = leaf_takes i
  as_leaf (suc h) e i = absurd (omega arith)

  pub leaf-done : (levels : ℕ) → levels ≡ 0 → (w' : List ℕ) (x : ℕ) → ((s : HasRoom w id index)
      → w' ≡ with_block w id (node_block (s.node.size + 1) (insert_at s.node.elems index x) s.node.kids))
      → BelowDone w w' levels id index x 0
  leaf-done zero e w' x d i = leaf_inserted i x d
  leaf-done (suc h) e w' x d i = absurd (omega arith)

  pub as_room : (levels : ℕ) → levels ≢ 0 → InsertReady w levels id index → RoomReady w id index
  as_room zero n i = absurd (n refl)
  as_room (suc h) n i = record { height = h; ready = i }

  module _ (w₁ : List ℕ) (r : Entry) (M : RoomMade w w₁ id index r) where
    abbrev made : {h : ℕ} (i : InsertReady w (suc h) id index) → MakesRoom w w₁ h i.tree i.free index r
    made {h} i = M (record { height = h; ready = i })

    pub as_next : (levels l : ℕ) → levels ≡ suc l → InsertReady w levels id index → InsertReady w₁ l r.id r.sub
    as_next zero l e i = absurd (omega arith)
    as_next (suc h) l e i =
        let q : h ≡ l = omega arith in
        subst (λ (n : ℕ). InsertReady w₁ n r.id r.sub) q (next i r (made i))

    module _ (w₂ : List ℕ) (x n : ℕ) where
      abbrev at_height : {h l : ℕ} → suc h ≡ suc l → BelowDone w₁ w₂ l r.id r.sub x n → BelowDone w₁ w₂ h r.id r.sub x n
      at_height {h} {l} e C = let q : l ≡ h = omega arith in subst (λ (m : ℕ). BelowDone w₁ w₂ m r.id r.sub x n) q C

      pub as_counts : (levels l : ℕ) → levels ≡ suc l → BelowDone w₁ w₂ l r.id r.sub x n → InsertReady w levels id index → Counts w₂ id
      as_counts zero l e C i = absurd (omega arith)
      as_counts (suc h) l e C i = counts i r (made i) w₂ x n (at_height e C)

      pub as_few : (levels l : ℕ) → levels ≡ suc l → BelowDone w₁ w₂ l r.id r.sub x n → InsertReady w levels id index
          → r.taken + n ≤ levels
      as_few zero l e C i = absurd (omega arith)
      as_few (suc h) l e C i = omega (arith, took i r (made i) w₂ x n (at_height e C), needed-below_lem (suc h) i.tree index)

      pub all_done : (levels l : ℕ) → levels ≡ suc l → BelowDone w₁ w₂ l r.id r.sub x n → (w₃ : List ℕ) → ((s : Counts w₂ id)
          → w₃ ≡ with_block w₂ id (node_block (s.node.size + 1) s.node.elems s.node.kids))
          → BelowDone w w₃ levels id index x (r.taken + n)
      all_done zero l e C w₃ d i = absurd (omega arith)
      all_done (suc h) l e C w₃ d i = done i r (made i) w₂ x n (at_height e C) w₃ d
