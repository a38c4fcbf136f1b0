-- The way up through a node after the removal below it, and all levels together.
use mathlib.Core.Path.{◌≡◌, refl, sym, ap, subst, ◌∙◌}
use Rattle.std.specs.Prelude.{Option, Some, None}
use mathlib.Core.List.{List}
use mathlib.Core.Logic.{◌≢◌}
use Prim.Native.Nat.{ℕ, zero, suc, ◌+◌, ◌-◌, ◌≤◌, ◌<◌}
use native.Mathlib.Omega.{arith}
use lib.ListN.{length, get_or, set, length-set}
use lib.Seq.{map-set_same}
use Rattle.lists.specs.Lists.{sum, remove_at}
use Rattle.lists.proofs.Sums.{total_set}
use Rattle.lists.proofs.Edits.{length-remove_at}
use Rattle.model.specs.Tree.{Tree, none, size, ids, flat}
use Rattle.model.specs.Fit.{Fit}
use Rattle.model.specs.Remove.{Shrunk, remove}
use Rattle.model.proofs.Nodes.{flat-length}
use Rattle.model.proofs.Remove.{Removed, remove_law}
use Rattle.pool.specs.Layout.{node_words, start, with_block, node_block, id_of, root_block}
use Rattle.pool.proofs.Blocks.{length-node_block, length-root_block}
use Rattle.pool.proofs.Store.{set-block, with_block_again}
use Rattle.pool.proofs.Frame.{Wrote, wrote, wrote_same}
use Rattle.tree.specs.Node.{Node}
use Rattle.tree.specs.Lookup.{HasElement, Swapped}
use Rattle.tree.specs.Stands.{Owns}
use Rattle.tree.proofs.Standing.{length_word}
use Rattle.tree.proofs.Edits.{node_untouched, root_reshaped, owns_kid, root_apart, kid_reshaped, owns_after, reshaped_both}
use Rattle.pieces.specs.declared.Piece.{Piece}
use Rattle.pieces.specs.declared.Spot.{Spot}
use Rattle.pieces.specs.Pieces.{Takes, TookOut}
use Rattle.repair.proofs.Ends.{seats, In, seated, leaf-block}
use Rattle.repair.proofs.Moves.{root_is}
use Rattle.removal.specs.declared.Descent.{Descent}
use Rattle.removal.specs.declared.Cut.{Cut}
use Rattle.removal.specs.Ready.{RemoveReady, Removes}
use Rattle.removal.specs.Down.{Descended, descend, swapped_in, given_back, DownReady, Went, UpReady, Up}
use Rattle.removal.proofs.Descending.{raised, goal, remove_raised, Descends, descends, remove_id, remove_few}

length-swapped : (o : Option ℕ) (es : List ℕ) (x : ℕ) → length (swapped_in o es x) ≡ length es
length-swapped None es x = refl
length-swapped (Some c) es x = length-set es c x

-- ---- `come_up`

module _ {w : List ℕ} {id : ℕ} {o : Option ℕ} (s : UpReady w id o) (a : ℕ) (ea : a ≡ start id) where
  abbrev m : Node w id
  m = s.node

  pub up_some : 0 < get_or w (a + 1) 0
  up_some = rw (length_word m a ea) s.some

  -- one element fewer below
  abbrev fewer : List ℕ
  fewer = set w (a + 1) (get_or w (a + 1) 0 - 1)

  abbrev less : List ℕ → List ℕ
  less es = node_block (m.size - 1) es m.kids

  long : (es : List ℕ) → length es ≡ length m.elems → length (less es) ≡ node_words
  long es e = length-node_block (m.size - 1) es m.kids (omega (arith, m.few_elems)) m.few_kids

  one : fewer ≡ with_block w id (less m.elems)
  unfolding node_block
  one = rw (length_word m a ea, ea, set-block w id m.stored.inside 1 (m.size - 1) (omega arith), m.stored.is) refl

  up : {w₂ : List ℕ} {q : Option ℕ} {x r : ℕ} → r ≡ given_back q m.elems x
      → w₂ ≡ with_block w id (less (swapped_in q m.elems x)) → o ≡ q → Up w w₂ id o x m r
  up {x = x} g ws e = record {
    given = g ∙ ap (λ (p : Option ℕ). given_back p m.elems x) (sym e);
    words = ws ∙ ap (λ (p : Option ℕ). with_block w id (less (swapped_in p m.elems x))) (sym e);
  }

  pub up_plain : o ≡ None → (x : ℕ) → Up w fewer id o x m x
  up_plain e x = up refl one e

  pub up_place : (c : ℕ) → o ≡ Some c → HasElement fewer id c
  up_place c e = record {
    node = record {
      size = m.size - 1;
      elems = m.elems;
      kids = m.kids;
      stored = (wrote one m.stored.inside (long m.elems refl)).stored;
      few_elems = m.few_elems;
      few_kids = m.few_kids;
    };
    below = s.place c e;
  }

  pub up_swapped : (c : ℕ) (e : o ≡ Some c) (x old : ℕ) (w₂ : List ℕ)
      → ((q : HasElement fewer id c) → Swapped fewer w₂ id c x q.node old) → Up w w₂ id o x m old
  unfolding up_place
  up_swapped c e x old w₂ f =
      let q = f (up_place c e) in
      let es : List ℕ = set m.elems c x in
      up q.given
      (q.words ∙ ap (λ (u : List ℕ). with_block u id (less es)) one
      ∙ with_block_again w id (less m.elems) (long m.elems refl) (less es) (long es (length-set m.elems c x)))
      e

-- ---- a leaf

-- an element of it, and the child slot with the same number
abbrev pub leaf_spot : ℕ → ℕ → Spot
leaf_spot id index = record { node = id; elem = index; kid = index }

module _ {w : List ℕ} {id index : ℕ} (q : RemoveReady w 0 id index) where
  leaf_in : In w 0 q.tree id
  leaf_in = record { id = q.here; at = q.owns.at; fit = q.owns.fit }

  leaf-take : Takes w (leaf_spot id index) 1
  unfolding size
  leaf-take = record { seated = seated leaf_in; elem = q.below; kid = omega (arith, q.below); less = q.some }

  leaf_cut : (p : Piece) (w₁ : List ℕ) → ((s : Takes w (leaf_spot id index) 1) → TookOut w w₁ (leaf_spot id index) 1 s.seated.node p)
      → Removes w w₁ 0 q.tree q.free (remove 0 q.tree index q.free) (record { old = p.elem; freed = 0 })
  unfolding leaf-take size remove ids
  leaf_cut p w₁ took =
      let t = q.tree in
      let T = took leaf-take in
      let few = q.owns.fit.most in
      let s : Tree 0 = record { id = t.id; elems = remove_at t.elems index; kids = t.kids } in
      let n = length-remove_at t.elems index q.below in
      let W : Wrote w w₁ id (root_block 0 s) =
      wrote (T.words ∙ ap (with_block w id) (sym (leaf-block t index few q.below))) (seated leaf_in).node.stored.inside
      (length-root_block 0 s (record { most = omega arith })) in
      record {
        old = T.elem;
        freed = omega arith;
        reshaped = root_reshaped 0 t s.elems q.owns (wrote_same q.here refl W);
      }

-- ---- a node with children

module _ {w : List ℕ} {h id index : ℕ} (q : RemoveReady w (suc h) id index) (r : Descent) (w₁ : List ℕ)
    (went : (s : DownReady w id index) → Went w w₁ s.height s.ready.tree s.ready.free
    (descend s.height s.ready.tree index s.ready.free) r) where
  abbrev t : Tree (suc h)
  t = q.tree

  abbrev f : List ℕ
  f = q.free

  abbrev D : Descended h
  D = descend h t index f

  abbrev K : Tree h
  K = goal h D

  M : Went w w₁ h t f D r
  M = went (record { height = h; ready = q })

  L : Descends h t f D
  L = descends h t index f q.owns.fit q.some q.below

  O : Owns w₁ (suc h) D.node D.free
  O = owns_after q.owns M.reshaped L.same

  KF : Fit h K
  KF = (L.same.fit.each D.child L.child).fit

  KS : 0 < length K.elems
  KS = omega (arith, L.full)

  here : D.node.id ≡ id
  here = L.here ∙ q.here

  next : RemoveReady w₁ h r.id r.index
  next = record {
    tree = K;
    free = D.free;
    owns = owns_kid O D.child L.child;
    here = sym M.id;
    some = KS;
    below = rw M.index L.below;
  }

  module _ (b : Cut) (w₂ : List ℕ)
      (cut : (s : RemoveReady w₁ h r.id r.index) → Removes w₁ w₂ h s.tree s.free (remove h s.tree r.index s.free) b) where
    abbrev R : Shrunk (Tree h)
    R = remove h K D.sub D.free

    C : Removes w₁ w₂ h K D.free R b
    unfolding next
    C = subst (λ (j : ℕ). Removes w₁ w₂ h K D.free (remove h K j D.free) b) M.index (cut next)

    law : Removed h K D.sub D.free R
    law = remove_law h K D.sub D.free KF KS L.below

    abbrev top : Node w₁ id
    top = (seated (record { id = here; at = O.at; fit = O.fit })).node

    up_ready : UpReady w₂ id r.swaps
    up_ready = record {
      node = node_untouched C.reshaped.untouched (root_apart O D.child L.child id here) top;
      some = omega (arith, L.same.sized, q.below);
      place = λ c e. omega (arith, L.place c (sym M.swaps ∙ e));
    }

    freed_few : r.freed + b.freed ≤ suc h
    freed_few =
        omega (
          arith,
          M.freed,
          L.few,
          C.freed,
          remove_few h K D.sub D.free KF KS L.below,
        )

    -- the tree that stands then
    s : Tree (suc h)
    s = (raised h D R).tree

    shorter : size (suc h) s + 1 ≡ size (suc h) D.node
    unfolding s size sum
    shorter =
        let e = length-swapped D.swaps D.node.elems R.old in
        let k : size h R.tree + 1 ≡ size h K =
        omega (
          arith,
          flat-length h R.tree law.fit,
          flat-length h K KF,
          ap length law.list,
          length-remove_at (flat h K) D.sub (omega (arith, flat-length h K KF, L.below)),
        ) in
        omega (arith, e, k, total_set (size h) D.node.kids D.child (none h) R.tree L.child)

    removed : (old : ℕ) (w₃ : List ℕ) → ((u : UpReady w₂ id r.swaps) → Up w₂ w₃ id r.swaps b.old u.node old)
        → Removes w w₃ (suc h) t f (remove (suc h) t index f) (record { old = old; freed = r.freed + b.freed })
    unfolding up_ready s seats
    removed old w₃ up =
        let P = up up_ready in
        let X : List ℕ = root_block (suc h) s in
        let one_less : size (suc h) D.node - 1 ≡ size (suc h) s = omega (arith, shorter) in
        let is : node_block (size (suc h) D.node - 1) (swapped_in r.swaps D.node.elems b.old)
        (seats (suc h) D.node) ≡ X =
        rw (
          root_is h s,
          one_less,
          M.swaps,
          C.old,
          map-set_same (id_of h) D.node.kids D.child R.tree (none h) (remove_id h K D.sub D.free KF KS L.below),
        ) refl in
        let F : Fit (suc h) s = rw (remove_raised h t index f) at (remove_law (suc h) t index f q.owns.fit q.some q.below).fit in
        let W = wrote_same here refl (wrote (P.words ∙ ap (with_block w₂ id) is) up_ready.node.stored.inside (length-root_block (suc h) s F)) in
        rw (remove_raised h t index f) (record {
          old = P.given ∙ rw (M.swaps, C.old) refl;
          freed = omega (arith, M.freed, C.freed);
          reshaped = reshaped_both M.reshaped L.same.nodes (kid_reshaped O D.child L.child s.elems C.reshaped law.nodes W);
        })

-- ---- the same at any number of levels

-- what the calls ensure
abbrev WentDown : List ℕ → List ℕ → ℕ → ℕ → Descent → Type 0
WentDown w w₁ id index r =
    (s : DownReady w id index) → Went w w₁ s.height s.ready.tree s.ready.free (descend s.height s.ready.tree index s.ready.free) r

abbrev CutOut : List ℕ → List ℕ → ℕ → ℕ → ℕ → Cut → Type 0
CutOut w w' levels id index b =
    (s : RemoveReady w levels id index) → Removes w w' levels s.tree s.free (remove levels s.tree index s.free) b

module _ {w : List ℕ} {id index : ℕ} where
  pub at_leaf : (levels : ℕ) → levels ≡ 0 → RemoveReady w levels id index → Takes w (leaf_spot id index) 1
  at_leaf zero e q = leaf-take q
  at_leaf (suc h) e q = absurd (omega arith)

  pub cut_leaf : (levels : ℕ) → levels ≡ 0 → (p : Piece) (w₁ : List ℕ) →
      ((s : Takes w (leaf_spot id index) 1) → TookOut w w₁ (leaf_spot id index) 1 s.seated.node p)
      → CutOut w w₁ levels id index (record { old = p.elem; freed = 0 })
  cut_leaf zero e p w₁ took q = leaf_cut q p w₁ took
  cut_leaf (suc h) e p w₁ took q = absurd (omega arith)

  pub to_go : (levels : ℕ) → levels ≢ 0 → RemoveReady w levels id index → DownReady w id index
  to_go zero n q = absurd (n refl)
  to_go (suc h) n q = record { height = h; ready = q }

  module _ (r : Descent) (w₁ : List ℕ) (went : WentDown w w₁ id index r) where
    pub to_remove : (levels l : ℕ) → levels ≡ suc l → RemoveReady w levels id index → RemoveReady w₁ l r.id r.index
    to_remove zero l e q = absurd (omega arith)
    to_remove (suc h) l e q =
        let n : h ≡ l = omega arith in
        subst (λ n. RemoveReady w₁ n r.id r.index) n (next q r w₁ went)

    -- the way up can be gone, the sum fits, and then all is done
    pub record Back (levels : ℕ) (b : Cut) (w₂ : List ℕ) : Type 0 where
      pub ready : UpReady w₂ id r.swaps
      pub few : r.freed + b.freed ≤ levels

    pub to_rise : (levels l : ℕ) → levels ≡ suc l → (b : Cut) (w₂ : List ℕ) → CutOut w₁ w₂ l r.id r.index b
        → RemoveReady w levels id index
        → Back levels b w₂
    to_rise zero l e b w₂ cut q = absurd (omega arith)
    to_rise (suc h) l e b w₂ cut q =
        let n : l ≡ h = omega arith in
        let c : CutOut w₁ w₂ h r.id r.index b = subst (λ n. CutOut w₁ w₂ n r.id r.index b) n cut in
        record { ready = up_ready q r w₁ went b w₂ c; few = freed_few q r w₁ went b w₂ c }

    pub cut_below : (levels l : ℕ) → levels ≡ suc l → (b : Cut) (w₂ : List ℕ) → CutOut w₁ w₂ l r.id r.index b
        → (old : ℕ) (w₃ : List ℕ) → ((u : UpReady w₂ id r.swaps) → Up w₂ w₃ id r.swaps b.old u.node old)
        → CutOut w w₃ levels id index (record { old = old; freed = r.freed + b.freed })
    cut_below zero l e b w₂ cut old w₃ up q = absurd (omega arith)
    cut_below (suc h) l e b w₂ cut old w₃ up q =
        let n : l ≡ h = omega arith in
        removed q r w₁ went b w₂ (subst (λ n. CutOut w₁ w₂ n r.id r.index b) n cut) old w₃ up
