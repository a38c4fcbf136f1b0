-- Merge and the two borrows: what each step asks, and the tree that stands in the end.
use mathlib.Core.Path.{◌≡◌, refl, sym, ap, ◌∙◌}
use mathlib.Core.List.{List, [], ◌∷◌, ◌++◌, map}
use mathlib.Core.Logic.{◌≢◌}
use Prim.Native.Nat.{ℕ, suc, ◌+◌, ◌-◌, ◌^◌, ◌≤◌, ◌<◌}
use native.Mathlib.Omega.{arith}
use lib.ListN.{length, get_or, set, length-append, get_or-map}
use Rattle.lists.specs.Lists.{count, remove_at, last, but_last}
use Rattle.lists.proofs.All.{All, nil, cons, all_append, all_take, all_drop}
use Rattle.lists.proofs.Counts.{count-append, one_other}
use Rattle.model.specs.Tree.{Tree, kid, none, size}
use Rattle.model.specs.Remove.{joined, merge, with_pair, gave_last, took_front, gave_first, took_back, borrow_left, borrow_right}
use Rattle.model.proofs.Fill.{merge_law, borrow_left_law, borrow_right_law}
use Rattle.pool.specs.Layout.{chain_word, node_words, with_block, node_block, id_of, kid_ids, root_block}
use Rattle.pool.specs.Parts.{Inside, Stored, ChainAt, count_at, kid_at}
use Rattle.pool.specs.Frame.{Untouched}
use Rattle.chain.specs.Chain.{Gave}
use Rattle.pool.proofs.Frame.{stored_untouched, untouched_both, Wrote, wrote, stored_same}
use Rattle.pool.proofs.Blocks.{length-node_block, length-root_block}
use Rattle.tree.specs.Stands.{Owns, Reshaped}
use Rattle.tree.proofs.Edits.{KidAt, tree_at_lem}
use Rattle.pieces.specs.declared.Piece.{Piece}
use Rattle.pieces.specs.declared.Spot.{Spot}
use Rattle.repair.specs.Ready.{PairReady, Few, LeftLends, RightLends}
use Rattle.pieces.specs.Pieces.{Takes, TookOut, Joins, length_or, Lends, Lent}
use Rattle.repair.proofs.Ends.{seats, seats_length, In, seated, slot_inside, leaf-slots, join_block}
use Rattle.repair.proofs.Ends.{last_less, last-given, front_taken, first_less, first_given, back_taken}
use Rattle.pieces.proofs.Lending.{seated_kept}
use Rattle.repair.proofs.Pairing.{pair_is, pair_count, Pair, top_in, left_in, right_in, pair_sizes, pair_ids, merged_ids}
use Rattle.repair.proofs.Pairing.{left_below, right_below, left_right, right_in_use, left_kids, right_kids, pair_chain, pair_rebuilt}

pub root_is : (h : ℕ) (t : Tree (suc h)) → root_block (suc h) t ≡ node_block (size (suc h) t) t.elems (map (id_of h) t.kids)
unfolding root_block kid_ids
root_is h t = refl

count-three : (k x y z : ℕ) → count k (x ∷ (y ∷ (z ∷ []))) ≡ count k (x ∷ []) + (count k (y ∷ []) + count k (z ∷ []))
count-three k x y z = omega (arith, count-append k (x ∷ []) (y ∷ (z ∷ [])), count-append k (y ∷ []) (z ∷ []))

-- ---- merge, in the order of the code

module _ {w : List ℕ} {id c : ℕ} (s : PairReady Few w id c) (l : ℕ) (hl : l ≡ kid_at w id c) where
  abbrev h : ℕ
  h = s.height

  abbrev t : Tree (suc h)
  t = s.tree

  abbrev O : Owns w (suc h) t s.free
  O = s.owns

  abbrev A : Tree h
  A = kid h t c

  abbrev B : Tree h
  B = kid h t (c + 1)

  -- the separator, and the child behind it
  abbrev pub pair_spot : Spot
  pair_spot = record { node = id; elem = c; kid = c + 1 }

  pub merge-take : Takes w pair_spot 0
  merge-take = record {
    seated = seated (record { id = s.here; at = O.at; fit = O.fit });
    elem = s.place;
    kid = omega (arith, s.place);
    less = omega arith;
  }

  module _ (p : Piece) (w₁ : List ℕ) (took : (q : Takes w pair_spot 0) → TookOut w w₁ pair_spot 0 q.seated.node p) where
    Q : Pair w h t s.free c id l p.kid
    unfolding merge-take seats
    Q = record {
      owns = O;
      place = s.place;
      top = s.here;
      left = pair_is s c (omega arith) l hl;
      right = sym ((took merge-take).kid ∙ get_or-map (id_of h) t.kids (c + 1) (none h));
    }

    -- the node itself, without the separator and the right child
    one : Wrote w w₁ id (root_block (suc h) (merge h t c))
    unfolding merge-take merge seats
    one =
        let M = merge_law h t O.fit c s.place s.counts s.free in
        let size_is : size (suc h) t - 0 ≡ size (suc h) t = omega arith in
        let is : node_block (size (suc h) t - 0) (remove_at t.elems c) (remove_at (map (id_of h) t.kids) (c + 1)) ≡ root_block (suc h) (merge h t c) =
        rw (size_is, root_is h (merge h t c), M.sized, merged_ids Q (joined A (get_or t.elems c 0) B) Q.left) refl in
        wrote ((took merge-take).words ∙ ap (with_block w id) is) (rw s.here at O.at.here.inside) (length-root_block (suc h) (merge h t c) M.fit)

    pub merge-append : Joins w₁ l p.kid
    merge-append = record {
      left = seated_kept one.untouched (one_other l id (left_below Q)) (seated (left_in Q));
      right = seated_kept one.untouched (one_other p.kid id (right_below Q)) (seated (right_in Q));
      apart = left_right Q;
      room = s.counts;
      small = omega (arith, pair_sizes Q, O.small);
    }

    module _ (w₂ : List ℕ)
        (appended : (q : Joins w₁ l p.kid) → w₂ ≡ with_block w₁ l (node_block (q.left.node.size + q.right.node.size + 1)
        (q.left.node.elems ++ (p.elem ∷ q.right.node.elems)) (q.left.node.kids ++ q.right.node.kids))) where
      two : Wrote w₁ w₂ l (root_block h (joined A (get_or t.elems c 0) B))
      unfolding merge-append merge-take
      two =
          let x : ℕ = get_or t.elems c 0 in
          let is = join_block h A x B s.counts in
          let few = s.counts in
          let long : length (root_block h (joined A x B)) ≡ node_words =
          rw is (length-node_block (size h A + size h B + 1) (A.elems ++ (x ∷ B.elems)) (seats h A ++ seats h B)
          (omega (arith, length-append A.elems (x ∷ B.elems)))
          (omega (arith, length-append (seats h A) (seats h B), seats_length h A (left_in Q).fit, seats_length h B (right_in Q).fit))) in
          wrote (appended merge-append ∙ rw (took merge-take).elem (ap (with_block w₁ l) (sym is))) merge-append.left.node.stored.inside long

      pub merge-give : Inside w₂ p.kid
      merge-give = (stored_untouched two.untouched (one_other p.kid l (λ q. left_right Q (sym q))) merge-append.right.node.stored).inside

      pub merged : (w₃ : List ℕ) → ((f : List ℕ) → ChainAt w₂ f → count p.kid f ≡ 0 → Gave w₂ f p.kid w₃)
          → Reshaped w w₃ (suc h) t s.free (merge h t c) (B.id ∷ s.free)
      unfolding merge
      merged w₃ gave =
          let r : ℕ = p.kid in
          let both = untouched_both one.untouched two.untouched in
          let G = gave s.free (pair_chain Q both (λ k. omega (arith, count-append k (id ∷ []) (l ∷ [])))
          (two.chain ∙ one.chain)) (right_in_use Q) in
          let U : Untouched w w₃ (id ∷ (l ∷ (r ∷ []))) = untouched_both both G.untouched in
          let three : (k : ℕ) → count k (id ∷ (l ∷ (r ∷ []))) ≤ count k (id ∷ []) + (count k (l ∷ []) + count k (r ∷ [])) =
          (λ k. omega (arith, count-three k id l r)) in
          let J : Tree h = joined A (get_or t.elems c 0) B in
          let top = stored_untouched G.untouched (one_other id r (λ q. right_below Q (sym q)))
          (stored_untouched two.untouched (one_other id l (λ q. left_below Q (sym q))) one.stored) in
          let J-at = tree_at_lem h J Q.left refl (stored_untouched G.untouched (one_other l r (left_right Q)) two.stored)
          (all_append (left_kids Q U three) (right_kids Q U three)) in
          rw Q.right
          (pair_rebuilt Q U three (J ∷ []) (merge h t c) (r ∷ s.free) refl (stored_same s.here refl top) (cons J-at nil) G.chain)

-- ---- a piece goes from one of the pair to the other

-- the pair in its new shape, with x between
module _ {w : List ℕ} {h : ℕ} {t : Tree (suc h)} {f : List ℕ} {c i l r : ℕ} (Q : Pair w h t f c i l r) {w' own : List ℕ} (U : Untouched w w' own)
    (three : (k : ℕ) → count k own ≤ count k (i ∷ []) + (count k (l ∷ []) + count k (r ∷ [])))
    (q : get_or w' chain_word 0 ≡ get_or w chain_word 0) where
  exchanged : (a b : Tree h) (x : ℕ) → a.id ≡ l → b.id ≡ r → size (suc h) (with_pair h t c a x b) ≡ size (suc h) t
      → Stored w' l (root_block h a) → Stored w' r (root_block h b)
      → Stored w' i (node_block (size (suc h) t) (set t.elems c x) (seats (suc h) t))
      → All (KidAt w' h) a.kids → All (KidAt w' h) b.kids → Reshaped w w' (suc h) t f (with_pair h t c a x b) f
  unfolding seats
  exchanged a b x ea eb z S T R K L =
      let is : root_block (suc h) (with_pair h t c a x b) ≡ node_block (size (suc h) t) (set t.elems c x) (map (id_of h) t.kids) =
      rw (root_is h (with_pair h t c a x b), z, pair_ids Q a b ea eb) refl in
      pair_rebuilt Q U three (a ∷ (b ∷ [])) (with_pair h t c a x b) f refl (stored_same Q.top (sym is) R)
      (cons (tree_at_lem h a ea refl S K) (cons (tree_at_lem h b eb refl T L) nil)) (pair_chain Q U three q)

-- one of them, x in node k, lends to y in node j
lends_of : {w : List ℕ} {h id c k j : ℕ} {t : Tree (suc h)} {x y : Tree h} (T : In w (suc h) t id) (X : In w h x k) (Y : In w h y j)
    → c < length t.elems → k ≢ id → j ≢ id → k ≢ j → size h x + size h y < 2 ^ 32 → (i p a b : ℕ) → i < length x.elems
    → p ≤ length x.elems → length_or w (get_or (seats h x) p 0) < size h x → a ≤ length y.elems → b ≤ length y.elems + 1
    → length y.elems ≤ 30 → Lends w id c (record { node = k; elem = i; kid = p }) (record { node = j; elem = a; kid = b })
lends_of {h = h} {x = x} {y = y} T X Y place u v n few i p a b li lp less la lb room = record {
  parent = record { node = (seated T).node; below = place };
  lender = record { seated = seated X; place = lp; inside = slot_inside h x X.at X.fit p lp };
  taker = seated Y;
  from_below = u;
  to_below = v;
  apart = n;
  elem = li;
  less = less;
  new_elem = la;
  new_kid = lb;
  alike = λ e. leaf-slots h x X.at X.fit p lp e y 0 (omega arith);
  room = room;
  small = omega arith;
}

-- what is read for either borrow
module _ {P : ℕ → ℕ → Type 0} {w : List ℕ} {id c : ℕ} (s : PairReady P w id c) (l r : ℕ)
    (hl : l ≡ kid_at w id c)
    (hr : r ≡ kid_at w id (c + 1)) where
  pair : Pair w s.height s.tree s.free c id l r
  pair = record { owns = s.owns; place = s.place; top = s.here; left = pair_is s c (omega arith) l hl; right = pair_is s (c + 1) (omega arith) r hr }

-- Spots are the same where their numbers are, so that an end that differs is told by a number.
pub same_spot : {s t : Spot} → s.node ≡ t.node → s.elem ≡ t.elem → s.kid ≡ t.kid → s ≡ t
same_spot {s} {t} e f g = rw (e, f, g) refl

-- the ends, where the left child has m elements
abbrev last_of : ℕ → ℕ → Spot
last_of l m = record { node = l; elem = m - 1; kid = m }

abbrev back_of : ℕ → ℕ → Spot
back_of l m = record { node = l; elem = m; kid = m + 1 }

abbrev front_of : ℕ → Spot
front_of r = record { node = r; elem = 0; kid = 0 }

module _ {w : List ℕ} {id c : ℕ} (l r m : ℕ)
    (hl : l ≡ kid_at w id c)
    (hr : r ≡ kid_at w id (c + 1)) (em : m ≡ count_at w l) (from to : Spot) where
  -- the left child lends
  module _ (ef : from ≡ last_of l m) (et : to ≡ front_of r) (s : PairReady LeftLends w id c) where
    abbrev h_l : ℕ
    h_l = s.height

    abbrev AL : Tree h_l
    AL = kid h_l s.tree c

    abbrev BL : Tree h_l
    BL = kid h_l s.tree (c + 1)

    QL : Pair w h_l s.tree s.free c id l r
    QL = pair s l r hl hr

    some_l : 0 < length AL.elems
    some_l = omega (arith, s.counts)

    lends_l : Lends w id c (last_of l (length AL.elems)) (front_of r)
    lends_l =
        lends_of (top_in QL) (left_in QL) (right_in QL) s.place (left_below QL) (right_below QL) (left_right QL)
        (omega (arith, pair_sizes QL, s.owns.small)) (length AL.elems - 1) (length AL.elems) 0 0 (omega (arith, some_l)) (omega arith)
        (last_less (left_in QL) some_l) (omega arith) (omega arith) s.counts.1

    pub left_lends : Lends w id c from to
    left_lends = rw (ef, et, pair_count s c (omega arith) l hl m em) lends_l

    pub left_lent : (w' : List ℕ)
        → ((q : Lends w id c from to) → Lent w w' id c from to q.lender.seated.node q.parent.node q.taker.node)
        → Reshaped w w' (suc h_l) s.tree s.free (borrow_left h_l s.tree c) s.free
    unfolding lends_l lends_of borrow_left last but_last
    left_lent w' lent =
        let L = (rw (ef, et, pair_count s c (omega arith) l hl m em) at lent) lends_l in
        let e : ℕ = get_or s.tree.elems c 0 in
        let U = L.untouched in
        let three : (k : ℕ) → count k (l ∷ (id ∷ (r ∷ []))) ≤ count k (id ∷ []) + (count k (l ∷ []) + count k (r ∷ [])) =
        (λ k. omega (arith, count-three k l id r)) in
        exchanged QL U three L.chain (gave_last AL) (took_front AL e BL) (last AL.elems 0) QL.left QL.right
        (borrow_left_law h_l s.tree s.owns.fit c s.place s.counts.0 s.counts.1 s.free).sized
        (rw (last-given (left_in QL) some_l) L.lender) (rw (front_taken (left_in QL) some_l e BL s.counts.1) L.taker) L.parent
        (all_take (length AL.kids - 1) (left_kids QL U three))
        (all_append (all_drop (length AL.kids - 1) (left_kids QL U three)) (right_kids QL U three))

  -- the right child lends
  module _ (ef : from ≡ front_of r) (et : to ≡ back_of l m) (s : PairReady RightLends w id c) where
    abbrev h_r : ℕ
    h_r = s.height

    abbrev AR : Tree h_r
    AR = kid h_r s.tree c

    abbrev BR : Tree h_r
    BR = kid h_r s.tree (c + 1)

    QR : Pair w h_r s.tree s.free c id l r
    QR = pair s l r hl hr

    some_r : 0 < length BR.elems
    some_r = omega (arith, s.counts)

    lends_r : Lends w id c (front_of r) (back_of l (length AR.elems))
    lends_r =
        lends_of (top_in QR) (right_in QR) (left_in QR) s.place (right_below QR) (left_below QR) (λ q. left_right QR (sym q))
        (omega (arith, pair_sizes QR, s.owns.small)) 0 0 (length AR.elems) (length AR.elems + 1) some_r (omega arith)
        (first_less (right_in QR) some_r) (omega arith) (omega arith) s.counts.0

    pub right_lends : Lends w id c from to
    right_lends = rw (ef, et, pair_count s c (omega arith) l hl m em) lends_r

    pub right_lent : (w' : List ℕ)
        → ((q : Lends w id c from to) → Lent w w' id c from to q.lender.seated.node q.parent.node q.taker.node)
        → Reshaped w w' (suc h_r) s.tree s.free (borrow_right h_r s.tree c) s.free
    unfolding lends_r lends_of borrow_right
    right_lent w' lent =
        let L = (rw (ef, et, pair_count s c (omega arith) l hl m em) at lent) lends_r in
        let e : ℕ = get_or s.tree.elems c 0 in
        let U = L.untouched in
        let three : (k : ℕ) → count k (r ∷ (id ∷ (l ∷ []))) ≤ count k (id ∷ []) + (count k (l ∷ []) + count k (r ∷ [])) =
        (λ k. omega (arith, count-three k r id l)) in
        exchanged QR U three L.chain (took_back AR e BR) (gave_first BR) (get_or BR.elems 0 0) QR.left QR.right
        (borrow_right_law h_r s.tree s.owns.fit c s.place s.counts.0 s.counts.1 s.free).sized
        (rw (back_taken (right_in QR) some_r AR e (left_in QR).fit s.counts.0) L.taker) (rw (first_given (right_in QR) some_r) L.lender) L.parent
        (all_append (left_kids QR U three) (all_take 1 (right_kids QR U three))) (all_drop 1 (right_kids QR U three))
