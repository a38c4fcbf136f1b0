-- A full child is split: what each step of the code asks, and the tree that stands in the end.
use mathlib.Core.Path.{◌≡◌, refl, sym, ap, ap₂, subst, ◌∙◌}
use mathlib.Core.List.{List, [], ◌∷◌, map-append, append_assoc}
use Prim.Native.Nat.{ℕ, zero, suc, ◌+◌, ◌≤◌, ◌<◌}
use native.Mathlib.Numerals.{add-one}
use native.Mathlib.Omega.{arith}
use lib.ListN.{length, get_or, take, drop, length-take, length-drop}
use lib.Seq.{take-suc}
use Rattle.lists.specs.Lists.{count, insert_at}
use Rattle.lists.proofs.All.{nil, cons, all_take, all_drop}
use Rattle.lists.proofs.Counts.{count_self, count_first, one_same}
use Rattle.lists.proofs.Edits.{length-insert_at, map-take, map-drop}
use Rattle.lists.proofs.Sums.{total, total_at}
use Rattle.model.specs.Tree.{Tree, kid, none, size, find, before}
use Rattle.model.specs.Fit.{Fit}
use Rattle.model.specs.Insert.{left_half, right_half, split_child}
use Rattle.model.proofs.Nodes.{held, held_id, kids_held, Rearranged, parts_held}
use Rattle.model.proofs.Find.{place, found}
use Rattle.model.proofs.Split.{split_law}
use Rattle.pool.specs.Layout.{with_block, node_block, id_of, kid_ids, root_block}
use Rattle.pool.specs.Parts.{At, length_at, kid_at}
use Rattle.pool.specs.Frame.{Untouched}
use Rattle.chain.specs.Chain.{Free, Took}
use Rattle.pool.proofs.Blocks.{length-node_block, most_kids}
use Rattle.pool.proofs.Frame.{stored_untouched, chain_untouched, untouched_both, Wrote, wrote, stored_same}
use Rattle.tree.specs.Node.{Node}
use Rattle.tree.specs.Lookup.{HasElement}
use Rattle.tree.specs.Stands.{Owns, Reshaped}
use Rattle.tree.proofs.Standing.{node_of}
use Rattle.tree.proofs.Edits.{each_kid, tree_at_lem, node_untouched, kids_untouched, kids_reshaped, owns_kid, kid-count, child_is}
use Rattle.split.specs.Nodes.{HasKidRoom, Summed, Full, Moves}
use Rattle.split.specs.Ready.{SplitReady}
use Rattle.split.proofs.Halves.{left_length, right_length, summed}

-- ---- the model: any full child may be split, its right half into the first free node

split_same : (h : ℕ) (t : Tree (suc h)) → Fit (suc h) t → length t.elems < 31 → (c : ℕ) → c < length t.kids
    → length (kid h t c).elems ≡ 31 → (f : List ℕ) → 0 < length f → Rearranged (suc h) t f (split_child h t c (get_or f 0 0)) (drop 1 f)
unfolding size before
split_same h t F r c l full [] m = absurd (omega arith)
split_same h t F r c l full (a ∷ f) m =
    let i : ℕ = before h t c in
    let e : find h t i ≡ place c 0 = found h t i c 0 l (omega arith) (omega arith) in
    rw e at (split_law h t F r i a f (omega (arith, F.one_more, total_at (size h) t.kids c (none h) l)) (rw e full)).same

module _ (h : ℕ) (t : Tree (suc h)) (c n : ℕ) (l : c < length t.kids) where
  split_ids : kid_ids (suc h) (split_child h t c n) ≡ insert_at (kid_ids (suc h) t) (c + 1) n
  unfolding kid_ids split_child insert_at
  split_ids =
      let f : Tree h → ℕ = id_of h in
      let K : List (Tree h) = t.kids in
      let k : Tree h = kid h t c in
      rw (
        add-one c,
        map-take f (suc c) K,
        map-drop f (suc c) K,
        take-suc K c (none h) l,
        map-append f (take c K) (k ∷ []),
        map-append f (take c K) (left_half k ∷ (right_half n k ∷ drop (suc c) K)),
        append_assoc,
      ) refl

  split_elems : (split_child h t c n).elems ≡ insert_at t.elems c (get_or (kid h t c).elems 15 0)
  unfolding split_child
  split_elems = refl

  split_block : (x : ℕ) → x ≡ get_or (kid h t c).elems 15 0 → size (suc h) (split_child h t c n) ≡ size (suc h) t
      → node_block (size (suc h) t) (insert_at t.elems c x) (insert_at (kid_ids (suc h) t) (c + 1) n)
      ≡ root_block (suc h) (split_child h t c n)
  unfolding root_block
  split_block x e z = rw (split_ids, z, split_elems, e) refl

left_ids : (h : ℕ) (t : Tree h) → kid_ids h (left_half t) ≡ take 16 (kid_ids h t)
unfolding kid_ids
left_ids zero t = refl
left_ids (suc h) t = sym (map-take (id_of h) 16 t.kids)

right_ids : (h : ℕ) (k : ℕ) (t : Tree h) → kid_ids h (right_half k t) ≡ drop 16 (kid_ids h t)
unfolding kid_ids
right_ids zero k t = refl
right_ids (suc h) k t = sym (map-drop (id_of h) 16 t.kids)

half_block : (h : ℕ) (t : Tree h) (n : ℕ) (ks : List ℕ) → n ≡ size h t → kid_ids h t ≡ ks → node_block n t.elems ks ≡ root_block h t
unfolding root_block
half_block h t n ks e d = ap₂ (λ (m : ℕ) (is : List ℕ). node_block m t.elems is) e (sym d)

-- ---- the steps

module _ {w : List ℕ} {id c : ℕ} (S : SplitReady w id c) where
  abbrev h : ℕ
  h = S.height

  abbrev t : Tree (suc h)
  t = S.tree

  abbrev f : List ℕ
  f = S.free

  abbrev K : Tree h
  K = kid h t c

  pub O : Owns w h K f
  O = owns_kid S.owns c S.place

  pub has_free : Free w f
  has_free = record { chain = S.owns.chain; once = λ k. omega (arith, S.owns.once k); some = S.some }

  module _ (child : ℕ) (ec : child ≡ kid_at w id c) where
    pub is : K.id ≡ child
    is = child_is S.owns S.here S.place child ec

    abbrev node : Node w child
    node = node_of h K is O.at O.fit

    abbrev pub has_middle : HasElement w child 15
    has_middle = record { node = node; below = omega (arith, S.full) }

    abbrev pub has_summed : (from : ℕ) → from ≤ 16 → Summed w child from
    has_summed from l = summed w h K is O.at O.fit O.small from l

    module _ (sibling : ℕ) (w₁ : List ℕ) (et : (f : List ℕ) → Free w f → Took w f sibling w₁) where
      pub T : Took w f sibling w₁
      T = et f has_free

      -- the node, its children with all below them, the sibling and the other free nodes have no node twice
      once : (k : ℕ) → count k (id ∷ [])
          + (total (held h k) (take c t.kids) + (held h k K + total (held h k) (drop (suc c) t.kids)))
          + (count k (sibling ∷ []) + count k (drop 1 f)) ≤ 1
      once k =
          omega (
            arith,
            S.owns.once k,
            kids_held h k t c S.place,
            count_first k f S.some,
            one_same k S.here,
            one_same k T.first,
          )

      child_held : (k : ℕ) → count k (child ∷ []) ≤ held h k K
      child_held k = omega (arith, one_same k is, held_id h k K)

      -- neither the node nor the child is the sibling, nor are they one
      pub apart₁ : count child (sibling ∷ []) ≡ 0
      apart₁ = omega (arith, once child, child_held child, count_self child [])

      pub apart₂ : count id (child ∷ []) ≡ 0
      apart₂ = omega (arith, once id, child_held id, count_self id [])

      pub apart₃ : count id (sibling ∷ []) ≡ 0
      apart₃ = omega (arith, once id, count_self id [])

      abbrev pub moves : Moves w₁ child sibling
      moves = record { node = node_untouched T.untouched apart₁ node; full = S.full; blank = T.clean }

      module _ (r : ℕ) (w₂ : List ℕ) (e₂ : (s : Moves w₁ child sibling)
          → w₂ ≡ with_block w₁ sibling (node_block r (drop 16 s.node.elems) (drop 16 s.node.kids))) where
        abbrev right : List ℕ
        right = node_block r (drop 16 K.elems) (drop 16 (kid_ids h K))

        pub W₂ : Wrote w₁ w₂ sibling right
        W₂ =
            wrote (e₂ moves) T.clean.inside
            (length-node_block r (drop 16 K.elems) (drop 16 (kid_ids h K)) (omega (arith, length-drop 16 K.elems, S.full))
            (omega (arith, length-drop 16 (kid_ids h K), most_kids h K O.fit)))

        abbrev pub keeps : Full w₂ child
        keeps = record { node = node_untouched W₂.untouched apart₁ moves.node; full = S.full }

        module _ (l : ℕ) (w₃ : List ℕ) (e₃ : (s : Full w₂ child)
            → w₃ ≡ with_block w₂ child (node_block l (take 15 s.node.elems) (take 16 s.node.kids))) where
          abbrev left : List ℕ
          left = node_block l (take 15 K.elems) (take 16 (kid_ids h K))

          pub W₃ : Wrote w₂ w₃ child left
          W₃ =
              wrote (e₃ keeps) keeps.node.stored.inside
              (length-node_block l (take 15 K.elems) (take 16 (kid_ids h K)) (omega (arith, length-take 15 K.elems))
              (omega (arith, length-take 16 (kid_ids h K))))

          abbrev pub takes : HasKidRoom w₃ id c
          takes = record {
            node = node_untouched W₃.untouched apart₂
                (node_untouched W₂.untouched apart₃ (node_untouched T.untouched apart₃ (node_of (suc h) t S.here S.owns.at S.owns.fit)));
            place = omega (arith, S.place, S.owns.fit.one_more);
            room = S.room;
            one_more = kid-count h t ∙ S.owns.fit.one_more;
          }

          module _ (x y m : ℕ) (w₄ : List ℕ)
              (ex : (s : Summed w child 0) → x ≡ total (length_at w) (take 16 (drop 0 s.node.kids)))
              (ey : (s : Summed w child 16) → y ≡ total (length_at w) (take 16 (drop 16 s.node.kids)))
              (el : l ≡ x + 15) (er : r ≡ y + 15)
              (em : (s : HasElement w child 15) → m ≡ get_or s.node.elems 15 0)
              (e₄ : (s : HasKidRoom w₃ id c)
              → w₄ ≡ with_block w₃ id (node_block s.node.size (insert_at s.node.elems c m) (insert_at s.node.kids (c + 1) sibling)))
            where
              abbrev top : List ℕ
              top = node_block (size (suc h) t) (insert_at t.elems c m) (insert_at (kid_ids (suc h) t) (c + 1) sibling)

              W₄ : Wrote w₃ w₄ id top
              W₄ =
                  let inside : c + 1 ≤ length (kid_ids (suc h) t) = omega (arith, takes.place, takes.one_more) in
                  wrote (e₄ takes) takes.node.stored.inside
                  (length-node_block (size (suc h) t) (insert_at t.elems c m) (insert_at (kid_ids (suc h) t) (c + 1) sibling)
                  (omega (arith, S.room, length-insert_at t.elems c m takes.place))
                  (omega (arith, S.room, takes.one_more, length-insert_at (kid_ids (suc h) t) (c + 1) sibling inside)))

              abbrev own : List ℕ
              own = sibling ∷ (sibling ∷ (child ∷ (id ∷ [])))

              U₁ : Untouched w₁ w₄ (sibling ∷ (child ∷ (id ∷ [])))
              U₁ = untouched_both (untouched_both W₂.untouched W₃.untouched) W₄.untouched

              U : Untouched w w₄ own
              U = untouched_both T.untouched U₁

              counts : (k : ℕ) → count k own
                  ≡ count k (sibling ∷ []) + (count k (sibling ∷ []) + (count k (child ∷ []) + count k (id ∷ [])))
              unfolding count
              counts k = omega arith

              counts₁ : (k : ℕ) → count k (sibling ∷ []) + count k (sibling ∷ (child ∷ (id ∷ []))) ≡ count k own
              unfolding count
              counts₁ k = omega arith

              halves : (k : ℕ) → held h k K + count k (sibling ∷ []) ≡ held h k (left_half K) + held h k (right_half sibling K)
              halves k = parts_held 15 sibling h k K (omega (arith, S.full))

              long_left : l ≡ size h (left_half K)
              long_left = el ∙ ap (λ (n : ℕ). n + 15) (ex (has_summed 0 (omega arith))) ∙ left_length w h K O.at O.fit S.full

              long_right : r ≡ size h (right_half sibling K)
              long_right =
                  er ∙ ap (λ (n : ℕ). n + 15) (ey (has_summed 16 (omega arith))) ∙ right_length w h K sibling O.at O.fit S.full

              at_left : At w₄ h (left_half K)
              at_left =
                  tree_at_lem h (left_half K) is (half_block h (left_half K) l (take 16 (kid_ids h K)) long_left (left_ids h K))
                  (stored_untouched W₄.untouched (omega (arith, once child, child_held child, count_self child [])) W₃.stored)
                  (kids_untouched U h (left_half K)
                  (λ k b. omega (arith, counts k, once k, child_held k, halves k, held_id h k (right_half sibling K), one_same k is))
                  (all_take 16 (each_kid w h O.at.each)))

              at_right : At w₄ h (right_half sibling K)
              at_right =
                  let z = once sibling in
                  let d = child_held sibling in
                  let o = count_self sibling [] in
                  tree_at_lem h (right_half sibling K) refl (half_block h (right_half sibling K) r (drop 16 (kid_ids h K)) long_right (right_ids h sibling K))
                  (stored_untouched W₄.untouched (omega arith) (stored_untouched W₃.untouched (omega arith) W₂.stored))
                  (kids_untouched U h (right_half sibling K)
                  (λ k b. omega (arith, counts k, once k, child_held k, halves k, held_id h k (left_half K), one_same k is))
                  (all_drop 16 (each_kid w h O.at.each)))

              same : Rearranged (suc h) t f (split_child h t c (get_or f 0 0)) (drop 1 f)
              same = split_same h t S.owns.fit S.room c S.place S.full f S.some

              pub split_done : Reshaped w w₄ (suc h) t f (split_child h t c (get_or f 0 0)) (drop 1 f)
              unfolding split_child
              split_done =
                  let z : size (suc h) (split_child h t c sibling) ≡ size (suc h) t = rw T.first same.sized in
                  subst (λ (n : ℕ). Reshaped w w₄ (suc h) t f (split_child h t c n) (drop 1 f)) T.first
                  (kids_reshaped S.owns U c (suc c) (left_half K ∷ (right_half sibling K ∷ [])) (split_child h t c sibling) refl
                  (λ k b. omega (arith, counts k, once k, child_held k))
                  (λ k b. omega (
                    arith,
                    counts k,
                    child_held k,
                    kids_held h k t c S.place,
                    count_first k f S.some,
                    one_same k S.here,
                    one_same k T.first,
                  ))
                  (stored_same S.here (split_block h t c sibling S.place m (em has_middle) z) W₄.stored)
                  (cons at_left (cons at_right nil))
                  (chain_untouched U₁ (λ k b. omega (arith, counts₁ k, counts k, once k, child_held k))
                  (W₄.chain ∙ W₃.chain ∙ W₂.chain) T.chain))
