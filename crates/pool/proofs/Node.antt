-- What the single words of a node say, and what the child finder reads of them.
use mathlib.Core.Path.{◌≡◌, refl, sym, ap, ◌∙◌}
use mathlib.Core.List.{List, [], ◌∷◌, ◌++◌, map, map-map}
use Prim.Native.Nat.{ℕ, suc, ◌+◌, ◌≤◌, ◌<◌}
use native.Mathlib.Omega.{arith}
use lib.ListN.{length, get_or, replicate, get_or-replicate, length-append, length-replicate, length-map, get_or-append, get_or-map}
use lib.Seq.{get_or-append-add, get_or_at, ext_get_or}
use Rattle.lists.proofs.All.{all_of, map_same}
use Rattle.words.specs.Words.{run}
use Rattle.words.proofs.Laws.{run_length, run-get_or, run-run}
use Rattle.model.specs.Tree.{Tree, kid, none, size}
use Rattle.model.specs.Fit.{Fit}
use Rattle.model.proofs.Nodes.{most}
use Rattle.model.proofs.Spans.{NodeOf, root, kids}
use Rattle.pool.specs.Layout.{start, block, slots, node_block, free_block, id_of, kid_ids, root_block}
use Rattle.pool.specs.Parts.{Stored, At, count_at, length_at, kid_at, elems_at, kid_ids_at}
use Rattle.pool.specs.Find.{kid_lengths, Inner}
use Rattle.pool.proofs.Block.{length-block}
use Rattle.pool.proofs.Store.{run-block}
use Rattle.pool.proofs.Blocks.{length-slots, most_kids}
use Rattle.pool.proofs.Slots.{slots-get_or}

-- ---- the words of a block

get_or-slots : (n : ℕ) (xs r : List ℕ) (i : ℕ) → i < n → get_or (slots n xs ++ r) i 0 ≡ get_or xs i 0
unfolding slots
get_or-slots n xs r i l =
    get_or-append (slots n xs) r 0 i (simp (length-append, length-replicate) (omega arith)) ∙ slots-get_or n xs i

module _ (n : ℕ) (es ks : List ℕ) where
  pub node_elem : (i : ℕ) → i < 31 → get_or (node_block n es ks) (2 + i) 0 ≡ get_or es i 0
  unfolding node_block
  node_elem i l =
      let r : List ℕ = slots 32 ks ++ (0 ∷ []) in
      get_or-append-add (length es ∷ n ∷ []) (slots 31 es ++ r) i 0 ∙ get_or-slots 31 es r i l

  module _ (m : length es ≤ 31) where
    behind : (c : ℕ) → get_or (node_block n es ks) (33 + c) 0 ≡ get_or (slots 32 ks ++ (0 ∷ [])) c 0
    unfolding node_block
    behind c =
        let front : List ℕ = length es ∷ n ∷ slots 31 es in
        let e : 33 + c ≡ length front + c = omega (arith, length-slots 31 es m) in
        rw e (get_or-append-add front (slots 32 ks ++ (0 ∷ [])) c 0)

    pub node_kid : (c : ℕ) → c < 32 → get_or (node_block n es ks) (33 + c) 0 ≡ get_or ks c 0
    node_kid c l = behind c ∙ get_or-slots 32 ks (0 ∷ []) c l

    node_link : length ks ≤ 32 → get_or (node_block n es ks) 65 0 ≡ 0
    node_link l = behind 32 ∙ get_or_at (slots 32 ks) 0 [] 0 32 (length-slots 32 ks l)

-- a free block has nothing but its link
pub free_word : (next i : ℕ) → i < 65 → get_or (free_block next) i 0 ≡ 0
unfolding free_block
free_word next i l = get_or-append (replicate 65 0) (next ∷ []) 0 i l ∙ get_or-replicate 65 i 0 0 l

pub free_link : (next : ℕ) → get_or (free_block next) 65 0 ≡ next
unfolding free_block
free_link next = refl

-- ---- a tree's node

run_is : (xs ys : List ℕ) (from n : ℕ) → length ys ≡ n → from + n ≤ length xs → ((i : ℕ) → i < n → get_or xs (from + i) 0 ≡ get_or ys i 0)
    → run xs from n ≡ ys
run_is xs ys from n e l f =
    let r = run_length xs from n l in
    ext_get_or 0 (run xs from n) ys (r ∙ sym e) (λ i m. run-get_or xs from n i (omega arith) ∙ f i (omega arith))

module _ (w : List ℕ) (h : ℕ) (t : Tree h) (S : Stored w t.id (root_block h t)) where
  pub at_count : count_at w t.id ≡ length t.elems
  unfolding root_block
  at_count = rw S.is

  pub at_length : length_at w t.id ≡ size h t
  unfolding root_block
  at_length = rw S.is

  pub at_elem : (i : ℕ) → i < 31 → get_or (block w t.id) (2 + i) 0 ≡ get_or t.elems i 0
  unfolding root_block
  at_elem i l = rw S.is (node_elem (size h t) t.elems (kid_ids h t) i l)

  -- a child's id, and 0 where there is none
  at_slot : length t.elems ≤ 31 → (c : ℕ) → c < 32 → kid_at w t.id c ≡ get_or (kid_ids h t) c 0
  unfolding root_block
  at_slot m c l = rw S.is (node_kid (size h t) t.elems (kid_ids h t) m c l)

  pub at_link : Fit h t → get_or (block w t.id) 65 0 ≡ 0
  unfolding root_block
  at_link F = rw S.is (node_link (size h t) t.elems (kid_ids h t) (most h t F) (most_kids h t F))

  pub elems_read : length t.elems ≤ 31 → elems_at w t.id ≡ t.elems
  elems_read m =
      rw at_count
      (run_is (block w t.id) t.elems 2 (length t.elems) refl (omega (arith, length-block w t.id S.inside)) (λ i l.
      at_elem i (omega arith)))

  -- some of its elements, where they stand in the pool
  pub elems_part : length t.elems ≤ 31 → (c n : ℕ) → c + n ≤ length t.elems → run w (start t.id + 2 + c) n ≡ run t.elems c n
  elems_part m c n l =
      let e : start t.id + 2 + c ≡ start t.id + (2 + c) = omega arith in
      rw (e, run-block w t.id (2 + c) n (omega arith))
      (sym (run-run (block w t.id) 2 (count_at w t.id) c n (omega (arith, at_count))) ∙ rw (elems_read m))

-- each node of a tree stands where the tree does
pub at_node : {w : List ℕ} {g : ℕ} {u : Tree g} {h : ℕ} {t : Tree h} → NodeOf g u h t → At w h t → At w g u
at_node root A = A
at_node (kids c l N) A = at_node N (A.each c l)

pub at_leaf : (w : List ℕ) (t : Tree 0) → Stored w t.id (root_block 0 t) → length t.elems ≤ 31 → (c : ℕ) → c < 32
    → kid_at w t.id c ≡ 0
unfolding kid_ids
at_leaf w t S m c l = at_slot w 0 t S m c l

module _ (w : List ℕ) (h : ℕ) (t : Tree (suc h)) (S : Stored w t.id (root_block (suc h) t)) where
  pub at_kid : length t.elems ≤ 31 → (c : ℕ) → c < 32 → kid_at w t.id c ≡ (kid h t c).id
  unfolding kid_ids
  at_kid m c l = at_slot w (suc h) t S m c l ∙ get_or-map (id_of h) t.kids c (none h)

  pub kids_read : Fit (suc h) t → kid_ids_at w t.id ≡ map (id_of h) t.kids
  unfolding kid_ids
  kids_read F =
      let n : ℕ = length t.elems + 1 in
      rw (at_count w (suc h) t S)
      (run_is (block w t.id) (map (id_of h) t.kids) 33 n (omega (arith, length-map t.kids (id_of h)))
      (omega (arith, length-block w t.id S.inside)) (λ c l. at_slot w (suc h) t S F.most c (omega arith)))

-- ---- what the child finder reads of an inner node

module _ (w : List ℕ) (h : ℕ) (t : Tree (suc h)) (F : Fit (suc h) t) (A : At w (suc h) t) where
  pub kid_lengths_lem : kid_lengths w (block w t.id) ≡ map (size h) t.kids
  unfolding kid_lengths
  kid_lengths_lem =
      ap (map (length_at w)) (kids_read w h t A.here F) ∙ map-map (length_at w) (id_of h) t.kids
      ∙ map_same (all_of (none h) t.kids (λ c l. at_length w h (kid h t c) (A.each c l).here))

  pub inner_at : (i : ℕ) → i ≤ size (suc h) t → Inner w (block w t.id) i
  unfolding size
  inner_at i l =
      let n = at_count w (suc h) t A.here in
      record {
        long = length-block w t.id A.here.inside;
        few = rw n F.most;
        kids = λ c m. rw (at_kid w h t A.here F.most c (omega arith)) (A.each c (omega arith)).here.inside;
        below = rw (n, kid_lengths_lem) l;
      }
