-- A pool is its head and its blocks, of 66 words each.
use mathlib.Core.Path.{◌≡◌, refl, sym, ap, ◌∙◌}
use mathlib.Core.List.{List, [], ◌∷◌, ◌++◌, map}
use Prim.Native.Nat.{ℕ, zero, suc, ◌+◌, ◌-◌, ◌*◌, ◌≤◌, ◌<◌}
use native.Mathlib.Omega.{arith}
use lib.ListN.{length, drop, get_or, length-append, length-replicate, length-map, length-drop}
use lib.Seq.{take_at, take_all, take-add, drop-drop, drop-append-add}
use Rattle.lists.specs.Lists.{concat, from}
use Rattle.lists.proofs.All.{All, nil, cons}
use Rattle.lists.proofs.Counts.{length_from, get_or-from}
use Rattle.words.specs.Words.{run}
use Rattle.model.specs.Tree.{Tree, size}
use Rattle.model.specs.Fit.{Fit}
use Rattle.model.proofs.Nodes.{most}
use Rattle.pool.specs.Layout.{root_word, chain_word, head_words, node_words, start, block, slots, node_block, free_block}
use Rattle.pool.specs.Layout.{id_of, kid_ids, root_block}

-- ---- lengths

pub length-slots : (n : ℕ) (xs : List ℕ) → length xs ≤ n → length (slots n xs) ≡ n
unfolding slots
length-slots n xs l = simp (length-append, length-replicate) (omega arith)

pub length-node_block : (n : ℕ) (es ks : List ℕ) → length es ≤ 31 → length ks ≤ 32 → length (node_block n es ks) ≡ node_words
unfolding node_block
length-node_block n es ks l m = simp (length-append, length-replicate) (omega arith)

pub length-free_block : (k : ℕ) → length (free_block k) ≡ node_words
unfolding free_block
length-free_block k = refl

pub most_kids : (h : ℕ) (t : Tree h) → Fit h t → length (kid_ids h t) ≤ 32
unfolding kid_ids
most_kids zero t F = omega arith
most_kids (suc h) t F = omega (arith, length-map t.kids (id_of h))

pub length-root_block : (h : ℕ) (t : Tree h) → Fit h t → length (root_block h t) ≡ node_words
unfolding root_block
length-root_block h t F = length-node_block (size h t) t.elems (kid_ids h t) (most h t F) (most_kids h t F)

-- ---- a list of blocks

module _ {A : Type 0} (f : A → List ℕ) where
  -- each of the blocks is as long as a node
  abbrev pub Blocks : List A → Type 0
  Blocks ks = All (λ k. length (f k) ≡ node_words) ks

  pub length_blocks : {ks : List A} → Blocks ks → length (concat (map f ks)) ≡ node_words * length ks
  unfolding concat
  length_blocks nil = refl
  length_blocks (cons {x = k} {xs = ks} p ps) = omega (arith, length-append (f k) (concat (map f ks)), length_blocks ps)

  -- cut at block j
  run_blocks : (d : A) {ks : List A} → Blocks ks → (j : ℕ) → j < length ks
      → run (concat (map f ks)) (node_words * j) node_words ≡ f (get_or ks j d)
  unfolding concat run
  run_blocks d nil j l = absurd (omega arith)
  run_blocks d (cons {x = k} {xs = ks} p ps) zero l = take_at (f k) (concat (map f ks)) node_words p
  run_blocks d (cons {x = k} {xs = ks} p ps) (suc j) l =
      let e : node_words * suc j ≡ length (f k) + node_words * j = omega arith in
      rw (e, drop-append-add (f k) (concat (map f ks)) (node_words * j)) (run_blocks d ps j (omega arith))

-- ---- the head, and the blocks behind it

pub block_of : (hd : List ℕ) (f : ℕ → List ℕ) (p : ℕ) → length hd ≡ head_words → Blocks f (from 1 p) → (k : ℕ) → 1 ≤ k → k ≤ p
    → block (hd ++ concat (map f (from 1 p))) k ≡ f k
unfolding block run
block_of hd f p e B k l m =
    let s : start k ≡ length hd + node_words * (k - 1) = omega arith in
    let q : get_or (from 1 p) (k - 1) 0 ≡ k = omega (arith, get_or-from 1 p (k - 1) (omega arith)) in
    rw (s, drop-append-add hd (concat (map f (from 1 p))) (node_words * (k - 1)))
    (run_blocks f 0 B (k - 1) (omega (arith, length_from 1 p)) ∙ ap f q)

-- the words from node k on
cut : (w : List ℕ) (k n : ℕ) → 1 ≤ k → run w (start k) (node_words * n) ≡ concat (map (block w) (from k n))
unfolding concat from block run
cut w k zero l = refl
cut w k (suc n) l =
    let m : node_words * suc n ≡ node_words + node_words * n = omega arith in
    let q : start k + node_words ≡ start (suc k) = omega arith in
    rw (m, take-add node_words (node_words * n) (drop (start k) w), drop-drop node_words (start k) w, q, cut w (suc k) n (omega arith))

pub head_and_blocks : (w : List ℕ) (p : ℕ) → length w ≡ head_words + node_words * p
    → w ≡ get_or w root_word 0 ∷ get_or w chain_word 0 ∷ concat (map (block w) (from 1 p))
unfolding run
head_and_blocks w p e =
    two w e ∙ ap (λ (r : List ℕ). get_or w root_word 0 ∷ get_or w chain_word 0 ∷ r)
    (sym (take_all (node_words * p) (drop head_words w) (omega (arith, length-drop head_words w))) ∙ cut w 1 p (omega arith))
  where
    two : (w : List ℕ) → length w ≡ head_words + node_words * p → w ≡ get_or w root_word 0 ∷ get_or w chain_word 0 ∷ drop head_words w
    two [] e = absurd (omega arith)
    two (a ∷ []) e = absurd (omega arith)
    two (a ∷ b ∷ w) e = refl
