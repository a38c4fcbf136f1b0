-- One node of a tree in the pool: its words from the tree, its elements read and replaced.
use mathlib.Core.Path.{◌≡◌, sym, ap, ap₂, subst, ◌∙◌}
use mathlib.Core.List.{List, [], ◌∷◌}
use Prim.Native.Nat.{ℕ, ◌+◌, ◌-◌, ◌≤◌, ◌<◌}
use native.Mathlib.Nat.{add_assoc}
use native.Mathlib.Omega.{arith}
use borrow.Rule.Slice.PartMut.{put_mid}
use lib.ListN.{length, get_or, set, length-set}
use Rattle.model.specs.Tree.{Tree, size}
use Rattle.model.specs.Fit.{Fit}
use Rattle.model.proofs.Nodes.{most}
use Rattle.pool.specs.Layout.{node_words, start, with_block, slots, node_block, kid_ids, root_block}
use Rattle.pool.specs.Parts.{Inside, Stored, At, count_at, length_at, kid_at}
use Rattle.pool.proofs.Block.{block_word}
use Rattle.pool.proofs.Store.{set-block, part, block_in, block_put}
use Rattle.pool.proofs.Blocks.{length-slots, length-node_block, most_kids}
use Rattle.pool.proofs.Slots.{parts, parts_elems, slots_store}
use Rattle.pool.proofs.Node.{node_elem, node_kid}
use Rattle.tree.specs.Node.{Node}
use Rattle.tree.specs.Lookup.{HasElement, Swapped}

pub as_node : {w : List ℕ} {k : ℕ} (h : ℕ) (t : Tree h) → Stored w k (root_block h t) → Stored w k (node_block (size h t) t.elems (kid_ids h t))
unfolding root_block
as_node h t S = S

-- a tree's own node
abbrev pub node_of : {w : List ℕ} {id : ℕ} (h : ℕ) (t : Tree h) → t.id ≡ id → At w h t → Fit h t → Node w id
node_of {w} h t e A F = record {
  size = size h t;
  elems = t.elems;
  kids = kid_ids h t;
  stored = subst (λ k. Stored w k (node_block (size h t) t.elems (kid_ids h t))) e (as_node h t A.here);
  few_elems = most h t F;
  few_kids = most_kids h t F;
}

-- ---- what is read of it: in the pool, and in the words that are lent

pub node_count : {w : List ℕ} {k : ℕ} (m : Node w k) → count_at w k ≡ length m.elems
unfolding node_block
node_count m = ap (λ (b : List ℕ). get_or b 0 0) m.stored.is

pub node_size : {w : List ℕ} {k : ℕ} (m : Node w k) → length_at w k ≡ m.size
unfolding node_block
node_size m = ap (λ (b : List ℕ). get_or b 1 0) m.stored.is

pub node_kid_at : {w : List ℕ} {k : ℕ} (m : Node w k) (c : ℕ) → c < 32 → kid_at w k c ≡ get_or m.kids c 0
node_kid_at m c l =
    ap (λ (b : List ℕ). get_or b (33 + c) 0) m.stored.is ∙ node_kid m.size m.elems m.kids m.few_elems c l

module _ {w : List ℕ} {k : ℕ} (m : Node w k) (a : ℕ) (ea : a ≡ start k) where
  pub lent : part w a ≡ node_block m.size m.elems m.kids
  lent = block_in w a k ea ∙ m.stored.is

  pub lent_long : length (part w a) ≡ node_words
  lent_long = rw lent (length-node_block m.size m.elems m.kids m.few_elems m.few_kids)

  pub lent_count : get_or (part w a) 0 0 ≡ length m.elems
  unfolding node_block
  lent_count = rw lent

  pub lent_length : get_or (part w a) 1 0 ≡ m.size
  unfolding node_block
  lent_length = rw lent

  pub lent_elem : (i : ℕ) → i < 31 → get_or (part w a) (2 + i) 0 ≡ get_or m.elems i 0
  lent_elem i l = rw lent (node_elem m.size m.elems m.kids i l)

  pub lent_kid : (c : ℕ) → c < 32 → get_or (part w a) (33 + c) 0 ≡ get_or m.kids c 0
  lent_kid c l = rw lent (node_kid m.size m.elems m.kids m.few_elems c l)

  pub length_word : get_or w (a + 1) 0 ≡ m.size
  unfolding node_block
  length_word = rw (ea, ← (block_word w k 1 (omega arith)), m.stored.is)

-- ---- a node's words when its lists have changed

-- with the count of the new elements they are a node's
pub counted : (z n : ℕ) (es ks : List ℕ) → length es ≡ z → parts z n (slots 31 es) (slots 32 ks) 0 ≡ node_block n es ks
unfolding node_block
counted z n es ks e = ap (λ (c : ℕ). parts c n (slots 31 es) (slots 32 ks) 0) (sym e)

-- the pool when they came back
pub came_back : (w : List ℕ) (a k : ℕ) → a ≡ start k → Inside w k → {ys : List ℕ} (n : ℕ) (es ks : List ℕ) → ys ≡ node_block n es ks
    → length es ≤ 31 → length ks ≤ 32 → put_mid a (a + node_words - a) w ys ≡ with_block w k (node_block n es ks)
came_back w a k ea I n es ks e le lk = rw e (block_put w a k ea (node_block n es ks) I (length-node_block n es ks le lk))

-- an element of a block replaced
node_set : (n : ℕ) (es ks : List ℕ) (i x : ℕ) → length es ≤ 31 → i < length es → set (node_block n es ks) (2 + i) x ≡ node_block n (set es i x) ks
unfolding node_block
node_set n es ks i x m l =
    parts_elems (length es) n (slots 31 es) (slots 32 ks) 0 (length-slots 31 es m) i (x ∷ []) (omega arith)
    ∙ ap₂ (λ (c : ℕ) (ys : List ℕ). parts c n ys (slots 32 ks) 0) (sym (length-set es i x)) (slots_store 31 es i x l)

module _ {w : List ℕ} {k i : ℕ} (s : HasElement w k i) (a : ℕ) (ea : a ≡ start k) where
  pub swaps : (x old : ℕ) → old ≡ get_or w (a + 2 + i) 0 → Swapped w (set w (a + 2 + i) x) k i x s.node old
  swaps x old e =
      let m = s.node in
      let l : i < 31 = omega (arith, m.few_elems, s.below) in
      record {
        given = e ∙ rw (ea, add_assoc (start k) 2 i, ← (block_word w k (2 + i) (omega arith)), m.stored.is)
            (node_elem m.size m.elems m.kids i l);
        words = rw (ea, add_assoc (start k) 2 i, set-block w k m.stored.inside (2 + i) x (omega arith), m.stored.is)
            (ap (λ (b : List ℕ). with_block w k b) (node_set m.size m.elems m.kids i x m.few_elems s.below));
      }
