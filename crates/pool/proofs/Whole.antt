-- A lawful bag's nodes are 1 to p; a pool's words and its parts follow from each other.
use mathlib.Core.Path.{◌≡◌, refl, ◌∙◌}
use mathlib.Core.List.{List, ◌++◌, map}
use mathlib.Core.Logic.{inl, inr}
use Prim.Native.Nat.{ℕ, ◌+◌, ◌*◌, ◌≤◌, ◌<◌}
use native.Mathlib.Decide.{dec_le}
use native.Mathlib.Omega.{arith}
use lib.ListN.{length, length-append}
use Rattle.lists.specs.Lists.{from}
use Rattle.lists.proofs.All.{All, all_append, all_left, all_right, all_map, map_same}
use Rattle.lists.proofs.Counts.{count-append, count-nil, all_counted, count-length, length_from, count_in, count_out}
use Rattle.model.specs.Tree.{Bag, root_ids, met, empty}
use Rattle.pool.specs.Layout.{head_words, node_words, most_nodes, block, root_cells, chain_cells, cells, words_of, head, words}
use Rattle.pool.specs.Sound.{Lawful, Holds}
use Rattle.pool.specs.Parts.{Stored, Parts}
use Rattle.pool.proofs.Blocks.{Blocks, length_blocks, block_of, head_and_blocks}
use Rattle.pool.proofs.Cells.{count-cells, cells_long, words_are, all_listed, StoredCell}
use Rattle.pool.proofs.Cells.{root_cells_lem, cells_root, links_cells, cells_links}

pub record Within (p k : ℕ) : Type 0 where
  pub low : 1 ≤ k
  pub high : k ≤ p

module _ {p : ℕ} {b : Bag} (L : Lawful p b) where
  -- ---- which nodes are met, and how many

  within : (k : ℕ) → 0 < met k b → Within p k
  within k l =
      elim (dec_le 1 k) [
        | no q ↦ absurd (omega (arith, L.once k, count_out k 1 p (inl (omega arith))))
        | yes q ↦ elim (dec_le k p) [
          | yes r ↦ record { low = q; high = r }
          | no r ↦ absurd (omega (arith, L.once k, count_out k 1 p (inr (omega arith))))
        ]
      ]

  pub unique : (k : ℕ) → met k b ≤ 1
  unique k =
      elim (dec_le 1 (met k b)) [
        | no q ↦ omega arith
        | yes q ↦ (let v = within k q in omega (arith, L.once k, count_in k 1 p v.low (omega arith)))
      ]

  pub nodes_of : length (root_ids b.root) + length b.free ≡ p
  nodes_of =
      let ks : List ℕ = root_ids b.root in
      let same = count-length (ks ++ b.free) (from 1 p) (λ k. count-append k ks b.free ∙ L.once k) in
      omega (arith, same, length-append ks b.free, length_from 1 p)

  -- ---- the words

  abbrev words_at : ℕ → List ℕ
  words_at k = words_of k (cells b)

  -- what holds of every cell holds of the words of each of the nodes 1 to p
  each_node : (P : ℕ → List ℕ → Type 0) → All (λ c. P c.id c.words) (cells b) → All (λ k. P k (words_at k)) (from 1 p)
  each_node P ps = all_map (λ k l. words_are P k ps (omega (arith, count-cells k b, L.once k))) (all_counted (from 1 p))

  blocks : Blocks words_at (from 1 p)
  blocks = each_node (λ k ys. length ys ≡ node_words) (cells_long b L.fit)

  pub length-words : length (words p b) ≡ head_words + node_words * p
  unfolding words
  length-words = omega (arith, length_blocks words_at blocks, length_from 1 p)

  pub block_words : (k : ℕ) → 1 ≤ k → k ≤ p → block (words p b) k ≡ words_of k (cells b)
  unfolding words
  block_words = block_of (head b) words_at p refl blocks

  -- ---- the parts

  words_stored : All (StoredCell (words p b)) (cells b)
  words_stored =
      all_map (λ c C.
      let v = within c.id (omega (arith, C.counted, count-cells c.id b)) in
      record {
        inside = record { some = v.low; room = omega (arith, length-words, v.high) };
        is = block_words c.id v.low v.high ∙ C.own;
      })
      (all_listed (cells b) (λ k. omega (arith, count-cells k b, unique k)))

  words_parts : Parts (words p b) p b
  unfolding words
  words_parts = record {
    sized = length-words;
    top = refl;
    tree = cells_root (words p b) b.root (all_left (root_cells b.root) (chain_cells b.free) words_stored);
    chain = record {
      first = refl;
      links = cells_links (words p b) b.free (all_right (root_cells b.root) (chain_cells b.free) words_stored);
    };
  }

  pub parts_words : {w : List ℕ} → Parts w p b → w ≡ words p b
  unfolding words
  parts_words {w} P =
      let stored : All (StoredCell w) (cells b) =
      all_append (root_cells_lem w b.root P.tree) (links_cells w b.free P.chain.links) in
      let same : map (block w) (from 1 p) ≡ map words_at (from 1 p) = map_same (all_map (λ k S. S.is) (each_node (Stored w) stored)) in
      head_and_blocks w p P.sized ∙ cc (P.top, P.chain.first, same)

  pub parts_holds : {w : List ℕ} → Parts w p b → Holds w b
  parts_holds P = record { nodes = p; lawful = L; layout = parts_words P }

pub holds_parts : {w : List ℕ} {b : Bag} (H : Holds w b) → Parts w H.nodes b
holds_parts H = rw H.layout (words_parts H.lawful)

-- ---- such pools there are

pub lawful_empty : (p : ℕ) → p ≤ most_nodes → Lawful p (empty p)
unfolding empty root_ids
lawful_empty p l = record { few = l; fit = tt; once = λ k. omega (arith, count-nil k) }

pub holds-empty : (p : ℕ) → p ≤ most_nodes → Holds (words p (empty p)) (empty p)
holds-empty p l = record { nodes = p; lawful = lawful_empty p l; layout = refl }
