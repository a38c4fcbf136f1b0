-- The cells of a bag: their ids are its nodes, each has 66 words, and they stand in w exactly where its tree and its chain do.
use mathlib.Core.Path.{◌≡◌, refl, ap}
use mathlib.Core.List.{List, [], ◌∷◌, map, map-append}
use mathlib.Core.Bool.{Bool, true, false}
use Prim.Native.Nat.{ℕ, zero, suc, ◌≤◌, ◌<◌}
use native.Mathlib.Omega.{arith}
use borrow.Author.Tests.{eqb-true, eq-eqb}
use lib.Dec.{eqb}
use lib.ListN.{length, get_or}
use Rattle.lists.specs.Lists.{count}
use Rattle.lists.proofs.All.{All, nil, cons, all_append, all_map, all_at, all_of, all_concat, all_parts, map-concat}
use Rattle.lists.proofs.Counts.{count-append, count_self}
use Rattle.model.specs.Tree.{Tree, none, ids, Root, bare, rooted, Bag, root_ids, met}
use Rattle.model.specs.Fit.{Fit, FitRoot}
use Rattle.model.proofs.Nodes.{shape}
use Rattle.pool.specs.Layout.{node_words, free_block, Cell, tree_cells, chain_cells, root_cells, cells, words_of}
use Rattle.pool.specs.Parts.{Stored, At, RootAt}
use Rattle.pool.proofs.Blocks.{length-free_block, length-root_block}

-- ---- their ids

abbrev cell_ids : List Cell → List ℕ
cell_ids cs = map (λ (c : Cell). c.id) cs

pub tree-ids : (h : ℕ) (t : Tree h) → cell_ids (tree_cells h t) ≡ ids h t
unfolding tree_cells ids
tree-ids zero t = refl
tree-ids (suc h) t =
    ap (λ (r : List ℕ). t.id ∷ r) (map-concat (λ (c : Cell). c.id) (tree_cells h) (ids h) (tree-ids h) t.kids)

pub chain-ids : (f : List ℕ) → cell_ids (chain_cells f) ≡ f
unfolding chain_cells
chain-ids [] = refl
chain-ids (k ∷ f) = ap (λ (r : List ℕ). k ∷ r) (chain-ids f)

root_ids_lem : (r : Root) → cell_ids (root_cells r) ≡ root_ids r
unfolding root_cells root_ids
root_ids_lem bare = refl
root_ids_lem (rooted h t) = tree-ids h t

pub count-cells : (k : ℕ) (b : Bag) → count k (cell_ids (cells b)) ≡ met k b
count-cells k b =
    rw (map-append (λ (c : Cell). c.id) (root_cells b.root) (chain_cells b.free), root_ids_lem b.root, chain-ids b.free)
    (count-append k (root_ids b.root) b.free)

-- ---- their words

abbrev Long : Cell → Type 0
Long c = length c.words ≡ node_words

tree_long : (h : ℕ) (t : Tree h) → Fit h t → All Long (tree_cells h t)
unfolding tree_cells
tree_long zero t F = cons (length-root_block zero t F) nil
tree_long (suc h) t F =
    cons (length-root_block (suc h) t F) (all_concat (all_map (λ k C. tree_long h k C.fit) (shape (suc h) t F).children))

chain_long : (f : List ℕ) → All Long (chain_cells f)
unfolding chain_cells
chain_long [] = nil
chain_long (k ∷ f) = cons (length-free_block (get_or f 0 0)) (chain_long f)

pub cells_long : (b : Bag) → FitRoot b.root → All Long (cells b)
unfolding root_cells
cells_long b F = all_append (root b.root F) (chain_long b.free)
  where
    root : (r : Root) → FitRoot r → All Long (root_cells r)
    root bare F = nil
    root (rooted h t) F = tree_long h t F.fit

-- ---- the words of the first cell with id k

-- what holds of every cell holds of them
pub words_are : (P : ℕ → List ℕ → Type 0) (k : ℕ) {cs : List Cell} → All (λ c. P c.id c.words) cs → 0 < count k (cell_ids cs)
    → P k (words_of k cs)
unfolding count words_of
words_are P k nil l = absurd (omega arith)
words_are P k (cons {x = c} {xs = cs} p ps) l = go (eqb k c.id) refl (words_are P k ps)
  where
    go : (t : Bool) → eqb k c.id ≡ t → (0 < count k (cell_ids cs) → P k (words_of k cs)) → P k (words_of k (c ∷ cs))
    go true e ih = rw (e, eqb-true k c.id e) p
    go false e ih = rw e (ih (omega (arith, rw e at l)))

-- where no id stands twice, they are the words of each cell
pub record Listed (cs : List Cell) (c : Cell) : Type 0 where
  pub counted : 0 < count c.id (cell_ids cs)
  pub own : words_of c.id cs ≡ c.words

pub all_listed : (cs : List Cell) → ((k : ℕ) → count k (cell_ids cs) ≤ 1) → All (Listed cs) cs
unfolding count words_of
all_listed [] u = nil
all_listed (c ∷ cs) u =
    cons {x = c} (record { counted = omega (arith, count_self c.id (cell_ids cs)); own = rw (eq-eqb c.id c.id refl) })
    (all_map (λ d L. record { counted = omega (arith, L.counted); own = go d L (eqb d.id c.id) refl })
    (all_listed cs (λ k. omega (arith, u k))))
  where
    go : (d : Cell) → Listed cs d → (t : Bool) → eqb d.id c.id ≡ t → words_of d.id (c ∷ cs) ≡ d.words
    go d L true e = absurd (omega (arith, rw e at (u d.id), L.counted))
    go d L false e = rw e L.own

-- ---- where they stand

module _ (w : List ℕ) where
  abbrev pub StoredCell : Cell → Type 0
  StoredCell c = Stored w c.id c.words

  pub at_cells : (h : ℕ) (t : Tree h) → At w h t → All StoredCell (tree_cells h t)
  unfolding tree_cells
  at_cells zero t A = cons A.here nil
  at_cells (suc h) t A = cons A.here (all_concat (all_map (at_cells h) (all_of (none h) t.kids A.each)))

  cells_at : (h : ℕ) (t : Tree h) → All StoredCell (tree_cells h t) → At w h t
  unfolding tree_cells
  cells_at zero t (cons s ss) = record { here = s; each = tt }
  cells_at (suc h) t (cons s ss) =
      record { here = s; each = all_at (none h) (all_map (cells_at h) (all_parts (tree_cells h) t.kids ss)) }

  pub root_cells_lem : (r : Root) → RootAt w r → All StoredCell (root_cells r)
  unfolding root_cells
  root_cells_lem bare A = nil
  root_cells_lem (rooted h t) A = at_cells h t A

  pub cells_root : (r : Root) → All StoredCell (root_cells r) → RootAt w r
  unfolding root_cells
  cells_root bare ss = tt
  cells_root (rooted h t) ss = cells_at h t ss

  -- the links of a chain
  abbrev pub Links : List ℕ → Type 0
  Links f = (i : ℕ) → i < length f → Stored w (get_or f i 0) (free_block (get_or f (suc i) 0))

  pub links_cells : (f : List ℕ) → Links f → All StoredCell (chain_cells f)
  unfolding chain_cells
  links_cells [] s = nil
  links_cells (k ∷ f) s = cons (s 0 (omega arith)) (links_cells f (λ i l. s (suc i) (omega arith)))

  pub cells_links : (f : List ℕ) → All StoredCell (chain_cells f) → Links f
  unfolding chain_cells
  cells_links [] ss i l = absurd (omega arith)
  cells_links (k ∷ f) (cons s ss) zero l = s
  cells_links (k ∷ f) (cons s ss) (suc i) l = cells_links f ss i (omega arith)
