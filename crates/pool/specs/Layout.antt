-- The pool, word by word (01's table): the words in which a bag of p nodes is kept.
use Rattle.std.specs.Prelude.{List, [], ◌∷◌, ◌++◌, map, cond, ℕ, zero, suc, ◌+◌, ◌-◌, ◌*◌, eqb, length, get_or, replicate}
use Rattle.std.proofs.lemmas.List.Edits.{sets}
use Rattle.lists.specs.Lists.{concat, from}
use Rattle.words.specs.Words.{run}
use Rattle.model.specs.Tree.{Tree, size, Root, bare, rooted, Bag}

-- the head: where the root's id stands, and that of the first free node; then come the nodes
abbrev pub root_word : ℕ
root_word = 0

abbrev pub chain_word : ℕ
chain_word = 1

abbrev pub head_words : ℕ
head_words = 2

abbrev pub node_words : ℕ
node_words = 66

abbrev pub most_nodes : ℕ
most_nodes = 4096

-- where node k starts, its words, and the pool with other words for it
abbrev pub start : ℕ → ℕ
start k = head_words + node_words * (k - 1)

unfoldable pub block : List ℕ → ℕ → List ℕ
block w k = run w (start k) node_words

unfoldable pub with_block : List ℕ → ℕ → List ℕ → List ℕ
with_block w k ys = sets w (start k) ys

-- ---- a node's words

-- numbers in n slots, the unused ones 0
unfoldable pub slots : ℕ → List ℕ → List ℕ
slots n xs = xs ++ replicate (n - length xs) 0

-- in the tree: the number of elements, the elements in the whole subtree, the elements, the child ids, and 0
unfoldable pub node_block : ℕ → List ℕ → List ℕ → List ℕ
unfolding slots
node_block n es ks = length es ∷ n ∷ (slots 31 es ++ (slots 32 ks ++ (0 ∷ [])))

-- free: nothing but the id of the next free node, or 0
unfoldable pub free_block : ℕ → List ℕ
free_block next = replicate 65 0 ++ (next ∷ [])

abbrev pub id_of : (h : ℕ) → Tree h → ℕ
id_of h t = t.id

unfoldable pub kid_ids : (h : ℕ) → Tree h → List ℕ
kid_ids zero t = []
kid_ids (suc h) t = map (id_of h) t.kids

unfoldable pub root_block : (h : ℕ) → Tree h → List ℕ
unfolding size kid_ids node_block
root_block h t = node_block (size h t) t.elems (kid_ids h t)

-- ---- all the nodes of a bag, each with its words

pub record Cell : Type 0 where
  pub id : ℕ
  pub words : List ℕ

unfoldable pub tree_cells : (h : ℕ) → Tree h → List Cell
unfolding root_block concat
tree_cells zero t = record { id = t.id; words = root_block zero t } ∷ []
tree_cells (suc h) t = record { id = t.id; words = root_block (suc h) t } ∷ concat (map (tree_cells h) t.kids)

unfoldable pub chain_cells : List ℕ → List Cell
unfolding free_block
chain_cells [] = []
chain_cells (k ∷ ks) = record { id = k; words = free_block (get_or ks 0 0) } ∷ chain_cells ks

unfoldable pub root_cells : Root → List Cell
unfolding tree_cells
root_cells bare = []
root_cells (rooted h t) = tree_cells h t

abbrev pub cells : Bag → List Cell
cells b = root_cells b.root ++ chain_cells b.free

unfoldable pub words_of : ℕ → List Cell → List ℕ
words_of k [] = []
words_of k (c ∷ cs) = cond (eqb k c.id) c.words (words_of k cs)

-- ---- the pool

unfoldable pub root_id : Root → ℕ
root_id bare = 0
root_id (rooted h t) = t.id

unfoldable pub head : Bag → List ℕ
unfolding root_id
head b = root_id b.root ∷ get_or b.free 0 0 ∷ []

unfoldable pub words : ℕ → Bag → List ℕ
unfolding head root_cells chain_cells words_of concat from
words p b = head b ++ concat (map (λ k. words_of k (cells b)) (from 1 p))
