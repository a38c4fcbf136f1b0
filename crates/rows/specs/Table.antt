-- 01's bench examples that are marked P, in its order. L32 is 1 to 32 pushed into an empty pool of 3 nodes.
use Rattle.std.specs.Prelude.{List, [], ◌∷◌, ◌++◌, map, ℕ, length}
use Rattle.lists.specs.Lists.{concat, from}
use Rattle.model.specs.Calls.{answer}
use Rattle.pool.specs.Layout.{node_block, free_block}
use Rattle.rows.specs.Row.{Call, push, get, remove, insert, Row, formats, nodes, after}

-- 1 to n pushed
abbrev pub pushes : ℕ → List Call
pushes n = map push (from 1 n)

abbrev pub L32 : List Call
L32 = pushes 32

-- a pool's words: the root's id, the first free node's, and the nodes from 1 on
abbrev pub pool : ℕ → ℕ → List (List ℕ) → List ℕ
pool root first blocks = root ∷ first ∷ concat blocks

abbrev pub leaf : List ℕ → List ℕ
leaf es = node_block (length es) es []

-- n elements in 3 nodes: the root is node 2 with x, the left is node 1, the right is node 3
abbrev pub three : ℕ → ℕ → List ℕ → List ℕ → List ℕ
three n x left right = pool 2 0 (leaf left ∷ node_block n (x ∷ []) (1 ∷ 3 ∷ []) ∷ leaf right ∷ [])

abbrev pub words32 : List ℕ
words32 = three 32 16 (from 1 15) (from 17 16)

unfoldable pub rows : List Row
unfolding from concat node_block free_block
rows =
    formats 1 (answer 4 0 0) ∷
    formats 67 (answer 4 0 0) ∷
    nodes 2 0 ∷
    nodes 68 1 ∷
    nodes 270338 4096 ∷
    formats 270404 (answer 4 0 0) ∷
    after 0 [] (push 1) (answer 3 0 0) (pool 0 0 []) ∷
    after 1 (pushes 31) (push 32) (answer 3 0 0) (pool 1 0 (leaf (from 1 31) ∷ [])) ∷
    after 3 (pushes 31) (push 32) (answer 0 0 0) words32 ∷
    after 3 L32 (get 15) (answer 0 16 1) words32 ∷
    after 3 L32 (get 31) (answer 0 32 2) words32 ∷
    after 3 L32 (get 32) (answer 2 0 0) words32 ∷
    after 3 L32 (insert 15 99) (answer 0 0 0) (three 33 16 (from 1 15 ++ (99 ∷ [])) (from 17 16)) ∷
    after 3 L32 (insert 33 99) (answer 2 0 0) words32 ∷
    after 3 L32 (remove 15) (answer 0 16 0) (three 31 17 (from 1 15) (from 18 15)) ∷
    after 3 (L32 ++ (remove 15 ∷ [])) (remove 15) (answer 0 17 0)
    (pool 1 2 (leaf (from 1 15 ++ from 18 15) ∷ free_block 3 ∷ free_block 0 ∷ [])) ∷
    after 3 L32 (remove 0) (answer 0 1 0) (three 31 17 (from 2 15) (from 18 15)) ∷
    after 3 (pushes 47) (push 48) (answer 3 0 0) (three 47 16 (from 1 15) (from 17 31)) ∷
    after 3 (pushes 47) (insert 0 99) (answer 0 0 0) (three 48 16 (99 ∷ from 1 15) (from 17 31)) ∷
    []
