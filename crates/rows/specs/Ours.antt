-- Examples of our own, beside 01's: every call, and every choice that a removal can come to.
use Rattle.std.specs.Prelude.{List, [], ◌∷◌, ◌++◌, map, ℕ, ◌+◌, ◌*◌}
use Rattle.lists.specs.Lists.{concat, from}
use Rattle.model.specs.Calls.{answer, walked}
use Rattle.pool.specs.Layout.{node_block, free_block}
use Rattle.rows.specs.Row.{Call, check, len, push, remove, insert, replace, Row, after, walks, equals, stops}
use Rattle.rows.specs.Table.{pushes, L32, pool, leaf, three, words32}

-- n elements in 4 nodes: the root is node 2 with x and y, the leaves are nodes 1, 3 and 4
abbrev four : ℕ → ℕ → ℕ → List ℕ → List ℕ → List ℕ → List ℕ
four n x y a b c = pool 2 0 (leaf a ∷ node_block n (x ∷ y ∷ []) (1 ∷ 3 ∷ 4 ∷ []) ∷ leaf b ∷ leaf c ∷ [])

-- leaves of 15, 15 and 16 elements
abbrev last_lends : List Call
last_lends = pushes 48

-- of 16, 15 and 16
abbrev both_lend : List Call
both_lend = pushes 48 ++ (insert 0 99 ∷ [])

-- of 15 each
abbrev none_lends : List Call
none_lends = pushes 48 ++ (remove 47 ∷ [])

-- 46 elements when node 3 was freed: the root has 32, the leaves are nodes 1 and 4
abbrev freed3 : List ℕ → List ℕ
freed3 a = pool 2 3 (leaf a ∷ node_block 46 (32 ∷ []) (1 ∷ 4 ∷ []) ∷ free_block 0 ∷ leaf (from 33 15) ∷ [])

-- or node 4: the root has 16, the leaves are nodes 1 and 3
abbrev freed4 : List ℕ → List ℕ
freed4 b = pool 2 4 (leaf (from 1 15) ∷ node_block 46 (16 ∷ []) (1 ∷ 3 ∷ []) ∷ leaf b ∷ free_block 0 ∷ [])

-- 16 k and the n - 1 multiples of 16 after it, and n leaves of 15 elements, each after one of them
abbrev sixteens : ℕ → ℕ → List ℕ
sixteens k n = map (λ j. 16 * j) (from k n)

abbrev leaves : ℕ → ℕ → List (List ℕ)
leaves k n = map (λ j. leaf (from (16 * j + 1) 15)) (from k n)

-- n elements in 36 nodes: the root is node 34 with x, below it are nodes 2 and 35, and all others are leaves, or free from `first` on
abbrev deep : ℕ → ℕ → ℕ → List (List ℕ) → List ℕ → List ℕ
deep first n x blocks right = pool 34 first (blocks ++ (node_block n (x ∷ []) (2 ∷ 35 ∷ []) ∷ right ∷ leaf (from 513 16) ∷ []))

unfoldable pub ours : List Row
unfolding from concat node_block free_block
ours =
    -- calls that read
    after 3 L32 check (answer 0 0 0) words32 ∷
    after 3 L32 len (answer 0 32 0) words32 ∷
    walks 3 L32 0 15 (walked 0 16 16) ∷
    walks 3 L32 31 0 (walked 0 32 32) ∷
    walks 3 L32 1 31 (walked 2 0 32) ∷
    walks 3 L32 40 0 (walked 2 0 32) ∷
    stops 7 1 (walked 1 0 7) ∷
    stops 7 4 (walked 4 0 7) ∷
    equals 1 (pushes 31) 3 (L32 ++ (remove 31 ∷ [])) (answer 0 1 0) ∷
    equals 1 (pushes 31) 3 (L32 ++ (remove 0 ∷ [])) (answer 0 0 0) ∷
    equals 1 (pushes 31) 3 L32 (answer 0 0 0) ∷
    -- a replacement at a separator, in a leaf, and past the end
    after 3 L32 (replace 15 99) (answer 0 16 0) (three 32 99 (from 1 15) (from 17 16)) ∷
    after 3 L32 (replace 16 99) (answer 0 17 0) (three 32 16 (from 1 15) (99 ∷ from 18 15)) ∷
    after 3 L32 (replace 32 99) (answer 2 0 0) words32 ∷
    -- a full leaf below a root that is not; a full root and a full leaf: the new root is taken first, its sibling, and the leaf's
    after 4 (pushes 47) (push 48) (answer 0 0 0) (four 48 16 32 (from 1 15) (from 17 15) (from 33 16)) ∷
    after 36 (pushes 527) (push 528) (answer 0 0 0)
    (deep 0 528 256 (leaf (from 1 15) ∷ node_block 255 (sixteens 1 15) (1 ∷ from 3 15) ∷ leaves 1 31)
    (node_block 272 (sixteens 17 16) (from 18 16 ++ (36 ∷ [])))) ∷
    -- a removal past the end, and of the only element
    after 3 L32 (remove 32) (answer 2 0 0) words32 ∷
    after 1 (push 7 ∷ []) (remove 0) (answer 0 7 0) (pool 0 1 (free_block 0 ∷ [])) ∷
    -- inside a child: Nothing; FromLeft, though the right could lend too; FromRight, the left thin, and with no left
    after 4 last_lends (remove 47) (answer 0 48 0) (four 47 16 32 (from 1 15) (from 17 15) (from 33 15)) ∷
    after 4 both_lend (remove 31) (answer 0 31 0) (four 48 15 32 (99 ∷ from 1 14) (from 16 15) (from 33 16)) ∷
    after 4 last_lends (remove 16) (answer 0 17 0) (four 47 16 33 (from 1 15) (from 18 15) (from 34 15)) ∷
    after 3 L32 (remove 14) (answer 0 15 0) (three 31 17 (from 1 14 ++ (16 ∷ [])) (from 18 15)) ∷
    -- WithLeft, both thin, and with no right; WithRight, with no left
    after 4 none_lends (remove 30) (answer 0 31 0) (freed3 (from 1 30)) ∷
    after 4 none_lends (remove 46) (answer 0 47 0) (freed4 (from 17 30)) ∷
    after 4 none_lends (remove 0) (answer 0 1 0) (freed3 (from 2 30)) ∷
    -- at a separator: ByLast, though the right could give too; ByFirst, though the thin left could borrow; ByMerge, though it could merge
    after 3 (L32 ++ (insert 0 99 ∷ [])) (remove 16) (answer 0 16 0) (three 32 15 (99 ∷ from 1 14) (from 17 16)) ∷
    after 4 both_lend (remove 32) (answer 0 32 0) (four 48 16 33 (99 ∷ from 1 15) (from 17 15) (from 34 15)) ∷
    after 4 none_lends (remove 31) (answer 0 32 0) (freed4 (from 17 15 ++ from 33 15)) ∷
    -- two levels: node 2 borrows from node 35, a child goes along, and then node 1 merges with node 3
    after 36 (pushes 528) (remove 0) (answer 0 1 0)
    (deep 3 527 272 (leaf (from 2 30) ∷ node_block 270 (sixteens 2 15) (1 ∷ from 4 15) ∷ free_block 0 ∷ leaves 2 30)
    (node_block 256 (sixteens 18 15) (from 19 15 ++ (36 ∷ [])))) ∷
    []
