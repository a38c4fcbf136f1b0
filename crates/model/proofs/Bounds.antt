-- How many nodes an insertion needs, against the elements that are there; how high a tree is, and how many children a lookup compares.
use mathlib.Core.Path.{◌≡◌, refl}
use mathlib.Core.List.{List}
use mathlib.Core.Bool.{Bool, true, false, cond}
use Prim.Native.Nat.{ℕ, zero, suc, ◌+◌, ◌*◌, ◌-◌, ◌^◌, ◌≤◌, ◌<◌}
use native.Mathlib.Nat.{mul-le-mul_right, pow-succ'}
use native.Mathlib.Decide.{dec_lt}
use native.Mathlib.Omega.{arith}
use lib.ListN.{length, length-append}
use Rattle.lists.specs.Lists.{sum}
use Rattle.lists.proofs.All.{All, nil, cons, all_take, all_drop, all_map}
use Rattle.lists.proofs.Sums.{total, total_at, total_least, measure_concat}
use Rattle.model.specs.Tree.{Tree, none, kid, size, ids, flat, find, Root, bare, rooted, Bag, list_of, root_ids, levels_of, bag_get}
use Rattle.model.specs.Fit.{Fit, FitTree, FitRoot}
use Rattle.model.specs.Insert.{is_full, needed_below, needed}
use Rattle.model.proofs.Nodes.{shape, flat-length}
use Rattle.model.proofs.Find.{step}
use Rattle.model.proofs.Get.{get_law}
use Rattle.model.proofs.Insert.{full}

-- ---- the room that an insertion needs

at_most : (b : Bool) (n : ℕ) → cond b n 0 ≤ n
at_most true n = omega arith
at_most false n = omega arith

abbrev nodes : (h : ℕ) → Tree h → ℕ
nodes h t = length (ids h t)

nodes_inner : (h : ℕ) (t : Tree (suc h)) → nodes (suc h) t ≡ 1 + total (nodes h) t.kids
unfolding ids
nodes_inner h t = omega (arith, measure_concat length refl length-append (ids h) t.kids)

-- at most 31 elements in each node
pub size_most : (h : ℕ) (t : Tree h) → Fit h t → size h t ≤ 31 * nodes h t
unfolding size ids
size_most zero t F = omega arith
size_most (suc h) t F =
    omega (arith, nodes_inner h t, summed (all_map (λ k p. size_most h k p.fit) (shape (suc h) t F).children))
  where
    summed : {ks : List (Tree h)} → All (λ k. size h k ≤ 31 * nodes h k) ks → total (size h) ks ≤ 31 * total (nodes h) ks
    summed nil = omega arith
    summed (cons p ps) = omega (arith, summed ps)

-- what it needs for a child k that its index j goes into: a child has 15 elements for itself and, if full, 15 for its other half
room_child : (h : ℕ) (k : Tree h) (j : ℕ) → 15 ≤ length k.elems
    → 15 * (nodes h k + needed_below h k j) + length k.elems ≤ size h k + 15
    → 15 * (nodes h k + (cond (is_full h k) 1 0 + needed_below h k j)) ≤ size h k
room_child h k j l m = go (is_full h k) refl
  where
    go : (b : Bool) → is_full h k ≡ b → 15 * (nodes h k + (cond b 1 0 + needed_below h k j)) ≤ size h k
    go true e = omega (arith, full h k e)
    go false e = omega arith

room_children : (h : ℕ) {ks : List (Tree h)} → All (λ k. 15 * nodes h k ≤ size h k) ks → 15 * total (nodes h) ks ≤ total (size h) ks
unfolding sum
room_children h nil = omega arith
room_children h (cons p ps) = omega (arith, room_children h ps)

room_below : (h : ℕ) (t : Tree h) → Fit h t → (i : ℕ) → i ≤ size h t
    → 15 * (nodes h t + needed_below h t i) + length t.elems ≤ size h t + 15
unfolding size needed_below ids
room_below zero t F i l = omega arith
room_below (suc h) t F i l =
    let w = step h t F i l in
    let c : ℕ = (find h t i).child in
    let j : ℕ = (find h t i).sub in
    let k : Tree h = kid h t c in
    let K : All (λ u. 15 * nodes h u ≤ size h u) t.kids =
    all_map (λ u p. omega (arith, room_child h u 0 p.least (room_below h u p.fit 0 (omega arith)))) (shape (suc h) t F).children in
    omega (
      arith,
      nodes_inner h t,
      total_at (nodes h) t.kids c (none h) (omega arith),
      total_at (size h) t.kids c (none h) (omega arith),
      room_children h (all_take c K),
      room_children h (all_drop (suc c) K),
      room_child h k j w.below.least (room_below h k w.below.fit j w.sub),
    )

-- the room law: 15 elements for every node in use or needed, but for one
pub room : (r : Root) → FitRoot r → (i : ℕ) → i ≤ length (list_of r) → 15 * (length (root_ids r) + needed r i) ≤ length (list_of r) + 15
unfolding list_of root_ids needed
room bare F i l = omega arith
room (rooted h t) F i l = go (is_full h t) refl
  where
    go : (b : Bool) → is_full h t ≡ b → 15 * (nodes h t + (cond b 2 0 + needed_below h t i)) ≤ length (flat h t) + 15
    go true e = omega (arith, full h t e, flat-length h t F.fit, room_below h t F.fit i (omega (arith, flat-length h t F.fit)))
    go false e = omega (arith, F.some, flat-length h t F.fit, room_below h t F.fit i (omega (arith, flat-length h t F.fit)))

-- demand 3: with p nodes and fewer than 15 p samples, what is needed and what is in use are at most p
pub enough : (r : Root) → FitRoot r → (i : ℕ) → i ≤ length (list_of r) → (p : ℕ) → length (list_of r) < 15 * p
    → length (root_ids r) + needed r i ≤ p
enough r F i l p n = omega (arith, room r F i l)

-- an insertion takes at most one node for each level below the root, and two for the root
pub needed-below_lem : (h : ℕ) (t : Tree h) (i : ℕ) → needed_below h t i ≤ h
unfolding needed_below
needed-below_lem zero t i = omega arith
needed-below_lem (suc h) t i =
    let k : Tree h = kid h t (find h t i).child in
    omega (arith, at_most (is_full h k) 1, needed-below_lem h k (find h t i).sub)

pub needed_most : (r : Root) (i : ℕ) → needed r i ≤ levels_of r + 2
unfolding needed levels_of
needed_most bare i = omega arith
needed_most (rooted h t) i = omega (arith, at_most (is_full h t) 2, needed-below_lem h t i)

-- ---- the height

-- a tree whose root has n elements or more
tall : (h : ℕ) (t : Tree h) → Fit h t → (n : ℕ) → n ≤ length t.elems → suc n * 16 ^ h ≤ size h t + 1
unfolding size
tall zero t F n l = omega arith
tall (suc h) t F n l =
    let m : ℕ = 16 * 16 ^ h in
    let kids = total_least (size h) m (all_map (λ k p. tall h k p.fit 15 p.least) (shape (suc h) t F).children) in
    let e : suc n * m ≤ length t.kids * m = mul-le-mul_right m (omega arith) in
    rw (pow-succ' 16 h) (omega arith)

pub height : (h : ℕ) (t : Tree h) → FitTree h t → 2 * 16 ^ h - 1 ≤ size h t
height h t F = omega (arith, tall h t F.fit 1 F.some)

grows : (n : ℕ) → suc n ≤ 16 ^ n
grows zero = omega arith
grows (suc n) = rw (pow-succ' 16 n) (omega (arith, grows n))

-- so it has fewer levels than elements
pub levels_few : (h : ℕ) (t : Tree h) → FitTree h t → h ≤ size h t
levels_few h t F = omega (arith, height h t F, grows h)

pub root_levels : (r : Root) → FitRoot r → levels_of r ≤ length (list_of r)
unfolding list_of levels_of
root_levels bare F = omega arith
root_levels (rooted h t) F = omega (arith, levels_few h t F, flat-length h t F.fit)

-- ---- demand 3's h, the height that n samples can have at most: there is one for each n from 1 on, and a lookup is bounded by it

pub record Highest (n h : ℕ) : Type 0 where
  pub reached : 2 * 16 ^ (h - 1) - 1 ≤ n
  pub largest : (k : ℕ) → 2 * 16 ^ (k - 1) - 1 ≤ n → k ≤ h

pub highest_one : {n g h : ℕ} → Highest n g → Highest n h → g ≡ h
highest_one {g = g} {h = h} G H = omega (arith, G.largest h H.reached, H.largest g G.reached)

pub highest_some : (n : ℕ) → 1 ≤ n → (h : ℕ) × Highest n h
highest_some n one = down n (λ k p. omega (arith, grows (k - 1)))
  where
    -- the largest is sought from above
    down : (m : ℕ) → ((k : ℕ) → 2 * 16 ^ (k - 1) - 1 ≤ n → k ≤ m) → (h : ℕ) × Highest n h
    down zero above = (0, record { reached = omega arith; largest = above })
    down (suc m) above =
        elim (dec_lt n (2 * 16 ^ (suc m - 1) - 1)) [
          | yes p ↦ down m (λ k q. below k q p)
          | no p ↦ (suc m, record { reached = omega arith; largest = above })
        ]
      where
        below : (k : ℕ) → 2 * 16 ^ (k - 1) - 1 ≤ n → n < 2 * 16 ^ (suc m - 1) - 1 → k ≤ m
        below k q p =
            elim (dec_lt m k) [
              | yes l ↦
                  (let e : k ≡ suc m = omega (arith, above k q) in
                  absurd (omega (arith, rw e at q)))
              | no l ↦ omega arith
            ]

pub compared_most : (b : Bag) (i : ℕ) → FitRoot b.root → i < length (list_of b.root) → {h : ℕ}
    → Highest (length (list_of b.root)) h → (bag_get b i).compared ≤ 32 * (h - 1)
unfolding bag_get list_of
compared_most b i F l {h} H = go b.root F l H
  where
    go : (r : Root) → FitRoot r → i < length (list_of r) → Highest (length (list_of r)) h
        → (bag_get (record { root = r; free = b.free }) i).compared ≤ 32 * (h - 1)
    go bare F l H = absurd (omega arith)
    go (rooted m t) F l H =
        let e = flat-length m t F.fit in
        let p : suc m - 1 ≡ m = omega arith in
        omega (arith, (get_law m t F.fit i (omega arith)).compared, H.largest (suc m) (rw p (omega (arith, height m t F))))
