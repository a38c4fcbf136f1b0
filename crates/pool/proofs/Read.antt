-- A pool holds one bag: its tree and its chain are read off its words, with as many steps as it has nodes.
use mathlib.Core.Path.{◌≡◌, refl, sym, ap, ◌∙◌}
use mathlib.Core.List.{List, [], ◌∷◌, map, map-map, map-id}
use Prim.Native.Nat.{ℕ, zero, suc, ◌+◌, ◌≤◌, ◌<◌}
use native.Mathlib.Omega.{arith}
use lib.ListN.{length, get_or, length-append}
use Rattle.lists.proofs.All.{all_of, map_same}
use Rattle.lists.proofs.Sums.{total_at, measure_concat}
use Rattle.model.specs.Tree.{Tree, kid, none, ids, Root, bare, rooted, Bag, root_ids}
use Rattle.model.specs.Fit.{Fit, FitRoot}
use Rattle.pool.specs.Layout.{block, id_of, root_id, words}
use Rattle.pool.specs.Sound.{Holds, nodes_in}
use Rattle.pool.specs.Parts.{At, RootAt, kid_at, tree_at, levels_at, root_at, chain_at, bag_at}
use Rattle.pool.proofs.Cells.{Links}
use Rattle.pool.proofs.Whole.{nodes_of, holds_parts}
use Rattle.pool.proofs.Node.{elems_read, kids_read, at_leaf, at_kid, free_link}

-- ---- a tree

pub tree_read : (w : List ℕ) (h : ℕ) (t : Tree h) → Fit h t → At w h t → t ≡ tree_at w h t.id
unfolding tree_at
tree_read w zero t F A =
    λ i. record { id = t.id; elems = sym (elems_read w zero t A.here F.most) i; kids = no_kids t.kids i }
  where
    no_kids : (xs : List ⊥) → xs ≡ []
    no_kids [] = refl
    no_kids (x ∷ xs) = absurd x
tree_read w (suc h) t F A =
    let same : map (λ k. tree_at w h (id_of h k)) t.kids ≡ map (λ k. k) t.kids =
    map_same (all_of (none h) t.kids (λ c l. sym (tree_read w h (kid h t c) (F.each c l).fit (A.each c l)))) in
    let kids = ap (map (tree_at w h)) (kids_read w h t A.here F) ∙ map-map (tree_at w h) (id_of h) t.kids ∙ same ∙ map-id t.kids in
    λ i. record { id = t.id; elems = sym (elems_read w (suc h) t A.here F.most) i; kids = sym kids i }

-- ---- its height: a leaf's word 33 is 0, an inner node's is its first child

pub levels_leaf : (n : ℕ) (w : List ℕ) (k : ℕ) → kid_at w k 0 ≡ 0 → levels_at n w k ≡ 0
unfolding levels_at
levels_leaf zero w k e = refl
levels_leaf (suc n) w k e = rw (e, levels_at)

pub levels_inner : (n : ℕ) (w : List ℕ) (k c : ℕ) → kid_at w k 0 ≡ c → 1 ≤ c → levels_at (suc n) w k ≡ suc (levels_at n w c)
unfolding levels_at
levels_inner n w k zero e l = absurd (omega arith)
levels_inner n w k (suc c) e l = rw (e, levels_at)

levels_read : (w : List ℕ) (n h : ℕ) (t : Tree h) → h ≤ n → Fit h t → At w h t → levels_at n w t.id ≡ h
levels_read w n zero t l F A = levels_leaf n w t.id (at_leaf w t A.here F.most 0 (omega arith))
levels_read w zero (suc h) t l F A = absurd (omega arith)
levels_read w (suc n) (suc h) t l F A =
    let K = A.each 0 (omega arith) in
    levels_inner n w t.id (kid h t 0).id (at_kid w h t A.here F.most 0 (omega arith)) K.here.inside.some
    ∙ ap suc (levels_read w n h (kid h t 0) (omega arith) (F.each 0 (omega arith)).fit K)

-- a tree has more nodes than levels below its root
pub levels_nodes : (h : ℕ) (t : Tree h) → Fit h t → h < length (ids h t)
unfolding ids
levels_nodes zero t F = omega arith
levels_nodes (suc h) t F =
    omega (
      arith,
      measure_concat length refl length-append (ids h) t.kids,
      total_at (λ k. length (ids h k)) t.kids 0 (none h) (omega arith),
      levels_nodes h (kid h t 0) (F.each 0 (omega arith)).fit,
    )

-- ---- the root, the chain, the bag

root_some : (n : ℕ) (w : List ℕ) (k h : ℕ) → 1 ≤ k → levels_at n w k ≡ h → root_at n w k ≡ rooted h (tree_at w h k)
unfolding root_at
root_some n w zero h l e = absurd (omega arith)
root_some n w (suc k) h l e = rw e

pub root_read : (w : List ℕ) (n : ℕ) (r : Root) → length (root_ids r) ≤ n → FitRoot r → RootAt w r → r ≡ root_at n w (root_id r)
unfolding root_ids root_id root_at
root_read w n bare l F A = refl
root_read w n (rooted h t) l F A =
    let levels = levels_read w n h t (omega (arith, levels_nodes h t F.fit)) F.fit A in
    ap (rooted h) (tree_read w h t F.fit A) ∙ sym (root_some n w t.id h A.here.inside.some levels)

pub chain_read : (w : List ℕ) (n : ℕ) (f : List ℕ) → length f ≤ n → Links w f → f ≡ chain_at n w (get_or f 0 0)
unfolding chain_at
chain_read w zero [] l s = refl
chain_read w (suc n) [] l s = refl
chain_read w zero (k ∷ f) l s = absurd (omega arith)
chain_read w (suc n) (zero ∷ f) l s = absurd (omega (arith, (s 0 (omega arith)).inside.some))
chain_read w (suc n) (suc k ∷ f) l s =
    let next : get_or (block w (suc k)) 65 0 ≡ get_or f 0 0 = rw (s 0 (omega arith)).is (free_link (get_or f 0 0)) in
    rw next (ap (λ (g : List ℕ). suc k ∷ g) (chain_read w n f (omega arith) (λ i m. s (suc i) (omega arith))))

pub bag_read : {w : List ℕ} {b : Bag} → Holds w b → b ≡ bag_at (nodes_in (length w)) w
bag_read {w} {b} H =
    let P = holds_parts H in
    let n : ℕ = nodes_in (length w) in
    let enough : length (root_ids b.root) + length b.free ≡ n = omega (arith, nodes_of H.lawful, P.sized) in
    let root = root_read w n b.root (omega arith) H.lawful.fit P.tree ∙ ap (root_at n w) (sym P.top) in
    let free = chain_read w n b.free (omega arith) P.chain.links ∙ ap (chain_at n w) (sym P.chain.first) in
    λ i. record { root = root i; free = free i }

-- ---- one bag to a pool, one pool to a bag

pub one_bag : {w : List ℕ} {b c : Bag} → Holds w b → Holds w c → b ≡ c
one_bag H K = bag_read H ∙ sym (bag_read K)

pub one_pool : {w v : List ℕ} {b : Bag} → Holds w b → Holds v b → w ≡ v
one_pool {b} H K =
    let e : H.nodes ≡ K.nodes = sym (nodes_of H.lawful) ∙ nodes_of K.lawful in
    H.layout ∙ ap (λ (p : ℕ). words p b) e ∙ sym K.layout
