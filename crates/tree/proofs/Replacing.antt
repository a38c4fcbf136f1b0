-- Replacement: a node with another element, and a node whose child was edited, still stand in the pool.
use mathlib.Core.Path.{◌≡◌, refl, sym, ap, subst, ◌∙◌}
use mathlib.Core.Bool.{true, false}
use mathlib.Core.List.{List, [], ◌∷◌, map}
use Prim.Native.Nat.{ℕ, zero, suc, ◌+◌, ◌<◌}
use native.Mathlib.Omega.{arith}
use lib.ListN.{length, get_or, set, length-set}
use lib.Seq.{set_split, map-set_same}
use Rattle.lists.specs.Lists.{count, sum}
use Rattle.lists.proofs.Counts.{count_self}
use Rattle.lists.proofs.All.{nil, cons}
use Rattle.model.specs.declared.Found.{Found}
use Rattle.model.specs.Tree.{Tree, none, kid, size, ids, flat, find, with_kid, with_elem, get, replace}
use Rattle.model.proofs.Nodes.{same_id, held_id, kids_held, flat-length}
use Rattle.model.proofs.Get.{get_separator, get_inside, replace_separator, replace_inside, replace_law}
use Rattle.pool.specs.Layout.{chain_word, with_block, node_block, id_of, kid_ids, root_block}
use Rattle.pool.specs.Parts.{At}
use Rattle.pool.specs.Frame.{Untouched}
use Rattle.pool.proofs.Blocks.{length-node_block}
use Rattle.pool.proofs.Frame.{stored_untouched, untouched_more, wrote, wrote_same}
use Rattle.tree.specs.declared.Turn.{Turn}
use Rattle.tree.specs.Stands.{Stands}
use Rattle.tree.specs.Lookup.{Has, HasElement, Swapped, Replaced}
use Rattle.tree.proofs.Standing.{node_of}
use Rattle.tree.proofs.Edits.{kids_replaced, root_replaced}
use Rattle.tree.proofs.Getting.{leaf_has, Turned, above, F, way, sep_has, below_has}

-- ---- one element of a tree's own node replaced

block-elem : (h : ℕ) (t : Tree h) (c x : ℕ) → root_block h (with_elem h t c x) ≡ node_block (size h t) (set t.elems c x) (kid_ids h t)
unfolding root_block size kid_ids
block-elem zero t c x = ap (λ (n : ℕ). node_block n (set t.elems c x) []) (length-set t.elems c x)
block-elem (suc h) t c x =
    ap (λ (n : ℕ). node_block (n + sum (map (size h) t.kids)) (set t.elems c x) (map (id_of h) t.kids)) (length-set t.elems c x)

-- what stands then, and what was touched
record Edited (w w' : List ℕ) (h : ℕ) (t s : Tree h) : Type 0 where
  at : At w' h s
  untouched : Untouched w w' (ids h t)
  chain : get_or w' chain_word 0 ≡ get_or w chain_word 0

elem_edited : {w : List ℕ} {h id : ℕ} (S : Stands w h id) (c x : ℕ) (w' : List ℕ)
    → w' ≡ with_block w id (node_block (size h S.tree) (set S.tree.elems c x) (kid_ids h S.tree))
    → Edited w w' h S.tree (with_elem h S.tree c x)
elem_edited {w} {h} {id} S c x w' e =
    let t : Tree h = S.tree in
    let es : List ℕ = set t.elems c x in
    let m = node_of h t S.here S.at S.fit.fit in
    let W = wrote_same S.here (sym (block-elem h t c x))
    (wrote e m.stored.inside (length-node_block (size h t) es (kid_ids h t) (rw length-set m.few_elems) m.few_kids)) in
    record {
      at = root_replaced h t es S.at S.once W;
      untouched = untouched_more W.untouched (λ k z. omega (arith, held_id h k t));
      chain = W.chain;
    }

-- ---- in a leaf

pub leaf_replaced : {w : List ℕ} {id index : ℕ} (h : ℕ) → h ≡ 0 → (s : Has w h id index) (w' : List ℕ) (x old : ℕ)
    → ((q : HasElement w id index) → Swapped w w' id index x q.node old) → Replaced w w' h s.stands.tree index x old
unfolding get replace
leaf_replaced zero e s w' x old E =
    let q = E (leaf_has e s) in
    let R = elem_edited s.stands _ x w' q.words in
    record { given = q.given; at = R.at; untouched = R.untouched; chain = R.chain }
leaf_replaced (suc h) e s w' x old E = absurd (omega arith)

-- ---- at a separator

pub separator_replaced : {w : List ℕ} {id index : ℕ} (h : ℕ) → (h ≡ 0 → ⊥) → (s : Has w h id index) (r : Turn) → Turned w id index r
    → r.separator ≡ true → (w' : List ℕ) (x old : ℕ) → ((q : HasElement w id r.child) → Swapped w w' id r.child x q.node old)
    → Replaced w w' h s.stands.tree index x old
separator_replaced zero n s r T e w' x old E = absurd (n refl)
separator_replaced {index = index} (suc l) n s r T e w' x old E =
    let t : Tree (suc l) = s.stands.tree in
    let a = sym (T (above s)).separator ∙ e in
    let q = E (sep_has s r T e) in
    let R = elem_edited s.stands r.child x w' q.words in
    let c = (T (above s)).child in
    record {
      given = q.given ∙ rw c (sym (ap (λ (f : Found). f.element) (get_separator l t index a)));
      at = rw (replace_separator l t index x a, ← c) R.at;
      untouched = R.untouched;
      chain = R.chain;
    }

-- ---- in a child

-- a child of the same id and size leaves the node's own words
block-kid : (h : ℕ) (t : Tree (suc h)) (c : ℕ) (s : Tree h) → s.id ≡ (kid h t c).id → size h s ≡ size h (kid h t c)
    → root_block (suc h) (with_kid h t c s) ≡ root_block (suc h) t
unfolding root_block size kid_ids
block-kid h t c s e f =
    rw (map-set_same (id_of h) t.kids c s (none h) e, map-set_same (size h) t.kids c s (none h) f)

module _ {w : List ℕ} {id index l : ℕ} (s : Has w (suc l) id index) (r : Turn) (T : Turned w id index r) (f : r.separator ≡ false) where
  inside_replaced : (w' : List ℕ) (x old : ℕ) → ((q : Has w l r.id r.sub) → Replaced w w' l q.stands.tree r.sub x old)
      → Replaced w w' (suc l) s.stands.tree index x old
  inside_replaced w' x old E =
      let t : Tree (suc l) = s.stands.tree in
      let q = below_has s r T f in
      let c : ℕ = (find l t index).child in
      let k : Tree l = kid l t c in
      let R : Replaced w w' l k (find l t index).sub x old = rw (T (above s)).sub at (E q) in
      let a = sym (T (above s)).separator ∙ f in
      let b : (find l t index).sub < size l k = rw (T (above s)).sub at q.below in
      let M = replace_law l k q.stands.fit.fit (find l t index).sub x b in
      let u : Tree l = replace l k (find l t index).sub x in
      let n : size l u ≡ size l k =
      omega (
        arith,
        flat-length l u M.fit,
        flat-length l k q.stands.fit.fit,
        ap length M.list,
        length-set (flat l k) (find l t index).sub x,
      ) in
      let i : c < length t.kids = omega (arith, (way s).child, (F s).one_more) in
      let o : count t.id (ids l k) ≡ 0 = omega (arith, s.stands.once t.id, kids_held l t.id t c i, count_self t.id []) in
      let A : At w (suc l) t = s.stands.at in
      record {
        given = R.given ∙ sym (ap (λ (g : Found). g.element) (get_inside l t index a));
        at = rw (replace_inside l t index x a)
            (kids_replaced R.untouched A c (suc c) (u ∷ []) (with_kid l t c u) (set_split t.kids c u i)
            (λ k m. omega (arith, s.stands.once k, kids_held l k t c i))
            (rw (block-kid l t c u (same_id l u k M.nodes) n) (stored_untouched R.untouched o A.here)) (cons R.at nil));
        untouched = untouched_more R.untouched (λ k z. omega (arith, kids_held l k t c i));
        chain = R.chain;
      }

-- the call is made at l
pub child_replaced : {w : List ℕ} {id index : ℕ} (h l : ℕ) → h ≡ suc l → (s : Has w h id index) (r : Turn) → Turned w id index r
    → r.separator ≡ false → (w' : List ℕ) (x old : ℕ)
    → ((q : Has w l r.id r.sub) → Replaced w w' l q.stands.tree r.sub x old) → Replaced w w' h s.stands.tree index x old
child_replaced zero l e s r T f w' x old E = absurd (omega arith)
child_replaced {w} (suc h) l e s r T f w' x old E =
    let q : l ≡ h = omega arith in
    inside_replaced s r T f w' x old (subst (λ n. (q : Has w n r.id r.sub) → Replaced w w' n q.stands.tree r.sub x old) q E)
