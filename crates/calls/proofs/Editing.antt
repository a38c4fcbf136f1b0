-- What an edit does to the bag that a pool holds, from what the tree functions leave.
use mathlib.Core.Path.{◌≡◌, refl, sym, ap, subst, ◌∙◌}
use mathlib.Core.List.{List}
use Prim.Native.Nat.{ℕ, ◌≤◌, ◌<◌}
use native.Mathlib.Omega.{arith}
use native.Mathlib.Decide.{dec_lt}
use lib.ListN.{length, get_or, set}
use Rattle.std.specs.Prelude.{Option, Some, None}
use Rattle.model.specs.declared.Answer.{Answer}
use Rattle.model.specs.Tree.{Tree, replace, Root, Bag, root_ids, bag_get, bag_replace, levels_of}
use Rattle.model.specs.Calls.{refused, gives, length_of, Outcome, outcome, insert_call, replace_call, remove_call}
use Rattle.model.specs.Insert.{needed, bag_insert}
use Rattle.model.specs.Remove.{bag_remove}
use Rattle.model.proofs.Nodes.{same_id}
use Rattle.model.proofs.Get.{replace_law}
use Rattle.model.proofs.Calls.{insert_full, insert-done, replace-done, remove-done}
use Rattle.model.proofs.Bags.{bag_replace_lem, bag_insert_lem, bag_remove_lem}
use Rattle.pool.specs.Layout.{root_word, chain_word, root_id}
use Rattle.pool.specs.Sound.{Holds}
use Rattle.pool.specs.Parts.{RootAt}
use Rattle.pool.specs.Frame.{Untouched}
use Rattle.pool.proofs.Whole.{holds_parts, parts_holds, unique}
use Rattle.pool.proofs.Frame.{chain_inside, chain_frame}
use Rattle.tree.specs.declared.Known.{Known}
use Rattle.tree.specs.Stands.{known_of}
use Rattle.tree.specs.Lookup.{Has, Replaced}
use Rattle.insertion.specs.Ready.{BagReady, Inserts}
use Rattle.removal.specs.declared.Taken.{Taken}
use Rattle.removal.specs.Ready.{BagHas, BagRemoves}
use Rattle.calls.specs.Does.{Ready, Does}
use Rattle.calls.proofs.Bags.{holds_stands, lawful_edited, became_holds}
use Rattle.calls.proofs.Reading.{root_of, root_has}

-- what a call is on a bag, and a pool that holds what it leaves
pub does : {w' : List ℕ} (call : Bag → Outcome) (b : Bag) (o : Outcome) → call b ≡ o → (a : Answer) (k : Known) → a ≡ o.answer
    → k ≡ known_of o.bag → Holds w' o.bag → Does call b a k w'
does {w'} call b o e a k p q H = record {
  answer = p ∙ sym (ap (λ (u : Outcome). u.answer) e);
  holds = subst (λ (u : Outcome). Holds w' u.bag) (sym e) H;
  known = q ∙ sym (ap (λ (u : Outcome). known_of u.bag) e);
}

-- ---- replacement

module _ {w w' : List ℕ} {k : Known} (s : Ready w k) (i x old : ℕ) (l : i < length_of s.bag)
    (R : (q : Has w k.levels k.root i) → Replaced w w' k.levels q.stands.tree i x old) where
  -- what the tree function leaves, at the bag's root
  record Left (b : Bag) : Type 0 where
    given : old ≡ (bag_get b i).element
    known : known_of (bag_replace b i x) ≡ known_of b
    free : (bag_replace b i x).free ≡ b.free
    tree : RootAt w' (bag_replace b i x).root
    untouched : Untouched w w' (root_ids b.root)
    chain : get_or w' chain_word 0 ≡ get_or w chain_word 0

  left : Left s.bag
  unfolding bag_get bag_replace root_id levels_of root_ids
  left =
      let Q = root_of s i l in
      let h : ℕ = k.levels in
      let t : Tree h = Q.tree in
      let q = R (root_has s i l) in
      let M = replace_law h t Q.owns.fit i x (omega (arith, l, Q.long)) in
      subst (λ (r : Root). Left (record { root = r; free = s.bag.free })) (sym Q.is) (record {
        given = q.given;
        known = ap (λ (j : ℕ). record { root = j; levels = h; free = length s.bag.free }) (same_id h (replace h t i x) t M.nodes);
        free = refl;
        tree = q.at;
        untouched = q.untouched;
        chain = q.chain;
      })

  pub replace_does : Does (replace_call i x) s.bag (gives old) k w'
  replace_does =
      let b : Bag = s.bag in
      let P = holds_parts s.holds in
      let L = left in
      let E = bag_replace_lem b i x s.holds.lawful.fit l in
      let H : Holds w' (bag_replace b i x) =
      parts_holds (lawful_edited s.holds.lawful E) (record {
        sized = L.untouched.long ∙ P.sized;
        top = L.untouched.head root_word (omega arith) (omega arith) ∙ P.top ∙ sym (ap (λ (k : Known). k.root) L.known);
        tree = L.tree;
        chain = rw L.free
            (chain_frame w w' L.untouched.long b.free
            (λ j m. L.untouched.others j (chain_inside w b.free P.chain j m) (omega (arith, unique s.holds.lawful j)))
            L.chain P.chain);
      }) in
      does (replace_call i x) b (outcome (gives (bag_get b i).element) (bag_replace b i x)) (replace-done b i x l)
      _ k (ap gives L.given) (s.is ∙ sym L.known) H

-- ---- insertion

abbrev pub insert_ready : {w : List ℕ} {k : Known} {i : ℕ} (s : Ready w k) → i ≤ length_of s.bag → BagReady w k i
insert_ready s l = record { bag = s.bag; stands = holds_stands s.holds; is = s.is; upto = l }

module _ {w w' : List ℕ} {k : Known} (s : Ready w k) (i x : ℕ) (l : i ≤ length_of s.bag) (r : Option Known)
    (I : (q : BagReady w k i) → Inserts w w' q.bag i x r) where
  inserts : Inserts w w' s.bag i x r
  inserts = I (insert_ready s l)

  abbrev need : ℕ
  need = needed s.bag.root i

  pub insert_long : length w' ≡ length w
  insert_long =
      elim (dec_lt (length s.bag.free) need) [
        | yes n ↦ ap length (inserts.refused n).1
        | no n ↦ (inserts.accepted (omega arith)).1.untouched.long
      ]

  -- refused for room: the pool is as it was
  pub insert-refused : r ≡ None → Does (insert_call i x) s.bag (refused 3) k w'
  insert-refused e =
      elim (dec_lt (length s.bag.free) need) [
        | yes n ↦ does (insert_call i x) s.bag (outcome (refused 3) s.bag) (insert_full s.bag i x l n) _ k refl s.is
            (rw (inserts.refused n).1 s.holds)
        | no n ↦ (let d = (inserts.accepted (omega arith)).0 in cc)
      ]

  -- done: the new root is stored
  pub insert_does : (d : Known) → r ≡ Some d → Does (insert_call i x) s.bag (gives 0) d (set w' root_word d.root)
  insert_does d e =
      elim (dec_lt (length s.bag.free) need) [
        | yes n ↦ (let z = (inserts.refused n).0 in cc)
        | no n ↦
            (let A = inserts.accepted (omega arith) in
            let E = (bag_insert_lem s.bag i x s.holds.lawful.fit l (omega arith)).edited in
            let k : d ≡ known_of (bag_insert s.bag i x) = cc in
            does (insert_call i x) s.bag (outcome (gives 0) (bag_insert s.bag i x)) (insert-done s.bag i x l (omega arith))
            _ d refl k (rw (ap (λ (k : Known). k.root) k) (became_holds s.holds E A.1)))
      ]

-- ---- removal

abbrev pub remove_ready : {w : List ℕ} {k : Known} {i : ℕ} (s : Ready w k) → i < length_of s.bag → BagHas w k i
remove_ready s l = record { bag = s.bag; stands = holds_stands s.holds; is = s.is; below = l }

module _ {w w' : List ℕ} {k : Known} (s : Ready w k) (i : ℕ) (l : i < length_of s.bag) (r : Taken)
    (R : (q : BagHas w k i) → BagRemoves w w' q.bag i r) where
  pub remove_does : Does (remove_call i) s.bag (gives r.old) r.known (set w' root_word r.known.root)
  remove_does =
      let D = R (remove_ready s l) in
      let E = (bag_remove_lem s.bag i s.holds.lawful.fit l).edited in
      let B = D.became in
      does (remove_call i) s.bag (outcome (gives (bag_remove s.bag i).old) (bag_remove s.bag i).bag) (remove-done s.bag i l)
      _ r.known (ap gives D.old) B.known
      (rw (ap (λ (k : Known). k.root) B.known) (became_holds s.holds E B))
