-- What the functions on single nodes leave.
use mathlib.Core.Path.{◌≡◌, refl, ap, ◌∙◌}
use mathlib.Core.List.{List, [], ◌∷◌}
use mathlib.Core.Logic.{◌≢◌}
use Prim.Native.Nat.{ℕ, ◌+◌, ◌-◌, ◌≤◌}
use native.Mathlib.Omega.{arith}
use borrow.Rule.Slice.PartMut.{put_mid}
use lib.ListN.{length, get_or, set, take, drop, replicate, length-take, length-drop}
use lib.Seq.{sets}
use Rattle.lists.specs.Lists.{insert_at}
use Rattle.lists.proofs.Edits.{length-insert_at}
use Rattle.words.specs.Words.{run}
use Rattle.words.proofs.Laws.{run_length}
use Rattle.pool.specs.Layout.{node_words, start, block, with_block, slots, node_block}
use Rattle.pool.proofs.Block.{block_other}
use Rattle.pool.proofs.Blocks.{length-slots}
use Rattle.pool.proofs.Store.{run-block, sets_in, set_in, sets-block, part, block_in}
use Rattle.pool.proofs.Slots.{parts}
use Rattle.pool.proofs.Areas.{elem_area, kid_area, length_parts, area_open, area_clear, area_copy}
use Rattle.chain.specs.Chain.{Blank}
use Rattle.tree.proofs.Standing.{lent, counted, came_back}
use Rattle.split.specs.Nodes.{HasKidRoom, Full, Moves}

module _ {w : List ℕ} {k c : ℕ} (s : HasKidRoom w k c) (a : ℕ) (ea : a ≡ start k) where
  pub separator_put : (x j : ℕ) (p q : List ℕ)
      → p ≡ sets (part w a) (2 + c) (x ∷ run (part w a) (2 + c) (2 + get_or (part w a) 0 0 - (2 + c)))
      → q ≡ sets p (33 + (c + 1)) (j ∷ run p (33 + (c + 1)) (33 + (get_or (part w a) 0 0 + 1) - (33 + (c + 1))))
      → put_mid a (a + node_words - a) w (set q 0 (get_or (part w a) 0 0 + 1))
      ≡ with_block w k (node_block s.node.size (insert_at s.node.elems c x) (insert_at s.node.kids (c + 1) j))
  unfolding node_block
  separator_put x j p q ep eq =
      let m = s.node in
      let es : List ℕ = m.elems in
      let ks : List ℕ = m.kids in
      let n : ℕ = length es in
      let l = length-insert_at es c x s.place in
      let lk = length-insert_at ks (c + 1) j (omega (arith, s.place, s.one_more)) in
      let le : length (slots 31 (insert_at es c x)) ≡ 31 = length-slots 31 (insert_at es c x) (omega (arith, s.room)) in
      let o = area_open (elem_area n m.size (slots 32 ks)) es m.few_elems c (2 + n) x s.place s.room refl in
      let u = area_open (kid_area n m.size (slots 31 (insert_at es c x)) le) ks m.few_kids (c + 1) (33 + (n + 1)) j
      (omega (arith, s.place, s.one_more)) (omega (arith, s.room, s.one_more)) (omega (arith, s.one_more)) in
      rw (eq, ep, lent m a ea, o)
      (came_back w a k ea m.stored.inside m.size (insert_at es c x) (insert_at ks (c + 1) j)
      (ap (λ (q : List ℕ). set q 0 (n + 1)) u ∙ counted (n + 1) m.size (insert_at es c x) (insert_at ks (c + 1) j) l)
      (omega arith) (omega (arith, s.room, s.one_more)))

module _ {w : List ℕ} {k : ℕ} (s : Full w k) (a : ℕ) (ea : a ≡ start k) where
  pub lower_kept : (n : ℕ) (p q : List ℕ) → p ≡ sets (part w a) 17 (replicate 16 0) → q ≡ sets p 49 (replicate 16 0)
      → put_mid a (a + node_words - a) w (set (set q 0 15) 1 n)
      ≡ with_block w k (node_block n (take 15 s.node.elems) (take 16 s.node.kids))
  unfolding node_block
  lower_kept n p q ep eq =
      let m = s.node in
      let es : List ℕ = m.elems in
      let ks : List ℕ = m.kids in
      let zs : List ℕ = replicate 16 0 in
      let l : length (take 15 es) ≡ 15 = omega (arith, length-take 15 es, s.full) in
      let o = area_clear (elem_area (length es) m.size (slots 32 ks)) es m.few_elems 15 (omega arith) in
      let u = area_clear (kid_area (length es) m.size (slots 31 (take 15 es)) (length-slots 31 (take 15 es) (omega arith))) ks m.few_kids 16
      (omega arith) in
      let cleared = eq ∙ ap (λ (r : List ℕ). sets r 49 zs) (ep ∙ ap (λ (r : List ℕ). sets r 17 zs) (lent m a ea) ∙ o) ∙ u in
      came_back w a k ea m.stored.inside n (take 15 es) (take 16 ks)
      (ap (λ (r : List ℕ). set (set r 0 15) 1 n) cleared ∙ counted 15 n (take 15 es) (take 16 ks) l)
      (omega arith) (omega (arith, length-take 16 ks))

pub above_put : {w : List ℕ} {k : ℕ} → Blank w k → (a : ℕ) → a ≡ start k → (n child : ℕ)
    → put_mid a (a + node_words - a) w (set (set (part w a) 1 n) 33 child) ≡ with_block w k (node_block n [] (child ∷ []))
unfolding node_block
above_put {w} {k} S a ea n child =
    rw (block_in w a k ea, S.is) (came_back w a k ea S.inside n [] (child ∷ []) refl (omega arith) (omega arith))

-- ---- the upper half moved to a blank node

long : (z n : ℕ) (es ks : List ℕ) → length es ≤ 31 → length ks ≤ 32 → length (parts z n (slots 31 es) (slots 32 ks) 0) ≡ node_words
long z n es ks le lk = length_parts z n (slots 31 es) (slots 32 ks) (length-slots 31 es le) (length-slots 32 ks lk)

moves_apart : {w : List ℕ} {k j : ℕ} → Moves w k j → k ≢ j
unfolding node_block
moves_apart {w} {k} {j} s e =
    let b : get_or (block w k) 0 0 ≡ length s.node.elems = rw s.node.stored.is in
    let z : get_or (block w k) 0 0 ≡ 0 = rw (e, s.blank.is) in
    omega (arith, s.full)

module _ {w : List ℕ} {k j : ℕ} (s : Moves w k j) (a b : ℕ) (ea : a ≡ start k) (eb : b ≡ start j) where
  pub upper_moved : (n : ℕ) (w₁ w₂ : List ℕ) → w₁ ≡ sets w (b + 2) (run w (a + 18) 15) → w₂ ≡ sets w₁ (b + 33) (run w₁ (a + 49) 16)
      → set (set w₂ (b + 0) 15) (b + 1) n ≡ with_block w j (node_block n (drop 16 s.node.elems) (drop 16 s.node.kids))
  unfolding node_block
  upper_moved n w₁ w₂ e₁ e₂ =
      let m = s.node in
      let I = s.blank.inside in
      let es : List ℕ = m.elems in
      let ks : List ℕ = m.kids in
      let le : length (drop 16 es) ≡ 15 = omega (arith, length-drop 16 es, s.full) in
      let lk : length (drop 16 ks) ≤ 32 = omega (arith, length-drop 16 ks, m.few_kids) in
      let ys : List ℕ = run (slots 31 es) 16 15 in
      let zs : List ℕ = run (slots 32 ks) 16 16 in
      let se : length (slots 31 es) ≡ 31 = length-slots 31 es m.few_elems in
      let sd : length (slots 31 (drop 16 es)) ≡ 31 = length-slots 31 (drop 16 es) (omega arith) in
      let sk : length (slots 32 ks) ≡ 32 = length-slots 32 ks m.few_kids in
      let ly : length ys ≡ 15 = run_length (slots 31 es) 16 15 (omega arith) in
      let lz : length zs ≡ 16 = run_length (slots 32 ks) 16 16 (omega arith) in
      let B : List ℕ = parts 0 0 (slots 31 (drop 16 es)) (slots 32 []) 0 in
      let C : List ℕ = parts 0 0 (slots 31 (drop 16 es)) (slots 32 (drop 16 ks)) 0 in
      let l_b : length B ≡ node_words = long 0 0 (drop 16 es) [] (omega arith) (omega arith) in
      let lC : length C ≡ node_words = long 0 0 (drop 16 es) (drop 16 ks) (omega arith) lk in
      let one : w₁ ≡ with_block w j B = rw (
        e₁,
        ea,
        eb,
        run-block w k 18 15 (omega arith),
        m.stored.is,
        (elem_area (length es) m.size (slots 32 ks)).reads (slots 31 es) 16 15 se (omega arith),
        sets-block w j I 2 ys (omega arith),
        s.blank.is,
        area_copy (elem_area 0 0 (slots 32 [])) es m.few_elems 16 (omega arith),
      ) refl in
      let other : block (with_block w j B) k ≡ node_block m.size es ks =
      block_other w j B l_b k m.stored.inside.some I.some (moves_apart s) ∙ m.stored.is in
      let two : w₂ ≡ with_block w j C = rw (
        e₂,
        one,
        ea,
        eb,
        run-block (with_block w j B) k 49 16 (omega arith),
        other,
        (kid_area (length es) m.size (slots 31 es) se).reads (slots 32 ks) 16 16 sk (omega arith),
        sets_in w j B l_b 33 zs (omega arith),
        area_copy (kid_area 0 0 (slots 31 (drop 16 es)) sd) ks m.few_kids 16 (omega arith),
      ) refl in
      rw (two, eb, set_in w j C lC 0 15 (omega arith), set_in w j (set C 0 15) lC 1 n (omega arith))
      (ap (with_block w j) (counted 15 n (drop 16 es) (drop 16 ks) le))
