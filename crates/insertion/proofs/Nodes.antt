-- What the functions on single nodes leave.
use mathlib.Core.Path.{◌≡◌, refl, ap, ◌∙◌}
use mathlib.Core.List.{List, ◌∷◌}
use Prim.Native.Nat.{ℕ, ◌+◌, ◌-◌}
use native.Mathlib.Omega.{arith}
use borrow.Rule.Slice.PartMut.{put_mid}
use lib.ListN.{length, get_or, set}
use lib.Seq.{sets}
use Rattle.lists.specs.Lists.{insert_at}
use Rattle.lists.proofs.Edits.{length-insert_at}
use Rattle.words.specs.Words.{run}
use Rattle.pool.specs.Layout.{node_words, start, with_block, slots, node_block}
use Rattle.pool.proofs.Store.{set-block, part}
use Rattle.pool.proofs.Areas.{elem_area, area_open}
use Rattle.tree.proofs.Standing.{lent, length_word, counted, came_back}
use Rattle.insertion.specs.Nodes.{HasRoom, Counts}

module _ {w : List ℕ} {k i : ℕ} (s : HasRoom w k i) (a : ℕ) (ea : a ≡ start k) where
  pub element_put : (x : ℕ) (p : List ℕ)
      → p ≡ sets (part w a) (2 + i) (x ∷ run (part w a) (2 + i) (2 + get_or (part w a) 0 0 - (2 + i)))
      → put_mid a (a + node_words - a) w (set (set p 0 (get_or (part w a) 0 0 + 1)) 1 (get_or (part w a) 1 0 + 1))
      ≡ with_block w k (node_block (s.node.size + 1) (insert_at s.node.elems i x) s.node.kids)
  unfolding node_block
  element_put x p e =
      let m = s.node in
      let es : List ℕ = m.elems in
      let l = length-insert_at es i x s.place in
      let E = elem_area (length es) m.size (slots 32 m.kids) in
      let o = area_open E es m.few_elems i (2 + length es) x s.place s.room refl in
      rw (e, lent m a ea)
      (came_back w a k ea m.stored.inside (m.size + 1) (insert_at es i x) m.kids
      (ap (λ (q : List ℕ). set (set q 0 (length es + 1)) 1 (m.size + 1)) o
      ∙ counted (length es + 1) (m.size + 1) (insert_at es i x) m.kids l)
      (omega arith) m.few_kids)

pub lengthened : {w : List ℕ} {k : ℕ} (s : Counts w k) (a : ℕ) → a ≡ start k
    → set w (a + 1) (get_or w (a + 1) 0 + 1) ≡ with_block w k (node_block (s.node.size + 1) s.node.elems s.node.kids)
unfolding node_block
lengthened {w} {k} s a ea =
    let m = s.node in
    rw (length_word m a ea, ea, set-block w k m.stored.inside 1 (m.size + 1) (omega arith), m.stored.is)
