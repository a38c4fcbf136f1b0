-- A node's words after a piece is taken out of it or put into it, and after another node's words are put behind its own.
use mathlib.Core.Path.{◌≡◌, refl, sym, ap, ◌∙◌}
use mathlib.Core.List.{List, [], ◌∷◌, ◌++◌, append_assoc}
use mathlib.Core.Logic.{◌≢◌, ◌⊎◌, ⊎_elim}
use Prim.Native.Nat.{ℕ, zero, suc, ◌+◌, ◌-◌, ◌^◌, ◌≤◌, ◌<◌}
use native.Mathlib.Nat.{zero-add, suc-add}
use native.Mathlib.Omega.{arith}
use borrow.Rule.Slice.PartMut.{put_mid}
use lib.ListN.{length, get_or, set, replicate, length-append}
use lib.Seq.{sets, append_snoc}
use Rattle.lists.specs.Lists.{insert_at, remove_at}
use Rattle.lists.proofs.All.{All, nil, cons, all_append, all_take, all_drop, all_of}
use Rattle.lists.proofs.Edits.{length-insert_at, length-remove_at}
use Rattle.words.specs.Words.{run}
use Rattle.pool.specs.Layout.{node_words, start, block, with_block, slots, node_block}
use Rattle.pool.specs.Parts.{Inside, count_at, length_at, kid_at}
use Rattle.pool.proofs.Block.{block_other}
use Rattle.pool.proofs.Blocks.{length-slots}
use Rattle.pool.proofs.Store.{run-block, sets_in, set_in, with_block-same, part, block_put}
use Rattle.pool.proofs.Slots.{parts}
use Rattle.pool.proofs.Areas.{Area, elem_area, kid_area, length_parts, area_word, area_read, area_append, area_open, area_close}
use Rattle.tree.specs.Node.{Node}
use Rattle.tree.proofs.Standing.{node_count, node_size, lent, lent_count, lent_length, node_kid_at}
use Rattle.pieces.specs.declared.Spot.{Spot}
use Rattle.pieces.specs.Pieces.{Seated, Takes, TookOut, Puts, put_in, Joins, length_or, HasSlot}

-- a node has the length that its words say
pub some_node : (w : List ℕ) (k : ℕ) → k ≢ 0 → length_at w k ≡ length_or w k
unfolding length_or
some_node w zero n = absurd (n refl)
some_node w (suc k) n = refl

-- ---- a leaf's child slots

abbrev Zeros : List ℕ → Type 0
Zeros = All (λ (z : ℕ). z ≡ 0)

leaf-zeros : {w : List ℕ} {k : ℕ} (s : Seated w k) → get_or s.node.kids 0 0 ≡ 0 → Zeros s.node.kids
leaf-zeros s e = all_of 0 s.node.kids (s.leaf e)

-- zeros behind a list are its unused slots
zeros_behind : (n : ℕ) (xs : List ℕ) {zs : List ℕ} → Zeros zs → length xs + length zs ≤ n → slots n (xs ++ zs) ≡ slots n xs
unfolding slots
zeros_behind n xs {zs} Z l =
    let e : length zs + (n - length (xs ++ zs)) ≡ n - length xs = omega (arith, length-append xs zs) in
    append_assoc xs zs (replicate (n - length (xs ++ zs)) 0) ∙ ap (λ (ys : List ℕ). xs ++ ys) (rw (← e) (all_zeros Z (n - length (xs ++ zs))))
  where
    all_zeros : {zs : List ℕ} → Zeros zs → (m : ℕ) → zs ++ replicate m 0 ≡ replicate (length zs + m) 0
    all_zeros nil m = rw zero-add
    all_zeros (cons {xs = zs} e Z) m = rw (e, suc-add (length zs) m) (ap (λ (ys : List ℕ). 0 ∷ ys) (all_zeros Z m))

-- so that they look alike in a leaf, however many there are
zeros_alike : {xs ys : List ℕ} → Zeros xs → Zeros ys → length xs ≤ 32 → length ys ≤ 32 → slots 32 xs ≡ slots 32 ys
zeros_alike X Y l m = zeros_behind 32 [] X (omega arith) ∙ sym (zeros_behind 32 [] Y (omega arith))

-- ---- a piece taken out, and one put in

module _ {w : List ℕ} {from : Spot} {n : ℕ} (s : Takes w from n) (a : ℕ) (ea : a ≡ start from.node) (x y : ℕ) (b₁ b₂ : List ℕ) where
  pub took_out : (x ≡ get_or (part w a) (2 + from.elem) 0)
      × (b₁ ≡ sets (part w a) (2 + from.elem) (run (part w a) (2 + from.elem + 1) (2 + get_or (part w a) 0 0 - (2 + from.elem) - 1) ++ (0 ∷ [])))
      → ((y ≡ get_or b₁ (33 + from.kid) 0)
      × (b₂ ≡ sets b₁ (33 + from.kid) (run b₁ (33 + from.kid + 1) (33 + get_or (part w a) 0 0 + 1 - (33 + from.kid) - 1) ++ (0 ∷ []))))
      ⊎ ((get_or b₁ 33 0 ≡ 0) × (y ≡ 0) × (b₂ ≡ b₁))
      → TookOut w (put_mid a (a + node_words - a) w (set (set b₂ 0 (get_or (part w a) 0 0 - 1)) 1 (get_or (part w a) 1 0 - n))) from n
      s.seated.node (record { elem = x; kid = y })
  unfolding node_block remove_at
  took_out p q =
      let m = s.seated.node in
      let fe = m.few_elems in
      let one_more = s.seated.seats in
      let is : List ℕ = remove_at m.elems from.elem in
      let js : List ℕ = remove_at m.kids from.kid in
      let li : length is + 1 ≡ length m.elems = length-remove_at m.elems from.elem s.elem in
      let lj : length js + 1 ≡ length m.kids = length-remove_at m.kids from.kid (omega (arith, s.kid)) in
      let si : length (slots 31 is) ≡ 31 = length-slots 31 is (omega arith) in
      let E = elem_area (length m.elems) m.size (slots 32 m.kids) in
      let K = kid_area (length m.elems) m.size (slots 31 is) si in
      let count = lent_count m a ea in
      let one : b₁ ≡ parts (length m.elems) m.size (slots 31 is) (slots 32 m.kids) 0 =
      p.1 ∙ rw (count, lent m a ea) (area_close E m.elems fe from.elem (2 + length m.elems) s.elem refl) in
      let slot : (c : ℕ) → c < 32 → get_or b₁ (33 + c) 0 ≡ get_or m.kids c 0 = (λ c l. rw one (area_word K m.kids m.few_kids c l)) in
      let two : (y ≡ get_or m.kids from.kid 0) × (b₂ ≡ parts (length m.elems) m.size (slots 31 is) (slots 32 js) 0) =
      ⊎_elim
      (λ r. (
        r.0 ∙ slot from.kid (omega (arith, s.kid)),
        r.1 ∙ rw (count, one) (area_close K m.kids m.few_kids from.kid (33 + length m.elems + 1) (omega (arith, s.kid)) (omega arith)),
      ))
      (λ r.
      let first : get_or m.kids 0 0 ≡ 0 = sym (slot 0 (omega arith)) ∙ r.0 in
      let Z = leaf-zeros s.seated first in (
        r.1 ∙ sym (s.seated.leaf first from.kid (omega (arith, s.kid))),
        r.2 ∙ one ∙ ap (λ (z : List ℕ). parts (length m.elems) m.size (slots 31 is) z 0)
            (zeros_alike Z (all_append (all_take from.kid Z) (all_drop (suc from.kid) Z)) m.few_kids (omega arith)),
      )) q in
      let less : length m.elems - 1 ≡ length is = omega arith in
      record {
        elem = p.0 ∙ rw (lent m a ea) (area_word E m.elems fe from.elem (omega (arith, s.elem)));
        kid = two.0;
        words = rw (count, lent_length m a ea, two.1, less)
            (block_put w a from.node ea (parts (length is) (m.size - n) (slots 31 is) (slots 32 js) 0) m.stored.inside
            (length_parts (length is) (m.size - n) (slots 31 is) (slots 32 js) si (length-slots 32 js (omega arith))));
      }

module _ {w : List ℕ} {to : Spot} {n : ℕ} (s : Puts w to n) (a : ℕ) (ea : a ≡ start to.node) (x y : ℕ)
    (leaf : y ≡ 0 → kid_at w to.node 0 ≡ 0) (b₁ b₂ : List ℕ) where
  pub put_in_lem : b₁ ≡ sets (part w a) (2 + to.elem) (x ∷ run (part w a) (2 + to.elem) (2 + get_or (part w a) 0 0 - (2 + to.elem)))
      → (b₂ ≡ sets b₁ (33 + to.kid) (y ∷ run b₁ (33 + to.kid) (33 + get_or (part w a) 0 0 + 1 - (33 + to.kid)))) ⊎ ((y ≡ 0) × (b₂ ≡ b₁))
      → put_mid a (a + node_words - a) w (set (set b₂ 0 (get_or (part w a) 0 0 + 1)) 1 (get_or (part w a) 1 0 + n))
      ≡ with_block w to.node (put_in s.seated.node to.elem to.kid x y n)
  unfolding node_block insert_at
  put_in_lem p q =
      let m = s.seated.node in
      let fe = m.few_elems in
      let one_more = s.seated.seats in
      let is : List ℕ = insert_at m.elems to.elem x in
      let js : List ℕ = insert_at m.kids to.kid y in
      let li : length is ≡ length m.elems + 1 = length-insert_at m.elems to.elem x s.elem in
      let lj : length js ≡ length m.kids + 1 = length-insert_at m.kids to.kid y (omega (arith, s.kid)) in
      let si : length (slots 31 is) ≡ 31 = length-slots 31 is (omega (arith, s.room)) in
      let E = elem_area (length m.elems) m.size (slots 32 m.kids) in
      let K = kid_area (length m.elems) m.size (slots 31 is) si in
      let count = lent_count m a ea in
      let one : b₁ ≡ parts (length m.elems) m.size (slots 31 is) (slots 32 m.kids) 0 =
      p ∙ rw (count, lent m a ea) (area_open E m.elems fe to.elem (2 + length m.elems) x s.elem (omega (arith, s.room)) refl) in
      let two : b₂ ≡ parts (length m.elems) m.size (slots 31 is) (slots 32 js) 0 =
      ⊎_elim
      (λ r.
      r ∙ rw (count, one) (area_open K m.kids m.few_kids to.kid (33 + length m.elems + 1) y (omega (arith, s.kid)) (omega (arith, s.room))
      (omega arith)))
      (λ r.
      let Z = leaf-zeros s.seated (sym (node_kid_at m 0 (omega arith)) ∙ leaf r.0) in
      r.1 ∙ one ∙ ap (λ (z : List ℕ). parts (length m.elems) m.size (slots 31 is) z 0)
      (zeros_alike Z (all_append (all_take to.kid Z) (cons r.0 (all_drop to.kid Z))) m.few_kids (omega (arith, s.room)))) q in
      rw (count, lent_length m a ea, two, ← li)
      (block_put w a to.node ea (parts (length is) (m.size + n) (slots 31 is) (slots 32 js) 0) m.stored.inside
      (length_parts (length is) (m.size + n) (slots 31 is) (slots 32 js) si (length-slots 32 js (omega (arith, s.room)))))

-- ---- what is below a child slot

pub slot_few : {w : List ℕ} {k j : ℕ} → HasSlot w k j → j < 32
slot_few s = omega (arith, s.place, s.seated.node.few_elems)

module _ {w : List ℕ} {k j : ℕ} (s : HasSlot w k j) (y : ℕ) (ey : y ≡ kid_at w k j) where
  slot_is : y ≡ get_or s.seated.node.kids j 0
  slot_is = ey ∙ node_kid_at s.seated.node j (slot_few s)

  pub below_none : y ≡ 0 → 0 ≡ length_or w (get_or s.seated.node.kids j 0)
  unfolding length_or
  below_none z = rw (← slot_is, z) refl

  pub below_inside : y ≢ 0 → Inside w y
  below_inside n = rw slot_is (s.inside (λ e. n (slot_is ∙ e)))

  pub below_some : y ≢ 0 → (n : ℕ) → n ≡ length_at w y → n ≡ length_or w (get_or s.seated.node.kids j 0)
  below_some n r e = e ∙ rw (← slot_is) (some_node w y n)

-- ---- another node's words put behind a node's own

-- what the code may count on; m and n are the counts, u and v the sizes
pub record Bounds (w : List ℕ) (l r m n u v : ℕ) : Type 0 where
  pub left_room : start l + node_words ≤ length w
  pub right_room : start r + node_words ≤ length w
  pub few : m + n ≤ 30
  pub small : u + v < 2 ^ 32

pub bounds : {w : List ℕ} {l r m n u v : ℕ} → Joins w l r → m ≡ count_at w l → n ≡ count_at w r → u ≡ length_at w l → v ≡ length_at w r
    → Bounds w l r m n u v
bounds s em en eu ev = record {
  left_room = s.left.node.stored.inside.room;
  right_room = s.right.node.stored.inside.room;
  few = rw (em, en, node_count s.left.node, node_count s.right.node) s.room;
  small = rw (eu, ev, node_size s.left.node, node_size s.right.node) s.small;
}

module _ {w : List ℕ} {l r : ℕ} (s : Joins w l r) (a b : ℕ) (ea : a ≡ start l) (eb : b ≡ start r) where
  abbrev L : Node w l
  L = s.left.node

  abbrev R : Node w r
  R = s.right.node

  -- the right node, with other words in the left one; and a run of it
  elsewhere : (X : List ℕ) → length X ≡ node_words → block (with_block w l X) r ≡ block w r
  elsewhere X e = block_other w l X e r R.stored.inside.some L.stored.inside.some (λ q. s.apart (sym q))

  fetched : (X : List ℕ) → length X ≡ node_words → (o n : ℕ) → o + n ≤ node_words
      → run (with_block w l X) (b + o) n ≡ run (node_block R.size R.elems R.kids) o n
  fetched X e o n m = rw (eb, run-block (with_block w l X) r o n m, elsewhere X e, R.stored.is)

  -- words put behind those of the left node that are kept in an area
  behind : {B : List ℕ → List ℕ} {o n : ℕ} (A : Area B o n) (xs ys : List ℕ) (at : ℕ) → length (B (slots n xs)) ≡ node_words
      → at ≡ a + (o + length xs) → length xs + length ys ≤ n → o + n ≤ node_words
      → sets (with_block w l (B (slots n xs))) at ys ≡ with_block w l (B (slots n (xs ++ ys)))
  behind {B} {o} {n} A xs ys at e f m g =
      rw (f, ea, sets_in w l (B (slots n xs)) e (o + length xs) ys (omega arith))
      (ap (with_block w l) (area_append A xs (omega arith) (o + length xs) ys refl m))

  abbrev m : ℕ
  m = length L.elems

  abbrev n : ℕ
  n = length R.elems

  all_behind : (x : ℕ) (w₁ w₂ : List ℕ)
      → w₁ ≡ sets (set w (a + 2 + m) x) (a + 2 + m + 1) (run (set w (a + 2 + m) x) (b + 2) n)
      → (w₂ ≡ sets w₁ (a + 33 + m + 1) (run w₁ (b + 33) (n + 1))) ⊎ ((kid_at w₁ r 0 ≡ 0) × (w₂ ≡ w₁))
      → set (set w₂ (a + 0) (m + n + 1)) (a + 1) (L.size + R.size + 1)
      ≡ with_block w l (node_block (L.size + R.size + 1) (L.elems ++ (x ∷ R.elems)) (L.kids ++ R.kids))
  unfolding node_block
  all_behind x w₁ w₂ p q =
      let es : List ℕ = L.elems ++ (x ∷ []) in
      let fs : List ℕ = es ++ R.elems in
      let ks : List ℕ = L.kids ++ R.kids in
      let room = s.room in
      let le : length es ≡ m + 1 = length-append L.elems (x ∷ []) in
      let lf : length fs ≡ m + n + 1 = omega (arith, length-append es R.elems) in
      let lk : length ks ≡ m + n + 2 = omega (arith, length-append L.kids R.kids, s.left.seats, s.right.seats) in
      let sf : length (slots 31 fs) ≡ 31 = length-slots 31 fs (omega arith) in
      let long : (zs js : List ℕ) → length zs ≤ 31 → length js ≤ 32 → length (parts m L.size (slots 31 zs) (slots 32 js) 0) ≡ node_words =
      (λ zs js f g. length_parts m L.size (slots 31 zs) (slots 32 js) (length-slots 31 zs f) (length-slots 32 js g)) in
      let E = elem_area m L.size (slots 32 L.kids) in
      let K = kid_area m L.size (slots 31 fs) sf in
      let X : List ℕ = parts m L.size (slots 31 es) (slots 32 L.kids) 0 in
      let Y : List ℕ = parts m L.size (slots 31 fs) (slots 32 L.kids) 0 in
      let Z : List ℕ = parts m L.size (slots 31 fs) (slots 32 ks) 0 in
      let first : set w (a + 2 + m) x ≡ with_block w l X =
      ap (λ (u : List ℕ). set u (a + 2 + m) x)
      (sym (with_block-same w l L.stored.inside) ∙ ap (with_block w l) L.stored.is)
      ∙ (behind E L.elems (x ∷ []) (a + 2 + m) (long L.elems L.kids L.few_elems L.few_kids) (omega arith) (omega arith) (omega arith)) in
      let elems : w₁ ≡ with_block w l Y =
      p ∙ rw (
        first,
        fetched X (long es L.kids (omega arith) L.few_kids) 2 n (omega arith),
        area_read (elem_area n R.size (slots 32 R.kids)) R.elems R.few_elems 2 (omega arith),
      )
      (behind E es R.elems (a + 2 + m + 1) (long es L.kids (omega arith) L.few_kids) (omega arith) (omega arith) (omega arith)) in
      let Y-long = long fs L.kids (omega arith) L.few_kids in
      let kids : w₂ ≡ with_block w l Z =
      ⊎_elim
      (λ v.
      v ∙ rw (
        elems,
        fetched Y Y-long 33 (n + 1) (omega arith),
        ← s.right.seats,
        area_read (kid_area n R.size (slots 31 R.elems) (length-slots 31 R.elems R.few_elems)) R.kids R.few_kids 33 (omega arith),
      )
      (behind K L.kids R.kids (a + 33 + m + 1) Y-long (omega (arith, s.left.seats))
      (omega (arith, length-append L.kids R.kids)) (omega arith)))
      (λ v.
      let first : get_or R.kids 0 0 ≡ 0 =
      sym (node_kid_at R 0 (omega arith)) ∙ sym (ap (λ (z : List ℕ). get_or z 33 0) (elsewhere Y Y-long)) ∙ rw elems at v.0 in
      v.1 ∙ elems ∙ ap (λ (z : List ℕ). with_block w l (parts m L.size (slots 31 fs) z 0))
      (sym (zeros_behind 32 L.kids (leaf-zeros s.right first) (omega (arith, length-append L.kids R.kids))))) q in
      rw (
        kids,
        ea,
        set_in w l Z (long fs ks (omega arith) (omega arith)) 0 (m + n + 1) (omega arith),
        set_in w l (parts (m + n + 1) L.size (slots 31 fs) (slots 32 ks) 0)
            (length_parts (m + n + 1) L.size (slots 31 fs) (slots 32 ks) sf (length-slots 32 ks (omega arith))) 1 (L.size + R.size + 1) (omega arith),
        ← lf,
        append_snoc L.elems x R.elems,
      ) refl

  -- the same of what the code read
  pub appended : (x m n u v : ℕ) (w₁ w₂ : List ℕ) → m ≡ count_at w l → n ≡ count_at w r → u ≡ length_at w l → v ≡ length_at w r
      → w₁ ≡ sets (set w (a + 2 + m) x) (a + 2 + m + 1) (run (set w (a + 2 + m) x) (b + 2) n)
      → (w₂ ≡ sets w₁ (a + 33 + m + 1) (run w₁ (b + 33) (n + 1))) ⊎ ((kid_at w₁ r 0 ≡ 0) × (w₂ ≡ w₁))
      → set (set w₂ (a + 0) (m + n + 1)) (a + 1) (u + v + 1)
      ≡ with_block w l (node_block (L.size + R.size + 1) (L.elems ++ (x ∷ R.elems)) (L.kids ++ R.kids))
  appended x m n u v w₁ w₂ em en eu ev p q =
      let im = em ∙ node_count L in
      let jn = en ∙ node_count R in
      rw (im, jn, eu ∙ node_size L, ev ∙ node_size R) (all_behind x w₁ w₂ (rw (im, jn) at p) (rw (im, jn) at q))
