-- A node's child slots and what is below them, leaf or not; and the two ends of a node, from which a piece goes to a neighbour.
use mathlib.Core.Path.{◌≡◌, refl, sym, ap, subst, ◌∙◌}
use mathlib.Core.List.{List, [], ◌∷◌, ◌++◌, map, map-append, append-nil}
use mathlib.Core.Logic.{◌≢◌}
use Prim.Native.Nat.{ℕ, zero, suc, ◌+◌, ◌-◌, ◌≤◌, ◌<◌}
use native.Mathlib.Numerals.{add-one}
use native.Mathlib.Omega.{arith}
use lib.ListN.{length, take, drop, get_or, replicate, length-append, length-drop, length-map, length-replicate, get_or-replicate, get_or-map}
use lib.ListN.{take-append-drop, drop_of_length-le, replicate-append-replicate}
use lib.Seq.{take-suc, drop-cons}
use Rattle.lists.specs.Lists.{sum, insert_at, remove_at, but_last}
use Rattle.lists.proofs.Sums.{total, total_append}
use Rattle.lists.proofs.Edits.{length-insert_at, length-remove_at, insert_at_end, map-remove_at}
use Rattle.model.specs.Tree.{Tree, Below, kid, none, size}
use Rattle.model.specs.Fit.{Fit}
use Rattle.model.specs.Remove.{joined, gave_last, took_front, gave_first, took_back}
use Rattle.model.proofs.Nodes.{most}
use Rattle.pool.specs.Layout.{slots, node_block, id_of, root_block}
use Rattle.pool.specs.Parts.{Inside, Stored, At}
use Rattle.pool.proofs.Node.{at_length}
use Rattle.pieces.specs.Pieces.{Seated, length_or}
use Rattle.pieces.proofs.Pieces.{some_node}

-- ---- lists: the last element out, and by itself

module _ {A : Type 0} where
  last_out : (xs : List A) (m : ℕ) → length xs ≡ suc m → but_last xs ≡ remove_at xs m
  unfolding but_last remove_at
  last_out xs m e =
      let n : length xs - 1 ≡ m = omega arith in
      rw (n, drop_of_length-le xs {i = suc m} (omega arith), append-nil)

  last_one : (xs : List A) (m : ℕ) (d : A) → length xs ≡ suc m → drop (length xs - 1) xs ≡ get_or xs m d ∷ []
  last_one xs m d e =
      let n : length xs - 1 ≡ m = omega arith in
      rw (n, drop-cons xs m d (omega arith), drop_of_length-le xs {i = suc m} (omega arith))

-- zeros without one, and with one more
zeros_out : (n j : ℕ) → j ≤ n → remove_at (replicate {A = ℕ} (suc n) 0) j ≡ replicate n 0
unfolding remove_at
zeros_out n zero l = refl
zeros_out zero (suc j) l = absurd (omega arith)
zeros_out (suc n) (suc j) l = ap (λ (zs : List ℕ). 0 ∷ zs) (zeros_out n j (omega arith))

zeros_in : (n j : ℕ) → j ≤ n → insert_at (replicate {A = ℕ} n 0) j 0 ≡ replicate (suc n) 0
unfolding insert_at
zeros_in n zero l = refl
zeros_in zero (suc j) l = absurd (omega arith)
zeros_in (suc n) (suc j) l = ap (λ (zs : List ℕ). 0 ∷ zs) (zeros_in n j (omega arith))

-- ---- the child slots, one more than elements: the children's ids, and zeros in a leaf

unfoldable pub seats : (h : ℕ) → Tree h → List ℕ
seats zero t = replicate (suc (length t.elems)) 0
seats (suc h) t = map (id_of h) t.kids

pub seats_length : (h : ℕ) (t : Tree h) → Fit h t → length (seats h t) ≡ length t.elems + 1
unfolding seats
seats_length zero t F = omega (arith, length-replicate {A = ℕ} (suc (length t.elems)) 0)
seats_length (suc h) t F = length-map t.kids (id_of h) ∙ F.one_more

slot_is : (h : ℕ) (t : Tree (suc h)) (j : ℕ) → get_or (map (id_of h) t.kids) j 0 ≡ (kid h t j).id
slot_is h t j = get_or-map (id_of h) t.kids j (none h)

zero_slot : (n j : ℕ) → j ≤ n → get_or (replicate {A = ℕ} (suc n) 0) j 0 ≡ 0
zero_slot n j l = get_or-replicate {A = ℕ} (suc n) j 0 0 (omega arith)

-- a slot is 0 in a leaf alone, and then so is every slot of a node at that height
pub leaf-slots : {w : List ℕ} (h : ℕ) (x : Tree h) → At w h x → Fit h x → (j : ℕ) → j ≤ length x.elems → get_or (seats h x) j 0 ≡ 0
    → (y : Tree h) (c : ℕ) → c ≤ length y.elems → get_or (seats h y) c 0 ≡ 0
unfolding seats
leaf-slots zero x A F j l e y c m = zero_slot (length y.elems) c m
leaf-slots (suc h) x A F j l e y c m =
    absurd (omega (arith, rw (slot_is h x j) at e, (A.each j (omega (arith, F.one_more))).here.inside.some))

-- the words of a node say no more than that
zeros-slots : (n m : ℕ) → m ≤ n → slots n [] ≡ slots n (replicate m 0)
unfolding slots
zeros-slots n m l =
    let e : n - 0 ≡ m + (n - length (replicate {A = ℕ} m 0)) = omega (arith, length-replicate {A = ℕ} m 0) in
    rw e (sym (replicate-append-replicate m (n - length (replicate {A = ℕ} m 0)) 0))

pub root_seats : (h : ℕ) (t : Tree h) → length t.elems ≤ 31 → root_block h t ≡ node_block (size h t) t.elems (seats h t)
unfolding root_block seats
root_seats zero t l =
    ap (λ (z : List ℕ). length t.elems ∷ (length t.elems ∷ (slots 31 t.elems ++ (z ++ (0 ∷ [])))))
    (zeros-slots 32 (suc (length t.elems)) (omega arith))
root_seats (suc h) t l = refl

-- tree t stands in node k
pub record In (w : List ℕ) (h : ℕ) (t : Tree h) (k : ℕ) : Type 0 where
  pub id : t.id ≡ k
  pub at : At w h t
  pub fit : Fit h t

abbrev pub seated : {w : List ℕ} {h : ℕ} {t : Tree h} {k : ℕ} → In w h t k → Seated w k
seated {w} {h} {t} {k} T = record {
  node = record {
    size = size h t;
    elems = t.elems;
    kids = seats h t;
    stored = subst (λ i. Stored w i (node_block (size h t) t.elems (seats h t))) T.id (rw (root_seats h t (most h t T.fit)) at T.at.here);
    few_elems = most h t T.fit;
    few_kids = omega (arith, seats_length h t T.fit, most h t T.fit);
  };
  seats = seats_length h t T.fit;
  leaf = λ e c l. leaf-slots h t T.at T.fit 0 (omega arith) e t c (omega (arith, seats_length h t T.fit));
}

-- ---- what is below children

sizes : (h : ℕ) → List (Below h) → ℕ
sizes zero ks = 0
sizes (suc h) ks = total (size h) ks

size_sizes : (h : ℕ) (t : Tree h) → size h t ≡ length t.elems + sizes h t.kids
unfolding size sizes
size_sizes zero t = omega arith
size_sizes (suc h) t = refl

sizes_append : (h : ℕ) (xs ys : List (Below h)) → sizes h (xs ++ ys) ≡ sizes h xs + sizes h ys
unfolding sizes
sizes_append zero xs ys = omega arith
sizes_append (suc h) xs ys = total_append (size h) xs ys

module _ {w : List ℕ} where
  slot_length : (h : ℕ) (t : Tree (suc h)) → At w (suc h) t → (j : ℕ) → j < length t.kids
      → length_or w (get_or (map (id_of h) t.kids) j 0) ≡ size h (kid h t j)
  slot_length h t A j l =
      let k = A.each j l in
      rw (slot_is h t j) (sym (some_node w (kid h t j).id (omega (arith, k.here.inside.some))) ∙ at_length w h (kid h t j) k.here)

  pub slot_inside : (h : ℕ) (t : Tree h) → At w h t → Fit h t → (j : ℕ) → j ≤ length t.elems → get_or (seats h t) j 0 ≢ 0
      → Inside w (get_or (seats h t) j 0)
  unfolding seats
  slot_inside zero t A F j l n = absurd (n (zero_slot (length t.elems) j l))
  slot_inside (suc h) t A F j l n = rw (slot_is h t j) (A.each j (omega (arith, F.one_more))).here.inside

  -- the last child, and the first
  last-length : (h : ℕ) (t : Tree h) → At w h t → Fit h t
      → length_or w (get_or (seats h t) (length t.elems) 0) ≡ sizes h (drop (length t.kids - 1) t.kids)
  unfolding seats sizes length_or sum
  last-length zero t A F = rw (zero_slot (length t.elems) (length t.elems) (omega arith)) refl
  last-length (suc h) t A F =
      rw (last_one t.kids (length t.elems) (none h) (omega (arith, F.one_more)))
      (omega (arith, slot_length h t A (length t.elems) (omega (arith, F.one_more))))

  first_length : (h : ℕ) (t : Tree h) → At w h t → Fit h t → length_or w (get_or (seats h t) 0 0) ≡ sizes h (take 1 t.kids)
  unfolding seats sizes length_or sum
  first_length zero t A F = refl
  first_length (suc h) t A F =
      rw (take-suc t.kids 0 (none h) (omega (arith, F.one_more))) (omega (arith, slot_length h t A 0 (omega (arith, F.one_more))))

-- ---- two nodes joined

join_seats : (h : ℕ) (a : Tree h) (e : ℕ) (b : Tree h) → seats h (joined a e b) ≡ seats h a ++ seats h b
unfolding seats
join_seats zero a e b =
    let n : suc (length (a.elems ++ (e ∷ b.elems))) ≡ suc (length a.elems) + suc (length b.elems) =
    omega (arith, length-append a.elems (e ∷ b.elems)) in
    ap (λ (k : ℕ). replicate k 0) n ∙ sym (replicate-append-replicate (suc (length a.elems)) (suc (length b.elems)) 0)
join_seats (suc h) a e b = map-append (id_of h) a.kids b.kids

pub join_block : (h : ℕ) (a : Tree h) (e : ℕ) (b : Tree h) → length a.elems + length b.elems ≤ 30
    → root_block h (joined a e b) ≡ node_block (size h a + size h b + 1) (a.elems ++ (e ∷ b.elems)) (seats h a ++ seats h b)
join_block h a e b l =
    let n = length-append a.elems (e ∷ b.elems) in
    let s : size h (joined a e b) ≡ size h a + size h b + 1 =
    omega (arith, size_sizes h (joined a e b), size_sizes h a, size_sizes h b, sizes_append h a.kids b.kids) in
    rw (root_seats h (joined a e b) (omega arith), s, join_seats h a e b) refl

-- ---- a leaf without element i

pub leaf-block : (t : Tree 0) (i : ℕ) → length t.elems ≤ 31 → i < length t.elems
    → root_block 0 (record { id = t.id; elems = remove_at t.elems i; kids = t.kids })
    ≡ node_block (size 0 t - 1) (remove_at t.elems i) (remove_at (seats 0 t) i)
unfolding seats size
leaf-block t i m l =
    let n = length-remove_at t.elems i l in
    let e : length t.elems ≡ suc (length (remove_at t.elems i)) = omega arith in
    let f : length t.elems - 1 ≡ length (remove_at t.elems i) = omega arith in
    rw (
      root_seats 0 (record { id = t.id; elems = remove_at t.elems i; kids = t.kids }) (omega arith),
      f,
      zeros_out (length t.elems) i (omega arith),
    ) (ap (λ (k : ℕ). node_block (length (remove_at t.elems i)) (remove_at t.elems i) (replicate k 0)) (sym e))

-- ---- an end piece of node a goes to the other end of b; n is how many elements are in it

-- by what becomes of the lists: the words of the node that gave it, and of the one that took it
gives : (h : ℕ) (a s : Tree h) (i j n : ℕ) → length a.elems ≤ 31 → i < length a.elems → s.elems ≡ remove_at a.elems i
    → seats h s ≡ remove_at (seats h a) j → sizes h s.kids + n ≡ sizes h a.kids + 1
    → root_block h s ≡ node_block (size h a - n) (remove_at a.elems i) (remove_at (seats h a) j)
gives h a s i j n m l e f g =
    let k = length-remove_at a.elems i l in
    let z : size h s ≡ size h a - n = omega (arith, size_sizes h s, size_sizes h a, ap length e) in
    rw (root_seats h s (omega (arith, ap length e)), z, f, e) refl

takes : (h : ℕ) (b s : Tree h) (i j x y n : ℕ) → length b.elems ≤ 30 → i ≤ length b.elems → s.elems ≡ insert_at b.elems i x
    → seats h s ≡ insert_at (seats h b) j y → sizes h s.kids + 1 ≡ sizes h b.kids + n
    → root_block h s ≡ node_block (size h b + n) (insert_at b.elems i x) (insert_at (seats h b) j y)
takes h b s i j x y n m l e f g =
    let k = length-insert_at b.elems i x l in
    let z : size h s ≡ size h b + n = omega (arith, size_sizes h s, size_sizes h b, ap length e) in
    rw (root_seats h s (omega (arith, ap length e)), z, f, e) refl

cut_sizes : (h c : ℕ) (ks : List (Below h)) → sizes h (take c ks) + sizes h (drop c ks) ≡ sizes h ks
cut_sizes h c ks = sym (sizes_append h (take c ks) (drop c ks)) ∙ ap (sizes h) (take-append-drop c ks)

-- the last piece given, and taken in front

last_seats : (h : ℕ) (a : Tree h) → Fit h a → 0 < length a.elems → seats h (gave_last a) ≡ remove_at (seats h a) (length a.elems)
unfolding seats
last_seats zero a F l =
    let i : ℕ = length a.elems - 1 in
    let e : suc (length (but_last a.elems)) ≡ length a.elems =
    omega (arith, ap length (last_out a.elems i (omega arith)), length-remove_at a.elems i (omega arith)) in
    ap (λ (k : ℕ). replicate k 0) e ∙ sym (zeros_out (length a.elems) (length a.elems) (omega arith))
last_seats (suc h) a F l =
    ap (map (id_of h)) (last_out a.kids (length a.elems) (omega (arith, F.one_more)))
    ∙ map-remove_at (id_of h) a.kids (length a.elems)

front_seats : (h : ℕ) (a : Tree h) (e : ℕ) (b : Tree h) → Fit h a
    → seats h (took_front a e b) ≡ insert_at (seats h b) 0 (get_or (seats h a) (length a.elems) 0)
unfolding seats insert_at
front_seats zero a e b F = rw (zero_slot (length a.elems) (length a.elems) (omega arith)) refl
front_seats (suc h) a e b F =
    rw (last_one a.kids (length a.elems) (none h) (omega (arith, F.one_more)), slot_is h a (length a.elems)) refl

module _ {w : List ℕ} {h : ℕ} {a : Tree h} {k : ℕ} (A : In w h a k) (l : 0 < length a.elems) where
  abbrev m : ℕ
  m = length a.elems

  abbrev n : ℕ
  n = length_or w (get_or (seats h a) m 0) + 1

  is : n ≡ sizes h (drop (length a.kids - 1) a.kids) + 1
  is = omega (arith, last-length h a A.at A.fit)

  pub last_less : length_or w (get_or (seats h a) m 0) < size h a
  last_less = omega (arith, is, size_sizes h a, cut_sizes h (length a.kids - 1) a.kids)

  pub last-given : root_block h (gave_last a) ≡ node_block (size h a - n) (remove_at a.elems (m - 1)) (remove_at (seats h a) m)
  unfolding but_last
  last-given =
      gives h a (gave_last a) (m - 1) m n (most h a A.fit) (omega arith) (last_out a.elems (m - 1) (omega arith))
      (last_seats h a A.fit l) (omega (arith, is, cut_sizes h (length a.kids - 1) a.kids))

  pub front_taken : (e : ℕ) (b : Tree h) → length b.elems ≤ 30 → root_block h (took_front a e b)
      ≡ node_block (size h b + n) (insert_at b.elems 0 e) (insert_at (seats h b) 0 (get_or (seats h a) m 0))
  unfolding insert_at
  front_taken e b r =
      takes h b (took_front a e b) 0 0 e (get_or (seats h a) m 0) n r (omega arith) refl (front_seats h a e b A.fit)
      (omega (arith, is, sizes_append h (drop (length a.kids - 1) a.kids) b.kids))

-- the first piece given, and taken at the back

first_seats : (h : ℕ) (b : Tree h) → 0 < length b.elems → seats h (gave_first b) ≡ remove_at (seats h b) 0
unfolding seats
first_seats zero b l =
    let e : suc (length (drop 1 b.elems)) ≡ length b.elems = omega (arith, length-drop 1 b.elems) in
    ap (λ (k : ℕ). replicate k 0) e ∙ sym (zeros_out (length b.elems) 0 (omega arith))
first_seats (suc h) b l = unfold remove_at in map-remove_at (id_of h) b.kids 0

back_seats : (h : ℕ) (a : Tree h) (e : ℕ) (b : Tree h) → Fit h a → Fit h b
    → seats h (took_back a e b) ≡ insert_at (seats h a) (length a.elems + 1) (get_or (seats h b) 0 0)
unfolding seats
back_seats zero a e b A F =
    ap (λ (k : ℕ). replicate (suc k) 0) (length-append a.elems (e ∷ []) ∙ add-one (length a.elems))
    ∙ sym (zeros_in (suc (length a.elems)) (length a.elems + 1) (omega arith))
back_seats (suc h) a e b A F =
    let k : length a.elems + 1 ≡ length (map (id_of h) a.kids) = omega (arith, length-map a.kids (id_of h), A.one_more) in
    rw (
      k,
      insert_at_end (map (id_of h) a.kids) (get_or (map (id_of h) b.kids) 0 0),
      slot_is h b 0,
      take-suc b.kids 0 (none h) (omega (arith, F.one_more)),
    )
    (map-append (id_of h) a.kids (kid h b 0 ∷ []))

module _ {w : List ℕ} {h : ℕ} {b : Tree h} {k : ℕ} (B : In w h b k) (l : 0 < length b.elems) where
  abbrev n₀ : ℕ
  n₀ = length_or w (get_or (seats h b) 0 0) + 1

  is₀ : n₀ ≡ sizes h (take 1 b.kids) + 1
  is₀ = omega (arith, first_length h b B.at B.fit)

  pub first_less : length_or w (get_or (seats h b) 0 0) < size h b
  first_less = omega (arith, is₀, size_sizes h b, cut_sizes h 1 b.kids)

  pub first_given : root_block h (gave_first b) ≡ node_block (size h b - n₀) (remove_at b.elems 0) (remove_at (seats h b) 0)
  unfolding remove_at
  first_given =
      gives h b (gave_first b) 0 0 n₀ (most h b B.fit) l refl (first_seats h b l) (omega (arith, is₀, cut_sizes h 1 b.kids))

  pub back_taken : (a : Tree h) (e : ℕ) → Fit h a → length a.elems ≤ 30 → root_block h (took_back a e b)
      ≡ node_block (size h a + n₀) (insert_at a.elems (length a.elems) e)
      (insert_at (seats h a) (length a.elems + 1) (get_or (seats h b) 0 0))
  back_taken a e A r =
      takes h a (took_back a e b) (length a.elems) (length a.elems + 1) e (get_or (seats h b) 0 0) n₀ r (omega arith)
      (sym (insert_at_end a.elems e)) (back_seats h a e b A B.fit) (omega (arith, is₀, sizes_append h a.kids (take 1 b.kids)))
