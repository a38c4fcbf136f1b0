-- The three demands in their own words, over the door's promise, for every call. Answers stand in figures: `answer` is number, value,
-- comparisons, and `walked` is number, element, position. A sound pool holds a bag; its list is `list_of b.root`, of n samples.
use mathlib.Core.Path.{◌≡◌, refl, sym, ap, subst, ◌∙◌}
use mathlib.Core.Bool.{Bool, true, false, cond, true≢false}
use mathlib.Core.List.{List, [], ◌∷◌, ◌++◌}
use mathlib.Core.Logic.{◌⊎◌, inl, inr}
use Prim.Native.Nat.{ℕ, ◌+◌, ◌*◌, ◌-◌, ◌≤◌, ◌<◌}
use native.Mathlib.Nat.{add-zero}
use native.Mathlib.Decide.{dec_lt}
use native.Mathlib.Omega.{arith}
use lib.ListN.{length, take, drop, get_or, set}
use Rattle.lists.specs.Lists.{insert_at, remove_at}
use Rattle.lists.proofs.Edits.{insert_at_end}
use Rattle.lists.proofs.Counts.{count_in, count_out}
use Rattle.lists.proofs.OneOf.{OneOf}
use Rattle.model.specs.declared.Answer.{Answer}
use Rattle.model.specs.declared.Walked.{Walked}
use Rattle.model.specs.Tree.{Bag, empty, list_of, met, bag_get, bag_replace}
use Rattle.model.specs.Insert.{needed, bag_insert}
use Rattle.model.specs.Remove.{bag_remove}
use Rattle.model.specs.Calls.{answer, walked, refused, stays, length_of, Outcome, insert_call, push_call, replace_call, remove_call}
use Rattle.model.specs.Calls.{check_call, len_call, get_call, skip_call}
use Rattle.model.proofs.Calls.{Keeps, insert_beyond, insert_full, insert-done, push_at_end, replace_beyond, replace-done}
use Rattle.model.proofs.Calls.{remove_beyond, remove-done, check_done, len-done, get_beyond, get-done, skip_beyond, skip-done}
use Rattle.model.proofs.Calls.{equal-same, equal_differ, Zeros, equal-zeros, skip-zeros, equal_numbers}
use Rattle.model.proofs.Bags.{bag_get_lem, bag_replace_lem, bag_insert_lem, bag_remove_lem}
use Rattle.model.proofs.Bounds.{enough, Highest, compared_most}
use Rattle.model.proofs.Spans.{ShownRoot, root_shown_some, root_shown_list}
use Rattle.words.specs.Words.{run}
use Rattle.words.proofs.Laws.{run_length}
use Rattle.pool.specs.Sound.{Holds, Sound, Sized, nodes_in, fits, format_answer}
use Rattle.pool.proofs.Whole.{nodes_of, holds_parts, holds-empty}
use Rattle.pool.proofs.Sized.{fits_true, nodes_in_lem}
use Rattle.pool.proofs.Read.{one_pool}
use Rattle.pool.proofs.Decide.{sized?}
use Rattle.calls.proofs.Bags.{holds_stands}
use Rattle.views.specs.declared.Span.{Span}
use Rattle.views.specs.Part.{nowhere, part_call}
use Rattle.views.proofs.Views.{part_beyond, part-fits, part_shows, part_some}
use Rattle.admission.specs.Promise.{Promise, Edits, Tells, Compares, Formats, Windows}
use Rattle.admission.proofs.One.{decided, tells_some}

number_is : {a b : Answer} → a ≡ b → a.number ≡ b.number
number_is e = ap (λ (a : Answer). a.number) e

-- ---- demand 1: a length that does not fit is answered 4, a pool that is not sound 1, and nothing changes

-- the words w are refused with n
pub data Refusal (w : List ℕ) : ℕ → Type 0 where
  misfit : (Sized w → ⊥) → Refusal w 4
  unsound : Sized w → (Sound w → ⊥) → Refusal w 1

module _ {w : List ℕ} {n : ℕ} (R : Refusal w n) where
  promise_refused : (P : ℕ → Type 0) {Held : Bag → Type 0} → Promise w (P 4) (P 1) Held → P n
  promise_refused P Q = go R
    where
      go : {m : ℕ} → Refusal w m → P m
      go (misfit s) = Q.misfit s
      go (unsound s u) = Q.unsound s u

  pub edits_refused : {call : Bag → Outcome} {w' : List ℕ} {r : Answer} → Edits call w r w' → (r ≡ answer n 0 0) × (w' ≡ w)
  edits_refused {w' = w'} {r} P = promise_refused (λ m. (r ≡ answer m 0 0) × (w' ≡ w)) P

  pub tells_refused : {ask : Bag → Answer} {r : Answer} → Tells refused ask w r → r ≡ answer n 0 0
  tells_refused {r = r} P = promise_refused (λ m. r ≡ answer m 0 0) P

  -- a walk keeps its position
  pub walks_refused : {ask : Bag → Walked} {p : ℕ} {r : Walked} → Tells (stays p) ask w r → r ≡ walked n 0 p
  walks_refused {p = p} {r} P = promise_refused (λ m. r ≡ walked m 0 p) P

  -- equality: w is the first pool; or it is the second, and the first is sound
  pub compares_refused : {v : List ℕ} {r : Answer} → Compares w v r → r ≡ answer n 0 0
  compares_refused {r = r} P = promise_refused (λ m. r ≡ answer m 0 0) P

  pub compares_second : {v : List ℕ} {r : Answer} → Sound v → Compares v w r → r ≡ answer n 0 0
  compares_second (b, H) P = tells_refused (P.holds b H)

-- formatting knows the length only
pub format_answers : {w w' : List ℕ} {r : Answer} → Formats w r w' → r ≡ format_answer (length w)
unfolding format_answer
format_answers {w} {r = r} P = go (fits (length w)) refl
  where
    go : (b : Bool) → fits (length w) ≡ b → r ≡ cond b (answer 0 0 0) (answer 4 0 0)
    go true e = (P.fits e).0
    go false e = (P.misfit (λ s. true≢false (sym s ∙ e))).0

pub format-refused : {w w' : List ℕ} {r : Answer} → Formats w r w' → (Sized w → ⊥) → (r ≡ answer 4 0 0) × (w' ≡ w)
format-refused P n = P.misfit n

-- ---- demand 1: whatever refuses it, a refused call changes no word, and gives zeros

pub refused_unchanged : {call : Bag → Outcome} → Keeps call → {w w' : List ℕ} {r : Answer} → Edits call w r w' → (r.number ≡ 0 → ⊥)
    → (r ≡ answer r.number 0 0) × (w' ≡ w)
refused_unchanged {call} K {w} {w'} {r} P z =
    decided w (λ n. (rw (P.misfit n).0, (P.misfit n).1)) (λ s u. (rw (P.unsound s u).0, (P.unsound s u).1)) held
  where
    held : (b : Bag) → Holds w b → (r ≡ answer r.number 0 0) × (w' ≡ w)
    held b H =
        let e : r ≡ (call b).answer = (P.holds b H).0 in
        let k = K b (λ y. z (number_is e ∙ y)) in
        (rw e (ap (λ (o : Outcome). o.answer) k), one_pool (subst (λ (o : Outcome). Holds w' o.bag) k (P.holds b H).1) H)

pub told_zeros : {ask : Bag → Answer} → Zeros ask → {w : List ℕ} {r : Answer} → Tells refused ask w r → (r.number ≡ 0 → ⊥)
    → r ≡ answer r.number 0 0
told_zeros K {w} P z =
    decided w (λ n. rw (P.misfit n)) (λ s u. rw (P.unsound s u))
    (λ b H. rw (P.holds b H) (K b (λ y. z (number_is (P.holds b H) ∙ y))))

pub compares_zeros : {v w : List ℕ} {r : Answer} → Compares v w r → (r.number ≡ 0 → ⊥) → r ≡ answer r.number 0 0
compares_zeros {v} P z = decided v (λ n. rw (P.misfit n)) (λ s u. rw (P.unsound s u)) (λ a G. told_zeros (equal-zeros a) (P.holds a G) z)

pub walk_zeros : (p m : ℕ) {w : List ℕ} {r : Walked} → Tells (stays p) (skip_call p m) w r → (r.number ≡ 0 → ⊥) → r.element ≡ 0
walk_zeros p m {w} {r} P z =
    decided w (λ n. rw (P.misfit n)) (λ s u. rw (P.unsound s u))
    (λ b H. rw (P.holds b H) (ap (λ (v : Walked). v.element) (skip-zeros p m b (λ y. z (ap (λ (v : Walked). v.number) (P.holds b H) ∙ y)))))

-- which numbers a call can answer: 4 and 1, and those of the call on a bag
promised_numbers : (ns : List ℕ) {w : List ℕ} {n : ℕ} → Promise w (n ≡ 4) (n ≡ 1) (λ b. OneOf ns n) → OneOf (4 ∷ 1 ∷ ns) n
promised_numbers ns {w} P = decided w (λ m. inl (P.misfit m)) (λ s u. inr (inl (P.unsound s u))) (λ b H. inr (inr (P.holds b H)))

pub edits_numbers : {call : Bag → Outcome} (ns : List ℕ) → ((b : Bag) → OneOf ns (call b).answer.number) → {w w' : List ℕ} {r : Answer}
    → Edits call w r w' → OneOf (4 ∷ 1 ∷ ns) r.number
edits_numbers ns K {r = r} P =
    promised_numbers ns (record {
      misfit = λ n. number_is (P.misfit n).0;
      unsound = λ s u. number_is (P.unsound s u).0;
      holds = λ b H. rw (P.holds b H).0 (K b);
    })

pub tells_numbers : {A : Type 0} (number : A → ℕ) (refuse : ℕ → A) {ask : Bag → A} (ns : List ℕ) → ((n : ℕ) → number (refuse n) ≡ n)
    → ((b : Bag) → OneOf ns (number (ask b))) → {w : List ℕ} {r : A} → Tells refuse ask w r → OneOf (4 ∷ 1 ∷ ns) (number r)
tells_numbers number refuse ns N K {r = r} P =
    promised_numbers ns (record {
      misfit = λ n. ap number (P.misfit n) ∙ N 4;
      unsound = λ s u. ap number (P.unsound s u) ∙ N 1;
      holds = λ b H. rw (P.holds b H) (K b);
    })

pub formats_numbers : {w w' : List ℕ} {r : Answer} → Formats w r w' → OneOf (4 ∷ 0 ∷ []) r.number
formats_numbers {w} {r = r} P = go (sized? w)
  where
    go : Sized w ⊎ (Sized w → ⊥) → OneOf (4 ∷ 0 ∷ []) r.number
    go (inl s) = inr (inl (number_is (P.fits s).0))
    go (inr n) = inl (number_is (P.misfit n).0)

pub compares_numbers : {v w : List ℕ} {r : Answer} → Compares v w r → OneOf (4 ∷ 1 ∷ 4 ∷ 1 ∷ 0 ∷ []) r.number
compares_numbers P =
    promised_numbers (4 ∷ 1 ∷ 0 ∷ []) (record {
      misfit = λ n. number_is (P.misfit n);
      unsound = λ s u. number_is (P.unsound s u);
      holds = λ b H. tells_numbers (λ (a : Answer). a.number) refused (0 ∷ []) (λ n. refl) (equal_numbers b) (P.holds b H);
    })

-- ---- demand 2: each call is `Vec`'s on the list

-- the pool holds this list
abbrev pub Lists : List ℕ → List ℕ → Type 0
Lists w xs = (b : Bag) × Holds w b × (list_of b.root ≡ xs)

-- what a call does on the bag that the pool holds
done : {call : Bag → Outcome} {w w' : List ℕ} {r : Answer} → Edits call w r w' → {b : Bag} → Holds w b → (o : Outcome) → call b ≡ o
    → (r ≡ o.answer) × Holds w' o.bag
done {w' = w'} P {b} H o e =
    ((P.holds b H).0 ∙ ap (λ (u : Outcome). u.answer) e, subst (λ (u : Outcome). Holds w' u.bag) e (P.holds b H).1)

-- demand 3's P, and its room rule on a bag
nodes_held : {w : List ℕ} {b : Bag} (H : Holds w b) → nodes_in (length w) ≡ H.nodes
nodes_held {w} H = nodes_in_lem (length w) H.nodes (holds_parts H).sized

room_for : {w : List ℕ} {b : Bag} → Holds w b → (i : ℕ) → i ≤ length_of b → length_of b < 15 * nodes_in (length w)
    → needed b.root i ≤ length b.free
room_for {w} {b} H i l n =
    omega (arith, enough b.root H.lawful.fit i l H.nodes (omega (arith, nodes_held H)), nodes_of H.lawful)

module _ {w w' : List ℕ} {r : Answer} {b : Bag} (H : Holds w b) (i : ℕ) where
  module _ (x : ℕ) (P : Edits (insert_call i x) w r w') where
    pub insert_past_the_end : length_of b < i → r ≡ answer 2 0 0
    insert_past_the_end l = (done P H _ (insert_beyond b i x l)).0

    -- more nodes are needed than are free
    pub insert_without_room : i ≤ length_of b → length b.free < needed b.root i → r ≡ answer 3 0 0
    insert_without_room l n = (done P H _ (insert_full b i x l n)).0

    pub insert_as_vec : i ≤ length_of b → needed b.root i ≤ length b.free
        → (r ≡ answer 0 0 0) × Lists w' (insert_at (list_of b.root) i x)
    insert_as_vec l n =
        let D = done P H _ (insert-done b i x l n) in
        (D.0, (bag_insert b i x, D.1, (bag_insert_lem b i x H.lawful.fit l n).edited.list))

    -- no other insertion is answered 3
    pub insert_refused_for_room : r.number ≡ 3 → length b.free < needed b.root i
    insert_refused_for_room e =
        elim (dec_lt (length_of b) i) [
          | yes l ↦ absurd (omega (arith, number_is (insert_past_the_end l)))
          | no l ↦ elim (dec_lt (length b.free) (needed b.root i)) [
            | yes n ↦ n
            | no n ↦ absurd (omega (arith, number_is (insert_as_vec (omega arith) (omega arith)).0))
          ]
        ]

    -- demand 3's room rule
    pub insert_with_room : i ≤ length_of b → length_of b < 15 * nodes_in (length w) → r ≡ answer 0 0 0
    insert_with_room l n = (insert_as_vec l (room_for H i l n)).0

  module _ (x : ℕ) (P : Edits (replace_call i x) w r w') where
    pub replace_past_the_end : length_of b ≤ i → r ≡ answer 2 0 0
    replace_past_the_end l = (done P H _ (replace_beyond b i x l)).0

    pub replace_as_vec : i < length_of b → (r ≡ answer 0 (get_or (list_of b.root) i 0) 0) × Lists w' (set (list_of b.root) i x)
    replace_as_vec l =
        let D = done P H _ (replace-done b i x l) in
        (D.0 ∙ ap (λ (v : ℕ). answer 0 v 0) (bag_get_lem b i H.lawful.fit l), (bag_replace b i x, D.1, (bag_replace_lem b i x H.lawful.fit l).list))

  module _ (P : Edits (remove_call i) w r w') where
    pub remove_past_the_end : length_of b ≤ i → r ≡ answer 2 0 0
    remove_past_the_end l = (done P H _ (remove_beyond b i l)).0

    pub remove_as_vec : i < length_of b → (r ≡ answer 0 (get_or (list_of b.root) i 0) 0) × Lists w' (remove_at (list_of b.root) i)
    remove_as_vec l =
        let D = done P H _ (remove-done b i l) in
        let R = bag_remove_lem b i H.lawful.fit l in
        (D.0 ∙ ap (λ (v : ℕ). answer 0 v 0) R.old, ((bag_remove b i).bag, D.1, R.edited.list))

module _ {w w' : List ℕ} {r : Answer} {b : Bag} (H : Holds w b) (x : ℕ) (P : Edits (push_call x) w r w') where
  -- more nodes are needed than are free
  pub push_without_room : length b.free < needed b.root (length_of b) → r ≡ answer 3 0 0
  push_without_room n = (done P H _ (push_at_end x b ∙ insert_full b (length_of b) x (omega arith) n)).0

  pub push_as_vec : needed b.root (length_of b) ≤ length b.free → (r ≡ answer 0 0 0) × Lists w' (list_of b.root ++ (x ∷ []))
  push_as_vec n =
      let D = done P H _ (push_at_end x b ∙ insert-done b (length_of b) x (omega arith) n) in
      let E = (bag_insert_lem b (length_of b) x H.lawful.fit (omega arith) n).edited.list in
      (D.0, (bag_insert b (length_of b) x, D.1, E ∙ insert_at_end (list_of b.root) x))

  -- no other push is answered 3
  pub push_refused_for_room : r.number ≡ 3 → length b.free < needed b.root (length_of b)
  push_refused_for_room e =
      elim (dec_lt (length b.free) (needed b.root (length_of b))) [
        | yes n ↦ n
        | no n ↦ absurd (omega (arith, number_is (push_as_vec (omega arith)).0))
      ]

  -- demand 3's room rule
  pub push_with_room : length_of b < 15 * nodes_in (length w) → r ≡ answer 0 0 0
  push_with_room n = (push_as_vec (room_for H (length_of b) (omega arith) n)).0

module _ {w : List ℕ} {r : Answer} {b : Bag} (H : Holds w b) where
  pub check_as_vec : Tells refused check_call w r → r ≡ answer 0 0 0
  check_as_vec P = P.holds b H ∙ check_done b

  pub len_as_vec : Tells refused len_call w r → r ≡ answer 0 (length (list_of b.root)) 0
  len_as_vec P = P.holds b H ∙ len-done b

  module _ (i : ℕ) (P : Tells refused (get_call i) w r) where
    pub get_past_the_end : length_of b ≤ i → r ≡ answer 2 0 0
    get_past_the_end l = P.holds b H ∙ get_beyond b i l

    -- with the comparisons of 01's module 5
    pub get_as_vec : i < length_of b → r ≡ answer 0 (get_or (list_of b.root) i 0) (bag_get b i).compared
    get_as_vec l = P.holds b H ∙ get-done b i l ∙ ap (λ (v : ℕ). answer 0 v (bag_get b i).compared) (bag_get_lem b i H.lawful.fit l)

    -- demand 3's bound on comparisons, for its h
    pub get_compares : i < length_of b → {h : ℕ} → Highest (length_of b) h → r.compared ≤ 32 * (h - 1)
    get_compares l M = rw (get_as_vec l) (compared_most b i H.lawful.fit l M)

-- a walk; a step is a skip of no elements
module _ {w : List ℕ} {r : Walked} {b : Bag} (H : Holds w b) (p : ℕ) where
  module _ (m : ℕ) (P : Tells (stays p) (skip_call p m) w r) where
    pub skip_past_the_end : length_of b ≤ p + m → r ≡ walked 2 0 (length_of b)
    skip_past_the_end l = P.holds b H ∙ skip_beyond b p m (omega arith)

    pub skip_as_vec : p + m < length_of b → r ≡ walked 0 (get_or (list_of b.root) (p + m) 0) (p + m + 1)
    skip_as_vec l =
        P.holds b H ∙ skip-done b p m (omega arith)
        ∙ ap (λ (x : ℕ). walked 0 x (p + m + 1)) (bag_get_lem b (p + m) H.lawful.fit l)

  module _ (P : Tells (stays p) (skip_call p 0) w r) where
    pub step_past_the_end : length_of b ≤ p → r ≡ walked 2 0 (length_of b)
    step_past_the_end l = skip_past_the_end 0 P (omega arith)

    pub step_as_vec : p < length_of b → r ≡ walked 0 (get_or (list_of b.root) p 0) (p + 1)
    step_as_vec l = rw add-zero at (skip_as_vec 0 P (omega arith))

module _ {v w : List ℕ} {r : Answer} {a b : Bag} (G : Holds v a) (H : Holds w b) (P : Compares v w r) where
  pub equal_as_vec : list_of a.root ≡ list_of b.root → r ≡ answer 0 1 0
  equal_as_vec e = (P.holds a G).holds b H ∙ equal-same a b e

  pub unequal_as_vec : (list_of a.root ≡ list_of b.root → ⊥) → r ≡ answer 0 0 0
  unequal_as_vec n = (P.holds a G).holds b H ∙ equal_differ a b n

pub format_as_vec : {w w' : List ℕ} {r : Answer} → Formats w r w' → Sized w → (r ≡ answer 0 0 0) × Lists w' []
unfolding empty list_of
format_as_vec {w} {w'} P s =
    let p : ℕ = nodes_in (length w) in
    ((P.fits s).0, (empty p, subst (λ (v : List ℕ). Holds v (empty p)) (sym (P.fits s).1) (holds-empty p (fits_true (length w) s).few), refl))

-- ---- demand 2: the window shows the list's elements from i on, and is empty exactly if there is no element i

-- why there is no element i: the length does not fit, the pool is not sound, or its list is not so long
pub data NoElement (w : List ℕ) (i : ℕ) : Type 0 where
  misfit : (Sized w → ⊥) → NoElement w i
  unsound : (Sound w → ⊥) → NoElement w i
  short : (b : Bag) → Holds w b → length_of b ≤ i → NoElement w i

-- there is an element i, or not
by_element : {X : Type 0} (w : List ℕ) (i : ℕ) → (NoElement w i → X) → ((b : Bag) → Holds w b → i < length_of b → X) → X
by_element w i f g =
    decided w (λ n. f (misfit n)) (λ z u. f (unsound u))
    (λ b H. elim (dec_lt i (length_of b)) [ yes l ↦ g b H l | no n ↦ f (short b H (omega arith)) ])

-- the span that `part` tells

module _ {i : ℕ} {w : List ℕ} {s : Span} (T : Tells (λ _. nowhere) (part_call i) w s) where
  module _ {b : Bag} (H : Holds w b) (l : i < length_of b) where
    -- in a leaf it ends with the leaf's last element, and a separator stands alone
    pub span_shows : ShownRoot b.root i (run w s.start s.count)
    span_shows = rw (T.holds b H) (part_shows (holds_stands H) i l)

    -- the list's elements from i on
    pub span_list : run w s.start s.count ≡ take s.count (drop i (list_of b.root))
    span_list =
        let fits : s.start + s.count ≤ length w = rw (T.holds b H) (part-fits (holds_stands H) i) in
        rw (run_length w s.start s.count fits) at
        (root_shown_list b.root i (run w s.start s.count) H.lawful.fit span_shows)

  -- empty exactly if there is no element i
  pub span_empty : s.count ≡ 0 → NoElement w i
  span_empty z =
      by_element w i (λ N. N)
      (λ b H l. absurd (omega (arith, part_some (holds_stands H) i l, ap (λ (t : Span). t.count) (T.holds b H))))

  pub span_refused : NoElement w i → s ≡ record { start = 0; count = 0 }
  span_refused (misfit n) = T.misfit n
  span_refused (unsound u) = decided w T.misfit T.unsound (λ b H. absurd (u (b, H)))
  span_refused (short b H l) = T.holds b H ∙ part_beyond b i l

  pub span_found : (s.count ≡ 0 → ⊥) → (b : Bag) × Holds w b × (i < length_of b)
  span_found z = by_element w i (λ N. absurd (z (ap (λ (t : Span). t.count) (span_refused N)))) (λ b H l. (b, H, l))

-- the words that `window` lends

module _ (i : ℕ) (w : List ℕ) (ptr : ℕ × ℕ) {r : List ℕ} {at : ℕ × ℕ} (W : Windows i w ptr r at) where
  told : (s : Span) × Tells (λ _. nowhere) (part_call i) w s
  told = tells_some (λ _. nowhere) (part_call i) w

  lent : r ≡ run w told.0.start told.0.count
  lent = (W told.0 told.1).0

  module _ {b : Bag} (H : Holds w b) (l : i < length_of b) where
    pub window_shows : ShownRoot b.root i r
    window_shows = rw lent (span_shows told.1 H l)

    pub window_list : r ≡ take (length r) (drop i (list_of b.root))
    window_list = root_shown_list b.root i r H.lawful.fit window_shows

  pub window-empty : r ≡ [] → NoElement w i
  window-empty e = by_element w i (λ N. N) (λ b H l. absurd (omega (arith, root_shown_some b.root i r (window_shows H l), ap length e)))

  pub window-refused : NoElement w i → r ≡ []
  unfolding run
  window-refused N = lent ∙ ap (λ (s : Span). run w s.start s.count) (span_refused told.1 N)

  pub window_found : (r ≡ [] → ⊥) → (b : Bag) × Holds w b × (i < length_of b)
  window_found z = by_element w i (λ N. absurd (z (window-refused N))) (λ b H l. (b, H, l))

-- ---- demand 3: every accepted call leaves a sound pool, with every node in the tree or free, once

pub accepted_sound : {call : Bag → Outcome} {w w' : List ℕ} {r : Answer} → Edits call w r w' → r.number ≡ 0 → Sound w'
accepted_sound {call} {w} P e =
    decided w (λ n. absurd (omega (arith, number_is (P.misfit n).0)))
    (λ s u. absurd (omega (arith, number_is (P.unsound s u).0)))
    (λ b H. ((call b).bag, (P.holds b H).1))

pub format_sound : {w w' : List ℕ} {r : Answer} → Formats w r w' → Sized w → Sound w'
format_sound P s = let L = (format_as_vec P s).1 in (L.0, L.1)

pub every_node_once : {w : List ℕ} {b : Bag} → Holds w b → (k : ℕ) → 1 ≤ k → k ≤ nodes_in (length w) → met k b ≡ 1
every_node_once H k l m = H.lawful.once k ∙ count_in k 1 H.nodes l (omega (arith, nodes_held H))

pub no_other_node : {w : List ℕ} {b : Bag} → Holds w b → (k : ℕ) → (k ≡ 0) ⊎ (nodes_in (length w) < k) → met k b ≡ 0
no_other_node {w} H k o = H.lawful.once k ∙ count_out k 1 H.nodes (outside o)
  where
    outside : (k ≡ 0) ⊎ (nodes_in (length w) < k) → (k < 1) ⊎ (1 + H.nodes ≤ k)
    outside (inl e) = inl (omega arith)
    outside (inr l) = inr (omega (arith, nodes_held H))
