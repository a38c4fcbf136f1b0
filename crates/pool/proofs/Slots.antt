-- A node's words by their parts, and what stores and runs of words do to a list that is kept in slots.
use mathlib.Core.Path.{◌≡◌, refl, sym, ap, ◌∙◌}
use mathlib.Core.List.{List, [], ◌∷◌, ◌++◌, append_assoc, append-nil}
use mathlib.Core.Logic.{inl, inr}
use Prim.Native.Nat.{ℕ, zero, suc, ◌+◌, ◌-◌, ◌≤◌, ◌<◌}
use native.Mathlib.Nat.{zero-add, suc-add}
use native.Mathlib.Numerals.{add-one}
use native.Mathlib.Decide.{dec_lt}
use native.Mathlib.Omega.{arith}
use lib.ListN.{length, get_or, set, take, drop, replicate, length-replicate, length-append, length-take, length-drop, drop_of_length-le}
use lib.ListN.{take-append-drop, replicate-append-replicate, get_or-replicate, length-set, get_or-eq_default}
use lib.Seq.{sets, sets-eq, length-sets, take-append-le, drop-append-le, drop-append-add, set-append_left}
use lib.Seq.{length-take-le, take_all, get_or-take, get_or-drop, ext_get_or}
use Rattle.lists.specs.Lists.{insert_at, remove_at}
use Rattle.lists.proofs.Edits.{length-insert_at, length-remove_at}
use Rattle.words.specs.Words.{run}
use Rattle.words.proofs.Laws.{run_length, run-get_or, sets_inside, sets_outside}
use Rattle.pool.specs.Layout.{slots}
use Rattle.pool.proofs.Blocks.{length-slots}

-- ---- words stored and read in one part of a list

sets_past : (p l : List ℕ) (c : ℕ) (ys : List ℕ) → sets (p ++ l) (length p + c) ys ≡ p ++ sets l c ys
sets_past [] l c ys = rw zero-add
sets_past (x ∷ p) l c ys = rw (suc-add (length p) c) (sets-cons (p ++ l) (length p + c) ys ∙ ap (λ (r : List ℕ). x ∷ r) (sets_past p l c ys))
  where
    sets-cons : (l : List ℕ) (i : ℕ) (ys : List ℕ) → sets (x ∷ l) (suc i) ys ≡ x ∷ sets l i ys
    sets-cons l i [] = refl
    sets-cons l i (y ∷ ys) = sets-cons (set l i y) (suc i) ys

sets_left : (l q : List ℕ) (c : ℕ) (ys : List ℕ) → c + length ys ≤ length l → sets (l ++ q) c ys ≡ sets l c ys ++ q
sets_left l q c [] h = refl
sets_left l q c (y ∷ ys) h = rw (set-append_left l q c y (omega arith)) (sets_left (set l c y) q (suc c) ys (rw length-set (omega arith)))

run_past : (p l : List ℕ) (c r : ℕ) → run (p ++ l) (length p + c) r ≡ run l c r
unfolding run
run_past p l c r = rw drop-append-add

run_left : (l q : List ℕ) (c r : ℕ) → c + r ≤ length l → run (l ++ q) c r ≡ run l c r
unfolding run
run_left l q c r h = rw (drop-append-le c l q (omega arith)) (take-append-le r (drop c l) q (rw length-drop (omega arith)))

-- a middle part gives way to another of its length
sets_between : (p m q ys : List ℕ) (c : ℕ) → length p ≡ c → length ys ≡ length m → sets (p ++ (m ++ q)) c ys ≡ p ++ (ys ++ q)
sets_between p m q ys c e f =
    let i : c ≡ length p + 0 = omega arith in
    let whole : sets m 0 ys ≡ ys = sets-eq ys m 0 (omega arith) ∙ rw (drop_of_length-le m {i = 0 + length ys} (omega arith)) (append-nil ys) in
    rw i (sets_past p (m ++ q) 0 ys ∙ ap (λ (r : List ℕ). p ++ r) (sets_left m q 0 ys (omega arith) ∙ ap (λ (r : List ℕ). r ++ q) whole))

-- ---- a node's words by their parts: count, length, 31 element slots, 32 child slots, link

abbrev pub parts : ℕ → ℕ → List ℕ → List ℕ → ℕ → List ℕ
parts a n es ks z = a ∷ n ∷ (es ++ (ks ++ (z ∷ [])))

module _ (a n : ℕ) (es ks : List ℕ) (z : ℕ) (e : length es ≡ 31) where
  pub parts_elems : (c : ℕ) (ys : List ℕ) → c + length ys ≤ 31 → sets (parts a n es ks z) (2 + c) ys ≡ parts a n (sets es c ys) ks z
  parts_elems c ys l = sets_past (a ∷ n ∷ []) (es ++ (ks ++ (z ∷ []))) c ys
      ∙ ap (λ (r : List ℕ). a ∷ n ∷ r) (sets_left es (ks ++ (z ∷ [])) c ys (omega arith))

  pub elems_run : (c r : ℕ) → c + r ≤ 31 → run (parts a n es ks z) (2 + c) r ≡ run es c r
  elems_run c r l = run_past (a ∷ n ∷ []) (es ++ (ks ++ (z ∷ []))) c r ∙ run_left es (ks ++ (z ∷ [])) c r (omega arith)

  -- the parts before the child slots, and before the link
  upto_kids : length (a ∷ n ∷ es) ≡ 33
  upto_kids = omega arith

  pub parts_kids : (c : ℕ) (ys : List ℕ) → c + length ys ≤ length ks → sets (parts a n es ks z) (33 + c) ys ≡ parts a n es (sets ks c ys) z
  parts_kids c ys l =
      rw (← upto_kids) (sets_past (a ∷ n ∷ es) (ks ++ (z ∷ [])) c ys)
      ∙ ap (λ (r : List ℕ). a ∷ n ∷ (es ++ r)) (sets_left ks (z ∷ []) c ys l)

  pub kids_run : (c r : ℕ) → c + r ≤ length ks → run (parts a n es ks z) (33 + c) r ≡ run ks c r
  kids_run c r l = rw (← upto_kids) (run_past (a ∷ n ∷ es) (ks ++ (z ∷ [])) c r) ∙ run_left ks (z ∷ []) c r l

-- ---- a list in n slots

-- a slot that is not in use reads as what is past the end of the list
pub slots-get_or : (n : ℕ) (xs : List ℕ) (i : ℕ) → get_or (slots n xs) i 0 ≡ get_or xs i 0
unfolding slots
slots-get_or n xs i = padded xs (n - length xs) i
  where
    padded : (xs : List ℕ) (m i : ℕ) → get_or (xs ++ replicate m 0) i 0 ≡ get_or xs i 0
    padded [] zero i = refl
    padded [] (suc m) zero = refl
    padded [] (suc m) (suc i) = padded [] m i
    padded (x ∷ xs) m zero = refl
    padded (x ∷ xs) m (suc i) = padded xs m i

zeros-add : (m k : ℕ) → replicate {A = ℕ} (m + k) 0 ≡ replicate m 0 ++ replicate k 0
zeros-add m k = sym (replicate-append-replicate m k 0)

module _ (n : ℕ) (xs : List ℕ) where
  -- an element replaced
  pub slots_store : (c v : ℕ) → c < length xs → set (slots n xs) c v ≡ slots n (set xs c v)
  unfolding slots
  slots_store c v l = rw (length-set xs c v) (set-append_left xs (replicate (n - length xs) 0) c v l)

  -- others put behind those in use
  pub slots-append : (ys : List ℕ) → length xs + length ys ≤ n → sets (slots n xs) (length xs) ys ≡ slots n (xs ++ ys)
  unfolding slots
  slots-append ys l =
      let k : ℕ = n - (length xs + length ys) in
      let e : n - length xs ≡ length ys + k = omega arith in
      rw (e, zeros-add (length ys) k, length-append xs ys)
      (sets_between xs (replicate (length ys) 0) (replicate k 0) ys (length xs) refl (sym (length-replicate (length ys) 0))
      ∙ simp append_assoc)

  module _ (c r : ℕ) (e : c + r ≡ length xs) where
    front : length (take c xs) ≡ c
    front = length-take-le c xs (omega arith)

    cut : (m : ℕ) → xs ++ replicate m 0 ≡ take c xs ++ (drop c xs ++ replicate m 0)
    cut m = ap (λ (l : List ℕ). l ++ replicate m 0) (sym (take-append-drop c xs)) ∙ append_assoc (take c xs) (drop c xs) (replicate m 0)

    back : run (slots n xs) c r ≡ drop c xs
    unfolding slots run
    back = run_left xs (replicate (n - length xs) 0) c r (omega arith) ∙ take_all r (drop c xs) (rw length-drop (omega arith))

    -- a gap opened at c for x, the r in use behind it moved up
    opened : (x : ℕ) → length xs < n → sets (slots n xs) c (x ∷ drop c xs) ≡ slots n (insert_at xs c x)
    unfolding slots insert_at
    opened x l =
        let k : ℕ = n - (length xs + 1) in
        let z : n - length xs ≡ 1 + k = omega arith in
        let y : n - length (insert_at xs c x) ≡ k = omega (arith, length-insert_at xs c x (omega arith)) in
        rw (y, z, cut (1 + k), zeros-add 1 k, ← (append_assoc (drop c xs) (0 ∷ []) (replicate k 0)))
        (sets_between (take c xs) (drop c xs ++ (0 ∷ [])) (replicate k 0) (x ∷ drop c xs) c front
        (omega (arith, length-append (drop c xs) (0 ∷ [])))
        ∙ simp append_assoc)

    pub slots_open : (x : ℕ) → length xs < n → sets (slots n xs) c (x ∷ run (slots n xs) c r) ≡ slots n (insert_at xs c x)
    slots_open x l = rw back (opened x l)

  -- the one at c taken out, the r in use behind it moved down
  module _ (c r : ℕ) (e : c + 1 + r ≡ length xs) where
    closed : length xs ≤ n → sets (slots n xs) c (drop (c + 1) xs ++ (0 ∷ [])) ≡ slots n (remove_at xs c)
    unfolding slots remove_at
    closed l =
        let m : ℕ = n - length xs in
        let y : n - length (remove_at xs c) ≡ 1 + m = omega (arith, length-remove_at xs c (omega arith)) in
        rw (y, zeros-add 1 m, cut c (r + 1) (omega arith) m, ← (add-one c))
        (sets_between (take c xs) (drop c xs) (replicate m 0) (drop (c + 1) xs ++ (0 ∷ [])) c (front c (r + 1) (omega arith))
        (omega (arith, length-append (drop (c + 1) xs) (0 ∷ []), length-drop (c + 1) xs, length-drop c xs))
        ∙ simp append_assoc)

    pub slots-close : length xs ≤ n → sets (slots n xs) c (run (slots n xs) (c + 1) r ++ (0 ∷ [])) ≡ slots n (remove_at xs c)
    slots-close l = rw (back (c + 1) r e) (closed l)

  module _ (m : ℕ) (l : m ≤ n) (h : length xs ≤ n) where
    -- those from m on cleared
    pub slots_clear : sets (slots n xs) m (replicate (n - m) 0) ≡ slots n (take m xs)
    slots_clear =
        let zs : List ℕ = replicate (n - m) 0 in
        let long : length (sets (slots n xs) m zs) ≡ n = length-sets (slots n xs) m zs ∙ length-slots n xs h in
        ext_get_or 0 (sets (slots n xs) m zs) (slots n (take m xs))
        (long ∙ sym (length-slots n (take m xs) (omega (arith, length-take m xs))))
        (λ i b.
        rw (slots-get_or n (take m xs) i)
        (elim (dec_lt i m) [
          | yes q ↦ sets_outside (slots n xs) m zs i 0 (inl q) ∙ slots-get_or n xs i ∙ sym (get_or-take m xs i 0 q)
          | no q ↦
              sets_inside (slots n xs) m zs i (i - m) 0 (omega arith) (rw length-replicate (omega arith)) (omega (arith, length-slots n xs h))
              ∙ get_or-replicate (n - m) (i - m) 0 0 (omega arith)
              ∙ sym (get_or-eq_default (take m xs) 0 (omega (arith, length-take m xs)))
        ]))

    -- and copied to slots that are all unused
    pub slots_copy : sets (slots n []) 0 (run (slots n xs) m (n - m)) ≡ slots n (drop m xs)
    slots_copy =
        let ys : List ℕ = run (slots n xs) m (n - m) in
        let few : length ys ≡ n - m = run_length (slots n xs) m (n - m) (omega (arith, length-slots n xs h)) in
        let none : length (slots n []) ≡ n = length-slots n [] (omega arith) in
        ext_get_or 0 (sets (slots n []) 0 ys) (slots n (drop m xs))
        (length-sets (slots n []) 0 ys ∙ none ∙ sym (length-slots n (drop m xs) (omega (arith, length-drop m xs))))
        (λ i b.
        rw (slots-get_or n (drop m xs) i, get_or-drop m xs i 0)
        (elim (dec_lt i (n - m)) [
          | yes q ↦
              sets_inside (slots n []) 0 ys i i 0 (omega arith) (omega arith) (omega arith)
              ∙ run-get_or (slots n xs) m (n - m) i q
              ∙ slots-get_or n xs (m + i)
          | no q ↦
              sets_outside (slots n []) 0 ys i 0 (inr (omega arith))
              ∙ slots-get_or n [] i
              ∙ sym (get_or-eq_default xs 0 (omega arith))
        ]))
