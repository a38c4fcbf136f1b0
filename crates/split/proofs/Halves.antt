-- The lengths of the halves of a full node, as the code sums them.
use mathlib.Core.Path.{◌≡◌, refl, sym, ap, ◌∙◌}
use mathlib.Core.List.{List, [], ◌∷◌, map}
use mathlib.Core.Logic.{◌≢◌}
use Prim.Native.Nat.{ℕ, zero, suc, ◌+◌, ◌^◌, ◌≤◌, ◌<◌}
use native.Mathlib.Decide.{dec_lt}
use native.Mathlib.Numerals.{add-one}
use native.Mathlib.Omega.{arith}
use lib.ListN.{length, get_or, take, drop, length-take, length-drop, length-map, take-append-drop, get_or-map, get_or-eq_default}
use lib.Seq.{take-suc, take_all, get_or-drop}
use Rattle.lists.specs.Lists.{sum}
use Rattle.lists.proofs.All.{All, nil, cons, all_take, all_drop, all_of}
use Rattle.lists.proofs.Edits.{map-take, map-drop}
use Rattle.lists.proofs.Sums.{total, total_append}
use Rattle.model.specs.Tree.{Tree, none, size}
use Rattle.model.specs.Fit.{Fit}
use Rattle.model.specs.Insert.{left_half, right_half}
use Rattle.pool.specs.Layout.{id_of, kid_ids}
use Rattle.pool.specs.Parts.{Inside, At, length_at}
use Rattle.pool.proofs.Node.{at_length}
use Rattle.tree.proofs.Standing.{node_of}
use Rattle.split.specs.Nodes.{Summed}

-- ---- one turn of the loop

total_cut : {A : Type 0} (g : A → ℕ) (n : ℕ) (xs : List A) → total g xs ≡ total g (take n xs) + total g (drop n xs)
total_cut g n xs = ap (total g) (sym (take-append-drop n xs)) ∙ total_append g (take n xs) (drop n xs)

module _ {w : List ℕ} {k from : ℕ} (s : Summed w k from) (i : ℕ) where
  abbrev ks : List ℕ
  ks = drop from s.node.kids

  pub summed_less : total (length_at w) (take i ks) < 2 ^ 32
  summed_less = omega (arith, s.small, total_cut (length_at w) from s.node.kids, total_cut (length_at w) i ks)

  module _ (j : ℕ) (ej : j ≡ get_or s.node.kids (from + i) 0) where
    pub summed_inside : j ≢ 0 → Inside w j
    summed_inside ne =
        elim (dec_lt (from + i) (length s.node.kids)) [
          | yes l ↦ rw ej (s.kids (from + i) l)
          | no l ↦ absurd (ne (ej ∙ get_or-eq_default s.node.kids 0 (omega arith)))
        ]

    pub summed_one : (v n : ℕ) → j ≢ 0 → n ≡ length_at w j → v ≡ total (length_at w) (take i ks)
        → v + n ≡ total (length_at w) (take (i + 1) ks)
    unfolding sum
    summed_one v n ne en e =
        elim (dec_lt (from + i) (length s.node.kids)) [
          | yes l ↦
              (let m : i < length ks = omega (arith, length-drop from s.node.kids) in
              rw (add-one i, take-suc ks i 0 m, get_or-drop from s.node.kids i 0, ← ej)
              (omega (arith, total_append (length_at w) (take i ks) (j ∷ []))))
          | no l ↦ absurd (ne (ej ∙ get_or-eq_default s.node.kids 0 (omega arith)))
        ]

    pub summed_none : (v : ℕ) → j ≡ 0 → v ≡ total (length_at w) (take i ks) → v ≡ total (length_at w) (take (i + 1) ks)
    summed_none v z e =
        elim (dec_lt (from + i) (length s.node.kids)) [
          | yes l ↦ absurd (omega (arith, rw (← ej) at (s.kids (from + i) l).some))
          | no l ↦
              (let m : length ks ≤ i = omega (arith, length-drop from s.node.kids) in
              e ∙ ap (total (length_at w)) (take_all i ks m ∙ sym (take_all (i + 1) ks (omega arith))))
        ]

-- ---- of a full node of a tree

kid_sizes : (w : List ℕ) (h : ℕ) {ks : List (Tree h)} → All (At w h) ks → total (length_at w) (map (id_of h) ks) ≡ total (size h) ks
unfolding sum
kid_sizes w h nil = refl
kid_sizes w h (cons {x = t} p ps) = omega (arith, at_length w h t p.here, kid_sizes w h ps)

module _ (w : List ℕ) where
  all_sizes : (h : ℕ) (t : Tree (suc h)) → At w (suc h) t → (from n : ℕ)
      → total (length_at w) (take n (drop from (map (id_of h) t.kids))) ≡ total (size h) (take n (drop from t.kids))
  all_sizes h t A from n =
      rw (map-drop (id_of h) from t.kids, map-take (id_of h) n (drop from t.kids))
      (kid_sizes w h (all_take n (all_drop from (all_of (none h) t.kids A.each))))

  pub left_length : (h : ℕ) (t : Tree h) → At w h t → Fit h t → length t.elems ≡ 31
      → total (length_at w) (take 16 (drop 0 (kid_ids h t))) + 15 ≡ size h (left_half t)
  unfolding kid_ids size sum
  left_length zero t A F n = omega (arith, length-take 15 t.elems)
  left_length (suc h) t A F n = omega (arith, length-take 15 t.elems, all_sizes h t A 0 16)

  pub right_length : (h : ℕ) (t : Tree h) (k : ℕ) → At w h t → Fit h t → length t.elems ≡ 31
      → total (length_at w) (take 16 (drop 16 (kid_ids h t))) + 15 ≡ size h (right_half k t)
  unfolding kid_ids size sum
  right_length zero t k A F n = omega (arith, length-drop 16 t.elems)
  right_length (suc h) t k A F n =
      let e = take_all 16 (drop 16 t.kids) (omega (arith, length-drop 16 t.kids, F.one_more)) in
      omega (arith, length-drop 16 t.elems, all_sizes h t A 16 16, ap (total (size h)) e)

  pub kids_inside : (h : ℕ) (t : Tree h) → At w h t → (c : ℕ) → c < length (kid_ids h t) → Inside w (get_or (kid_ids h t) c 0)
  unfolding kid_ids
  kids_inside zero t A c b = absurd (omega arith)
  kids_inside (suc h) t A c b =
      rw (get_or-map (id_of h) t.kids c (none h)) (A.each c (omega (arith, length-map t.kids (id_of h)))).here.inside

  pub kids_small : (h : ℕ) (t : Tree h) → At w h t → total (length_at w) (kid_ids h t) ≤ size h t
  unfolding kid_ids size sum
  kids_small zero t A = omega arith
  kids_small (suc h) t A = omega (arith, kid_sizes w h (all_of (none h) t.kids A.each))

  abbrev pub summed : (h : ℕ) (t : Tree h) {id : ℕ} → t.id ≡ id → At w h t → Fit h t → size h t < 2 ^ 32 → (from : ℕ) → from ≤ 16
      → Summed w id from
  summed h t e A F m from l =
      record { node = node_of h t e A F; start = l; kids = kids_inside h t A; small = omega (arith, kids_small h t A) }
