-- What the parts of the check say together: whether the pool is sound, and what it holds then.
use mathlib.Core.Path.{◌≡◌, refl, sym, ap, subst, ◌∙◌}
use mathlib.Core.Bool.{Bool, true, false, true≢false}
use mathlib.Core.List.{List}
use Prim.Native.Nat.{ℕ, ◌+◌, ◌*◌, ◌≤◌}
use native.Mathlib.Decide.{dec_le}
use native.Mathlib.Omega.{arith}
use lib.ListN.{length, get_or}
use Rattle.std.specs.Prelude.{Option, None, Some, Ok, Err}
use Rattle.lists.specs.Lists.{count, from}
use Rattle.model.specs.declared.Refusal.TheVariants.{Unsound, Misfit}
use Rattle.lists.proofs.Counts.{count_in, length_from}
use Rattle.lists.proofs.Ranges.{count_most, count-from}
use Rattle.model.specs.Tree.{Root, root_ids, Bag, met, levels_of}
use Rattle.pool.specs.Layout.{root_word, head_words, node_words, most_nodes}
use Rattle.pool.specs.Parts.{ChainAt, Parts, root_at, chain_at}
use Rattle.pool.specs.Sound.{Lawful, Holds, Sound, fits}
use Rattle.pool.proofs.Frame.{chain_inside}
use Rattle.pool.proofs.Whole.{parts_holds, holds_parts}
use Rattle.pool.proofs.Sized.{fits_of, holds_sized}
use Rattle.pool.proofs.Read.{root_read, chain_read, one_bag}
use Rattle.marks.specs.Marks.{seen}
use Rattle.shape.specs.Shape.{Decides}
use Rattle.shape.proofs.Growth.{in_from}
use Rattle.sound.specs.Check.{Planted, TreeFound, Trees, ChainFound, Chains, Checks}

pub misfit : (w : List ℕ) → fits (length w) ≡ false → Checks w (Err Misfit)
misfit w f = record {
  misfit = λ n. refl;
  unsound = λ s u. absurd (true≢false (sym s ∙ f));
  sound = λ b H. absurd (true≢false (sym (holds_sized H) ∙ f));
}

-- ---- one tree and one chain to a pool

only_root : (w : List ℕ) (p : ℕ) (t : Root) → Planted w p t → t ≡ root_at p w (get_or w root_word 0)
only_root w p t P =
    root_read w p t (omega (arith, count_most (root_ids t) (from 1 p) P.once, length_from 1 p)) P.fit P.at
    ∙ ap (root_at p w) (sym P.top)

only_chain : (w f g : List ℕ) → ChainAt w f → ChainAt w g → f ≡ g
only_chain w f g C D =
    let n : ℕ = length f + length g in
    let e : get_or f 0 0 ≡ get_or g 0 0 = sym C.first ∙ D.first in
    chain_read w n f (omega arith) C.links ∙ ap (chain_at n w) e ∙ sym (chain_read w n g (omega arith) D.links)

-- ---- a pool whose length fits

module _ (w : List ℕ) (p : ℕ) (exact : length w ≡ head_words + node_words * p) (few : p ≤ most_nodes) where
  unsound : (Sound w → ⊥) → Checks w (Err Unsound)
  unsound u = record {
    misfit = λ n. absurd (n (fits_of (length w) p exact few));
    unsound = λ s v. refl;
    sound = λ b H. absurd (u (b, H));
  }

  sound : (b : Bag) → Holds w b → Checks w (Ok (record { levels = levels_of b.root; free = length b.free }))
  sound b H = record {
    misfit = λ n. absurd (n (fits_of (length w) p exact few));
    unsound = λ s u. absurd (u (b, H));
    sound = λ c K. ap (λ (d : Bag). Ok (record { levels = levels_of d.root; free = length d.free })) (one_bag H K);
  }

  -- what a pool that holds a bag has where
  held : {b : Bag} → Holds w b → Lawful p b × Parts w p b
  held {b} H =
      let P = holds_parts H in
      let e : H.nodes ≡ p = omega (arith, P.sized) in
      subst (λ (q : ℕ). Lawful q b × Parts w q b) e (H.lawful, P)

  planted : {b : Bag} → Holds w b → Planted w p b.root
  planted H =
      let L = (held H).0 in
      let P = (held H).1 in
      record { top = P.top; at = P.tree; fit = L.fit; once = λ j. omega (arith, L.once j) }

  module _ (m : List ℕ) (none : (j : ℕ) → seen m j ≡ 0) (r : Option ℕ) (m₁ : List ℕ) (T : Trees r w p m m₁) where
    pub wrong_tree : r ≡ None → Checks w (Err Unsound)
    wrong_tree e = unsound (λ s. T.bad e s.0.root (planted s.1))

    module _ (h : ℕ) (e : r ≡ Some h) (q : Option ℕ) (m₂ : List ℕ) (C : Chains q w m₁ m₂) where
      abbrev tree : TreeFound h w p m m₁
      tree = T.good h e

      -- the nodes of the tree are those marked first
      same_root : {b : Bag} → Holds w b → (j : ℕ) → 1 ≤ j → seen m₁ j ≡ count j (root_ids b.root)
      same_root {b} H j l =
          let e : tree.root ≡ b.root = only_root w p tree.root tree.planted ∙ sym (only_root w p b.root (planted H)) in
          rw (← e) (omega (arith, none j, tree.adds j l))

      pub wrong_chain : q ≡ None → Checks w (Err Unsound)
      wrong_chain f = unsound (λ s.
          let H = s.1 in
          C.bad f s.0.free (held H).1.chain (λ j l. omega (arith, same_root H j l, (held H).0.once j, count-from j 1 p)))

      module _ (n : ℕ) (f : q ≡ Some n) (t : Bool) (A : Decides t ((k : ℕ) → 1 ≤ k → k ≤ p → seen m₂ k ≡ 1)) where
        abbrev chain : ChainFound n w m₁ m₂
        chain = C.good n f

        pub lost_node : t ≡ false → Checks w (Err Unsound)
        lost_node g = unsound (λ s.
            let H = s.1 in
            let e : chain.free ≡ s.0.free = only_chain w chain.free s.0.free chain.chain (held H).1.chain in
            A.bad g (λ k l u.
            omega (arith, same_root H k l, chain.adds k l, ap (count k) e, (held H).0.once k, count_in k 1 p l (omega arith))))

        abbrev bag : Bag
        bag = record { root = tree.root; free = chain.free }

        lawful : t ≡ true → Lawful p bag
        lawful g = record { few = few; fit = tree.planted.fit; once = once }
          where
            once : (k : ℕ) → met k bag ≡ count k (from 1 p)
            once k =
                elim (dec_le 1 (count k (from 1 p))) [
                  | yes a ↦
                      let v = in_from p k a in
                      let l = v.low in
                      omega (arith, none k, tree.adds k l, chain.adds k l, A.good g k l v.high, count-from k 1 p)
                  | no a ↦ elim (dec_le 1 (count k chain.free)) [
                    | yes b ↦
                        let I = chain_inside w chain.free chain.chain k b in
                        absurd (omega (arith, count_in k 1 p I.some (omega (arith, I.room))))
                    | no b ↦ omega (arith, tree.planted.once k)
                  ]
                ]

        pub all_right : t ≡ true → Checks w (Ok (record { levels = h; free = n }))
        all_right g =
            let P : Parts w p bag =
            record { sized = exact; top = tree.planted.top; tree = tree.planted.at; chain = chain.chain } in
            rw (tree.levels, chain.nodes) (sound bag (parts_holds (lawful g) P))
