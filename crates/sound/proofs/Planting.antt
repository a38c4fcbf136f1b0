-- The tree of the pool: what the two passes say together.
use mathlib.Core.Path.{◌≡◌, refl, sym, ap, subst, subst₂, ◌∙◌}
use mathlib.Core.Bool.{Bool, true, false}
use mathlib.Core.List.{List}
use Prim.Native.Nat.{ℕ, zero, suc, ◌+◌, ◌*◌, ◌≤◌}
use native.Mathlib.Omega.{arith}
use lib.ListN.{length, get_or}
use Rattle.std.specs.Prelude.{None, Some}
use Rattle.lists.specs.Lists.{count, from}
use Rattle.lists.proofs.All.{All, all_map}
use Rattle.lists.proofs.Counts.{count-nil, counted, all_counted}
use Rattle.lists.proofs.Ranges.{count-from}
use Rattle.model.specs.Tree.{Tree, kid, ids, Root, bare, rooted, root_ids, levels_of}
use Rattle.model.specs.Fit.{Fit, FitTree}
use Rattle.pool.specs.Layout.{root_word, head_words, node_words, root_id}
use Rattle.pool.specs.Parts.{At, tree_at, levels_at}
use Rattle.pool.proofs.Node.{at_leaf}
use Rattle.pool.proofs.Read.{tree_read}
use Rattle.marks.specs.Marks.{seen}
use Rattle.marks.proofs.Laws.{seen-lt}
use Rattle.shape.specs.Shape.{Decides, Ends, WellShaped, Grown, Shapes}
use Rattle.shape.proofs.Growth.{tree_id, in_from, grown_nodes, shape-grown, shape_levels}
use Rattle.sound.specs.Filled.{Readable, Filled}
use Rattle.sound.specs.Check.{Planted, TreeFound, Trees}
use Rattle.sound.proofs.Contents.{at_filled, grown_reads, filled_at}

-- ---- a tree that stands in the pool is well shaped

at_ends : (w : List ℕ) (h : ℕ) (t : Tree h) → Fit h t → At w h t → Ends w h t
at_ends w zero t F A = at_leaf w t A.here F.most 0 (omega arith)
at_ends w (suc h) t F A = λ c l. at_ends w h (kid h t c) (F.each c l).fit (A.each c l)

planted_shape : (w : List ℕ) (p h : ℕ) (t : Tree h) → Planted w p (rooted h t) → WellShaped w p h t.id × At w h (tree_at w h t.id)
unfolding root_ids
planted_shape w p h t P =
    let e = tree_read w h t P.fit.fit P.at in (
      record {
        fit = subst (FitTree h) e P.fit;
        once = subst (λ (s : Tree h). (j : ℕ) → count j (ids h s) ≤ count j (from 1 p)) e P.once;
        ends = subst (Ends w h) e (at_ends w h t P.fit.fit P.at);
      },
      subst (At w h) e P.at,
    )

-- ---- the answers

module _ {w : List ℕ} {p : ℕ} {m m' : List ℕ} where
  wrong : length m' ≡ length m → ((t : Root) → Planted w p t → ⊥) → Trees None w p m m'
  wrong e f = record { good = λ h q. let z : ◌≡◌ {A = ℕ} 0 1 = cc in absurd (omega arith); bad = λ q. f; long = e }

  right : {h : ℕ} → length m' ≡ length m → TreeFound h w p m m' → Trees (Some h) w p m m'
  right {h} e T = record {
    good = λ g q. let d : h ≡ g = cc in subst (λ (n : ℕ). TreeFound n w p m m') d T;
    bad = λ q. let z : ◌≡◌ {A = ℕ} 0 1 = cc in absurd (omega arith);
    long = e;
  }

module _ (w : List ℕ) (p : ℕ) (exact : length w ≡ head_words + node_words * p) (m : List ℕ) (none : (j : ℕ) → seen m j ≡ 0)
    (k : ℕ) (is : get_or w root_word 0 ≡ k) where
  pub no_tree : k ≡ 0 → Trees (Some 0) w p m m
  unfolding root_ids root_id levels_of
  no_tree e = right refl record {
    root = bare;
    planted = record { top = is ∙ e; at = tt; fit = tt; once = λ j. omega (arith, count-nil j) };
    levels = refl;
    adds = λ j l. omega (arith, count-nil j);
  }

  module _ (some : k ≡ 0 → ⊥) (h : ℕ) (levels : h ≡ levels_at p w k) where
    -- what is planted is the tree at node k with h inner levels
    only : (t : Root) → Planted w p t → WellShaped w p h k × At w h (tree_at w h k)
    unfolding root_id
    only bare P = absurd (some (sym is ∙ P.top))
    only (rooted g t) P =
        let e : t.id ≡ k = sym P.top ∙ is in
        let W = planted_shape w p g t P in
        let d : g ≡ h = sym (shape_levels w p exact W.0) ∙ ap (levels_at p w) e ∙ sym levels in
        subst₂ (λ (a b : ℕ). WellShaped w p a b × At w a (tree_at w a b)) d e W

    module _ (r : Bool) (m₁ : List ℕ) (M : Shapes r w p h k m m₁) where
      pub not_shaped : r ≡ false → Trees None w p m m₁
      not_shaped f = wrong M.long (λ t P.
          let W = (only t P).0 in
          M.bad f W (λ j l. omega (arith, none j, W.once j, count-from j 1 p)))

      module _ (t : r ≡ true) where
        abbrev nodes : List ℕ
        nodes = ids h (tree_at w h k)

        marked : (j : ℕ) → 1 ≤ j → seen m₁ j ≡ count j nodes
        marked j l = omega (arith, none j, (M.good t).1 j l)

        grown : Grown w p h 1 k
        grown = shape-grown w p exact (M.good t).0

        pub readable : (j : ℕ) → 1 ≤ j → seen m₁ j ≡ 1 → (j ≤ p) × Readable w j
        readable j l e = (
          (in_from p j (omega (arith, marked j l, (M.good t).0.once j))).high,
          counted (grown_nodes w p exact (Readable w) (grown_reads w p exact) h 1 k grown) j (omega (arith, marked j l)),
        )

        module _ (q : Bool) (T : Decides q ((j : ℕ) → 1 ≤ j → seen m₁ j ≡ 1 → Filled w j)) where
          pub not_filled : q ≡ false → Trees None w p m m₁
          not_filled f = wrong M.long (λ u P.
              let fs = at_filled w h (tree_at w h k) (M.good t).0.fit.fit (only u P).1 in
              T.bad f (λ j l e. counted fs j (omega (arith, marked j l))))

          pub planted : q ≡ true → Trees (Some h) w p m m₁
          unfolding root_ids root_id levels_of
          planted g =
              let fs : All (Filled w) nodes =
              all_map (λ j c.
              let v = in_from p j (omega (arith, (M.good t).0.once j)) in
              T.good g j v.low (omega (arith, marked j v.low, seen-lt m₁ j))) (all_counted nodes) in
              right M.long record {
                root = rooted h (tree_at w h k);
                planted = record {
                  top = is ∙ sym (tree_id w h k);
                  at = filled_at w p exact h 1 k grown fs;
                  fit = (M.good t).0.fit;
                  once = (M.good t).0.once;
                };
                levels = refl;
                adds = (M.good t).1;
              }
