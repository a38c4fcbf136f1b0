-- A full root goes under a new one: what each step of the code asks, and the tree that stands in the end.
use mathlib.Core.Path.{◌≡◌, refl, sym, ap, ap₂, ◌∙◌}
use mathlib.Core.List.{List, [], ◌∷◌, ◌++◌}
use Prim.Native.Nat.{ℕ, suc, ◌+◌, ◌≤◌}
use native.Mathlib.Omega.{arith}
use lib.ListN.{get_or, drop, length-drop}
use lib.Seq.{get_or-drop, drop-drop}
use Rattle.lists.specs.Lists.{sum, count}
use Rattle.lists.proofs.All.{nil, cons, all_at}
use Rattle.lists.proofs.Counts.{count-append, count_first, one_same}
use Rattle.model.specs.Tree.{Tree, none, size, ids}
use Rattle.model.specs.Insert.{split_child}
use Rattle.model.proofs.Nodes.{node, held, held_inner, fits, child}
use Rattle.pool.specs.Layout.{with_block, node_block, kid_ids, root_block}
use Rattle.pool.specs.Parts.{At, length_at}
use Rattle.chain.specs.Chain.{Free, Took}
use Rattle.pool.proofs.Blocks.{length-node_block}
use Rattle.pool.proofs.Node.{at_length}
use Rattle.pool.proofs.Frame.{at_untouched, chain_untouched, untouched_more, untouched_both, Wrote, wrote, stored_same}
use Rattle.tree.specs.Stands.{Owns, Reshaped}
use Rattle.split.specs.Ready.{SplitReady, RaiseReady, Raised}

module _ {w : List ℕ} {old : ℕ} (S : RaiseReady w old) where
  abbrev h₁ : ℕ
  h₁ = S.height

  abbrev t₁ : Tree h₁
  t₁ = S.tree

  abbrev f₁ : List ℕ
  f₁ = S.free

  pub old_free : Free w f₁
  old_free = record { chain = S.owns.chain; once = λ k. omega (arith, S.owns.once k); some = omega (arith, S.two) }

  module _ (n root : ℕ) (w₁ : List ℕ) (en : n ≡ length_at w old) (et : (f : List ℕ) → Free w f → Took w f root w₁) where
    pub T : Took w f₁ root w₁
    T = et f₁ old_free

    -- the root, the tree and the other free nodes have no node twice
    once : (k : ℕ) → count k (root ∷ []) + held h₁ k t₁ + count k (drop 1 f₁) ≤ 1
    once k = omega (arith, S.owns.once k, count_first k f₁ (omega (arith, S.two)), one_same k T.first)

    module _ (w₂ : List ℕ) (e₂ : w₂ ≡ with_block w₁ root (node_block n [] (old ∷ []))) where
      abbrev o : Tree (suc h₁)
      o = node root [] (t₁ ∷ [])

      W : Wrote w₁ w₂ root (node_block n [] (old ∷ []))
      W = wrote e₂ T.clean.inside (length-node_block n [] (old ∷ []) (omega arith) (omega arith))

      o_size : size (suc h₁) o ≡ size h₁ t₁
      unfolding size sum
      o_size = omega arith

      o_block : node_block n [] (old ∷ []) ≡ root_block (suc h₁) o
      unfolding root_block kid_ids
      o_block =
          let e : n ≡ size (suc h₁) o = en ∙ sym (ap (length_at w) S.here) ∙ at_length w h₁ t₁ S.owns.at.here ∙ sym o_size in
          ap₂ (λ (m j : ℕ). node_block m [] (j ∷ [])) e (sym S.here)

      o_held : (k : ℕ) → held (suc h₁) k o ≡ count k (root ∷ []) + held h₁ k t₁
      unfolding sum
      o_held k = omega (arith, held_inner h₁ k o)

      o_at : At w₂ h₁ t₁
      o_at =
          at_untouched W.untouched h₁ t₁ (λ k l. omega (arith, once k))
          (at_untouched T.untouched h₁ t₁ (λ k l. omega (arith, once k)) S.owns.at)

      pub o_owns : Owns w₂ (suc h₁) o (drop 1 f₁)
      o_owns = record {
        at = record { here = stored_same refl o_block W.stored; each = all_at {P = At w₂ h₁} (none h₁) (cons o_at nil) };
        fit = fits (suc h₁) o (record {
          one_more = omega arith;
          children = cons (child h₁ t₁ S.owns.fit (omega (arith, S.full))) nil;
        }) (omega arith);
        chain = chain_untouched W.untouched (λ k l. omega (arith, once k)) W.chain T.chain;
        once = λ k. omega (arith, once k, o_held k);
        small = omega (arith, o_size, S.owns.small);
      }

      abbrev pub root_splits : SplitReady w₂ root 0
      root_splits = record {
        height = h₁;
        tree = o;
        free = drop 1 f₁;
        owns = o_owns;
        here = refl;
        place = omega arith;
        full = S.full;
        room = omega arith;
        some = omega (arith, length-drop 1 f₁, S.two);
      }

      pub root_raised : (w₃ : List ℕ)
          → Reshaped w₂ w₃ (suc h₁) o (drop 1 f₁) (split_child h₁ o 0 (get_or (drop 1 f₁) 0 0)) (drop 1 (drop 1 f₁))
          → Raised w w₃ h₁ t₁ f₁ root
      root_raised w₃ Q = record {
        first = T.first;
        at = rw (← T.first, ← (get_or-drop 1 f₁ 0 0)) Q.at;
        chain = rw (drop-drop 1 1 f₁) at Q.chain;
        untouched = untouched_more (untouched_both (untouched_both T.untouched W.untouched) Q.untouched) (λ k z.
            omega (
              arith,
              count-append k (ids h₁ t₁) f₁,
              count_first k f₁ (omega (arith, S.two)),
              one_same k T.first,
              count-append k (root ∷ []) (root ∷ []),
              count-append k ((root ∷ []) ++ (root ∷ [])) (ids (suc h₁) o ++ drop 1 f₁),
              count-append k (ids (suc h₁) o) (drop 1 f₁),
              o_held k,
            ));
      }
