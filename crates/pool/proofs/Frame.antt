-- What an edit leaves: a tree and a chain whose own nodes have the same words; one node with new words; one edit after another.
use mathlib.Core.Path.{◌≡◌, refl, sym, subst₂, ◌∙◌}
use mathlib.Core.List.{List, [], ◌∷◌, ◌++◌, map}
use Prim.Native.Nat.{ℕ, zero, suc, ◌≤◌, ◌<◌}
use native.Mathlib.Omega.{arith}
use lib.ListN.{length, get_or}
use Rattle.lists.specs.Lists.{count, concat}
use Rattle.lists.proofs.Counts.{count-append, count_self, count-get_or}
use Rattle.lists.proofs.Ranges.{count-below}
use Rattle.model.specs.Tree.{Tree, kid, ids, Root, bare, rooted, root_ids}
use Rattle.model.proofs.Nodes.{held_kid}
use Rattle.pool.specs.Layout.{chain_word, node_words, block, with_block}
use Rattle.pool.specs.Parts.{Inside, Stored, At, RootAt, ChainAt}
use Rattle.pool.specs.Frame.{Untouched}
use Rattle.pool.proofs.Block.{length-with_block, head_word, stored_block, block_other}
use Rattle.pool.proofs.Cells.{tree-ids, chain-ids, words_are, at_cells, links_cells}

-- ---- a tree's own nodes

id_counted : (h : ℕ) (t : Tree h) → 0 < count t.id (ids h t)
unfolding ids
id_counted zero t = omega (arith, count_self t.id [])
id_counted (suc h) t = omega (arith, count_self t.id (concat (map (ids h) t.kids)))

-- ---- the same blocks

-- the nodes in ks have the same words in both
abbrev Same : List ℕ → List ℕ → List ℕ → Type 0
Same w w' ks = (k : ℕ) → 0 < count k ks → block w' k ≡ block w k

module _ (w w' : List ℕ) (e : length w' ≡ length w) where
  inside_frame : {k : ℕ} → Inside w k → Inside w' k
  inside_frame I = record { some = I.some; room = omega arith }

  pub stored_frame : {k : ℕ} {ys : List ℕ} → block w' k ≡ block w k → Stored w k ys → Stored w' k ys
  stored_frame s S = record { inside = inside_frame S.inside; is = s ∙ S.is }

  at_frame : (h : ℕ) (t : Tree h) → Same w w' (ids h t) → At w h t → At w' h t
  at_frame zero t s A = record { here = stored_frame (s t.id (id_counted zero t)) A.here; each = tt }
  at_frame (suc h) t s A = record {
    here = stored_frame (s t.id (id_counted (suc h) t)) A.here;
    each = λ c l. at_frame h (kid h t c) (λ k m. s k (omega (arith, held_kid h k t c l))) (A.each c l);
  }

  pub root_frame : (r : Root) → Same w w' (root_ids r) → RootAt w r → RootAt w' r
  unfolding root_ids
  root_frame bare s A = tt
  root_frame (rooted h t) s A = at_frame h t s A

  pub chain_frame : (f : List ℕ) → Same w w' f → get_or w' chain_word 0 ≡ get_or w chain_word 0 → ChainAt w f → ChainAt w' f
  chain_frame f s q C =
      record { first = q ∙ C.first; links = λ i l. stored_frame (s (get_or f i 0) (count-get_or f i 0 l)) (C.links i l) }

-- ---- a node of a tree, and one of a chain, lies in the pool

module _ (w : List ℕ) where
  at_inside : (h : ℕ) (t : Tree h) → At w h t → (k : ℕ) → 0 < count k (ids h t) → Inside w k
  at_inside h t A k l = (words_are (Stored w) k (at_cells w h t A) (rw (tree-ids h t) l)).inside

  pub chain_inside : (f : List ℕ) → ChainAt w f → (k : ℕ) → 0 < count k f → Inside w k
  chain_inside f C k l = (words_are (Stored w) k (links_cells w f C.links) (rw (chain-ids f) l)).inside

  -- so a chain has no more nodes than the pool has words
  pub chain_few : (f : List ℕ) → ChainAt w f → ((k : ℕ) → count k f ≤ 1) → length f ≤ length w
  chain_few f C once = count-below (length w) f once (λ k l. omega (arith, chain_inside f C k l))

-- ---- an edit of the nodes in own

-- no node of ks is among them
abbrev Apart : List ℕ → List ℕ → Type 0
Apart own ks = (k : ℕ) → 0 < count k ks → count k own ≡ 0

module _ {w w' own : List ℕ} (U : Untouched w w' own) where
  pub at_untouched : (h : ℕ) (t : Tree h) → Apart own (ids h t) → At w h t → At w' h t
  at_untouched h t a A = at_frame w w' U.long h t (λ k l. U.others k (at_inside w h t A k l) (a k l)) A

  pub stored_untouched : {k : ℕ} {ys : List ℕ} → count k own ≡ 0 → Stored w k ys → Stored w' k ys
  stored_untouched {k} z S = stored_frame w w' U.long (U.others k S.inside z) S

  pub chain_untouched : {f : List ℕ} → Apart own f → get_or w' chain_word 0 ≡ get_or w chain_word 0 → ChainAt w f → ChainAt w' f
  chain_untouched {f} a q C = chain_frame w w' U.long f (λ k l. U.others k (chain_inside w f C k l) (a k l)) q C

  pub untouched_more : {all : List ℕ} → ((k : ℕ) → count k all ≡ 0 → count k own ≡ 0) → Untouched w w' all
  untouched_more s = record { long = U.long; head = U.head; others = λ k I z. U.others k I (s k z) }

-- ---- new words stored for one node

pub record Wrote (w w' : List ℕ) (k : ℕ) (b : List ℕ) : Type 0 where
  pub stored : Stored w' k b
  pub untouched : Untouched w w' (k ∷ [])
  pub chain : get_or w' chain_word 0 ≡ get_or w chain_word 0

pub wrote : {w w' : List ℕ} {k : ℕ} {b : List ℕ} → w' ≡ with_block w k b → Inside w k → length b ≡ node_words → Wrote w w' k b
wrote {w} {k = k} {b} e I l =
    rw e (record {
      stored = stored_block w k b l I;
      untouched = record {
        long = length-with_block w k b;
        head = λ i l n. head_word w k b i l;
        others = λ j J z. block_other w k b l j J.some I.some (λ q. omega (arith, rw q at z, count_self k []));
      };
      chain = head_word w k b chain_word (omega arith);
    })

-- the same node and the same words, said in another way
pub stored_same : {w : List ℕ} {k j : ℕ} {b c : List ℕ} → k ≡ j → b ≡ c → Stored w j b → Stored w k c
stored_same {w} e d S = subst₂ (Stored w) (sym e) d S

pub wrote_same : {w w' : List ℕ} {k j : ℕ} {b c : List ℕ} → k ≡ j → b ≡ c → Wrote w w' j b → Wrote w w' k c
wrote_same {w} {w'} e d W = subst₂ (Wrote w w') (sym e) d W

-- ---- no edit, and one after another

pub untouched_none : {w own : List ℕ} → Untouched w w own
untouched_none = record { long = refl; head = λ i l n. refl; others = λ k I z. refl }

pub untouched_both : {u v w xs ys : List ℕ} → Untouched u v xs → Untouched v w ys → Untouched u w (xs ++ ys)
untouched_both {u} {v} {xs} {ys} S T = record {
  long = T.long ∙ S.long;
  head = λ i l n. T.head i l n ∙ S.head i l n;
  others = λ k I z.
      let both = count-append k xs ys in
      T.others k (inside_frame u v S.long I) (omega arith) ∙ S.others k I (omega arith);
}
