-- The free chain after a node is taken from it, and after one is given to it. Both store one node's words and the chain word.
use mathlib.Core.Path.{◌≡◌, refl, sym, ap, ◌∙◌}
use mathlib.Core.List.{List, [], ◌∷◌}
use mathlib.Core.Logic.{◌≢◌, inl}
use Prim.Native.Nat.{ℕ, zero, suc, ◌+◌, ◌≤◌, ◌<◌}
use native.Mathlib.Omega.{arith}
use lib.ListN.{length, get_or, set, replicate, length-set}
use lib.Seq.{sets, set_comm, get_or-set_same, get_or-set_other}
use Rattle.lists.specs.Lists.{count}
use Rattle.lists.proofs.Counts.{count_self, count-get_or}
use Rattle.words.proofs.Laws.{sets-append, sets_outside}
use Rattle.pool.specs.Layout.{chain_word, node_words, start, block, with_block, free_block}
use Rattle.pool.specs.Parts.{Inside, Stored, ChainAt}
use Rattle.pool.specs.Frame.{Untouched}
use Rattle.chain.specs.Chain.{Free, Took, Gave}
use Rattle.pool.proofs.Block.{block_word, length-with_block, head_word, stored_block, block_other}
use Rattle.pool.proofs.Frame.{stored_frame}
use Rattle.pool.proofs.Store.{block-head, set-block}

-- the words b stored for node k, and then v in the chain word
module _ (w : List ℕ) (k : ℕ) (b : List ℕ) (v : ℕ) (I : Inside w k) (e : length b ≡ node_words) where
  abbrev node : List ℕ
  node = with_block w k b

  abbrev after : List ℕ
  after = set node chain_word v

  long : length after ≡ length w
  long = length-set node chain_word v ∙ length-with_block w k b

  other : (j : ℕ) → 1 ≤ j → j ≢ k → block after j ≡ block w j
  other j l n = block-head node j chain_word v (omega arith) ∙ block_other w k b e j l I.some n

  untouched : Untouched w after (k ∷ [])
  untouched = record {
    long = long;
    head = λ i l n. get_or-set_other node chain_word i v 0 n ∙ head_word w k b i l;
    others = λ j J z. other j J.some (λ q. omega (arith, rw q at z, count_self k []));
  }

  stored : Stored after k b
  stored = stored_frame node after (length-set node chain_word v) (block-head node k chain_word v (omega arith)) (stored_block w k b e I)

  first : get_or after chain_word 0 ≡ v
  first = get_or-set_same node chain_word v 0 (omega (arith, length-with_block w k b, I.room))

  -- free nodes, of which k is none, stay linked
  links : (f : List ℕ) → count k f ≡ 0 → ((i : ℕ) → i < length f → Stored w (get_or f i 0) (free_block (get_or f (suc i) 0)))
      → (i : ℕ) → i < length f → Stored after (get_or f i 0) (free_block (get_or f (suc i) 0))
  links f z L i l =
      let S = L i l in
      stored_frame w after long (other (get_or f i 0) S.inside.some (λ q. omega (arith, rw q at (count-get_or f i 0 l)))) S

-- ---- taken

pub took : (w f : List ℕ) (a : ℕ) → a ≡ start (get_or w chain_word 0) → Free w f
    → Took w f (get_or w chain_word 0) (set (set w chain_word (get_or w (a + 65) 0)) (a + 65) 0)
unfolding free_block
took w [] a e F = absurd (omega (arith, F.some))
took w (k ∷ f) a e F =
    let n : ℕ = get_or f 0 0 in
    let S : Stored w k (free_block n) = F.chain.links 0 F.some in
    let v : get_or w (start k + 65) 0 ≡ n = sym (block_word w k 65 (omega arith)) ∙ ap (λ (b : List ℕ). get_or b 65 0) S.is in
    let z : count k f ≡ 0 = omega (arith, F.once k, count_self k f) in
    rw (e, F.chain.first, v, set_comm w chain_word (start k + 65) n 0 (omega arith), set-block w k S.inside 65 0 (omega arith), S.is)
    (record {
      first = refl;
      clean = stored w k (replicate node_words 0) n S.inside refl;
      chain = record {
        first = first w k (replicate node_words 0) n S.inside refl;
        links = links w k (replicate node_words 0) n S.inside refl f z (λ i l. F.chain.links (suc i) (omega arith));
      };
      untouched = untouched w k (replicate node_words 0) n S.inside refl;
    })

-- ---- given

pub gave : (w : List ℕ) (k a : ℕ) (w₁ : List ℕ) → Inside w k → a ≡ start k → w₁ ≡ sets w a (replicate 65 0)
    → (f : List ℕ) → ChainAt w f → count k f ≡ 0 → Gave w f k (set (set w₁ (a + 65) (get_or w₁ chain_word 0)) chain_word k)
unfolding free_block with_block
gave w k a w₁ I e e₁ f C z =
    let n : ℕ = get_or f 0 0 in
    let v : get_or (sets w (start k) (replicate 65 0)) chain_word 0 ≡ n =
    sets_outside w (start k) (replicate 65 0) chain_word 0 (inl (omega arith)) ∙ C.first in
    rw (e₁, e, v, ← (sets-append w (start k) (replicate 65 0) (n ∷ [])))
    (record { chain = record { first = first w k (free_block n) k I refl; links = all }; untouched = untouched w k (free_block n) k I refl })
  where
    all : (i : ℕ) → i < length (k ∷ f)
        → Stored (set (with_block w k (free_block (get_or f 0 0))) chain_word k) (get_or (k ∷ f) i 0) (free_block (get_or (k ∷ f) (suc i) 0))
    all zero l = stored w k (free_block (get_or f 0 0)) k I refl
    all (suc i) l = links w k (free_block (get_or f 0 0)) k I refl f z C.links i (omega arith)
