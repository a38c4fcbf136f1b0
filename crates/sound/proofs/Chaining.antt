-- The free chain: what the walk along it has passed, and found, at each step.
use mathlib.Core.Path.{◌≡◌, refl, sym, ap, ap₂, subst, ◌∙◌}
use mathlib.Core.List.{List, [], ◌∷◌, ◌++◌}
use Prim.Native.Nat.{ℕ, zero, suc, ◌+◌, ◌*◌, ◌≤◌, ◌<◌}
use native.Mathlib.Decide.{dec_lt}
use native.Mathlib.Omega.{arith}
use lib.ListN.{length, get_or, length-append}
use lib.Seq.{ext_get_or}
use Rattle.std.specs.Prelude.{None, Some}
use Rattle.lists.specs.Lists.{count, from}
use Rattle.lists.proofs.All.{All, nil, cons, all_append}
use Rattle.lists.proofs.Counts.{count-append, count_self, count-nil, length_from}
use Rattle.lists.proofs.Ranges.{count_most}
use Rattle.pool.specs.Layout.{chain_word, head_words, node_words, start, block, free_block}
use Rattle.pool.specs.Parts.{Inside, Stored, ChainAt}
use Rattle.pool.proofs.Block.{length-block, block_word}
use Rattle.pool.proofs.Blocks.{length-free_block}
use Rattle.pool.proofs.Cells.{Links}
use Rattle.pool.proofs.Node.{free_word, free_link}
use Rattle.pool.proofs.Whole.{Within}
use Rattle.marks.specs.Marks.{seen}
use Rattle.marks.proofs.Laws.{seen-lt}
use Rattle.shape.specs.Shape.{Adds, Unmet}
use Rattle.shape.proofs.Growth.{once_all}
use Rattle.sound.specs.Filled.{Clear}
use Rattle.sound.specs.Check.{ChainFound, Chains}

-- ---- one free node

abbrev link_at : List ℕ → ℕ → ℕ
link_at w k = get_or (block w k) 65 0

abbrev FreeAt : List ℕ → ℕ → Type 0
FreeAt w k = Stored w k (free_block (link_at w k))

pub clear_free : (w : List ℕ) (k : ℕ) → Inside w k → Clear (block w k) 0 65 → FreeAt w k
clear_free w k I C = record {
  inside = I;
  is = ext_get_or 0 (block w k) (free_block (link_at w k)) (length-block w k I ∙ sym (length-free_block (link_at w k))) (λ i l.
      elim (dec_lt i 65) [
        | yes a ↦ C i (omega arith) a ∙ sym (free_word (link_at w k) i a)
        | no a ↦ (let e : i ≡ 65 = omega (arith, length-block w k I) in rw e (sym (free_link (link_at w k))))
      ]);
}

-- ---- a stretch of the chain: from node a through those in f to node b

abbrev Stretch : List ℕ → ℕ → List ℕ → ℕ → Type 0
Stretch w a [] b = a ≡ b
Stretch w a (i ∷ f) b = (i ≡ a) × FreeAt w a × Stretch w (link_at w a) f b

module _ (w : List ℕ) where
  -- one node more
  longer : (a b : ℕ) (f : List ℕ) → Stretch w a f b → FreeAt w b → Stretch w a (f ++ (b ∷ [])) (link_at w b)
  longer a b [] e F = (sym e, subst (FreeAt w) (sym e) F, ap (link_at w) e)
  longer a b (i ∷ f) s F = (s.0, s.1, longer (link_at w a) b f s.2 F)

  -- a chain is a stretch that ends at 0
  chain-stretch : (f : List ℕ) → Links w f → Stretch w (get_or f 0 0) f 0
  chain-stretch [] l = refl
  chain-stretch (k ∷ f) l =
      let S = l 0 (omega arith) in
      let e : link_at w k ≡ get_or f 0 0 = ap (λ (b : List ℕ). get_or b 65 0) S.is ∙ free_link (get_or f 0 0) in
      (refl, rw e S, rw e (chain-stretch f (λ i m. l (suc i) (omega arith))))

  stretch-chain : (a : ℕ) (f : List ℕ) → Stretch w a f 0 → (a ≡ get_or f 0 0) × Links w f
  stretch-chain a [] e = (e, λ i l. absurd (omega arith))
  stretch-chain a (k ∷ f) s = (sym s.0, go (stretch-chain (link_at w a) f s.2))
    where
      go : (link_at w a ≡ get_or f 0 0) × Links w f → Links w (k ∷ f)
      go L zero l = rw (s.0, ← L.0) s.1
      go L (suc i) l = L.1 i (omega arith)

  -- what goes on to 0 begins with what was passed
  onward : (a b : ℕ) (f g : List ℕ) → Stretch w a f b → Stretch w a g 0 → (r : List ℕ) × (g ≡ f ++ r) × Stretch w b r 0
  onward a b [] g e s = (g, refl, subst (λ (j : ℕ). Stretch w j g 0) e s)
  onward a b (i ∷ f) [] s e = absurd (omega (arith, s.1.inside.some))
  onward a b (i ∷ f) (j ∷ g) s t =
      let r = onward (link_at w a) b f g s.2 t.2 in
      (r.0, ap₂ (λ (x : ℕ) (xs : List ℕ). x ∷ xs) (t.0 ∙ sym s.0) r.1, r.2)

  first : (b : ℕ) (r : List ℕ) → Stretch w b r 0 → (b ≡ 0 → ⊥) → FreeAt w b × (0 < count b r)
  first b [] e n = absurd (n e)
  first b (i ∷ r) s n = (s.1, rw s.0 (omega (arith, count_self b r)))

-- ---- the walk

-- the nodes passed from the first one to k: n of them, all free and marked
pub record Passed (w : List ℕ) (p : ℕ) (m₀ m : List ℕ) (k n : ℕ) : Type 0 where
  pub nodes : List ℕ
  pub many : n ≡ length nodes
  pub stretch : Stretch w (get_or w chain_word 0) nodes k
  pub within : All (Within p) nodes
  pub adds : Adds m₀ nodes m
  pub long : length m ≡ length m₀

pub passed_none : (w : List ℕ) (p : ℕ) (m : List ℕ) → Passed w p m m (get_or w chain_word 0) 0
passed_none w p m =
    record { nodes = []; many = refl; stretch = refl; within = nil; adds = λ j l. omega (arith, count-nil j); long = refl }

module _ (w : List ℕ) (p : ℕ) (m₀ m : List ℕ) (k n : ℕ) (P : Passed w p m₀ m k n) where
  -- no more than there are nodes
  pub passed_few : n ≤ p
  passed_few =
      let once = once_all p P.within (λ j l. omega (arith, P.adds j l, seen-lt m j)) in
      omega (arith, P.many, count_most P.nodes (from 1 p) once, length_from 1 p)

  -- the chain ends
  pub passed_all : k ≡ 0 → Chains (Some n) w m₀ m
  passed_all e =
      let c = stretch-chain w (get_or w chain_word 0) P.nodes (rw e at P.stretch) in
      let found : ChainFound n w m₀ m =
      record { free = P.nodes; chain = record { first = c.0; links = c.1 }; nodes = P.many; adds = P.adds } in
      record {
        good = λ i q. let d : n ≡ i = cc in subst (λ (x : ℕ). ChainFound x w m₀ m) d found;
        bad = λ q. let z : ◌≡◌ {A = ℕ} 0 1 = cc in absurd (omega arith);
        long = P.long;
      }

  module _ (some : k ≡ 0 → ⊥) where
    -- what a right chain has here
    goes_on : (f : List ℕ) → ChainAt w f → FreeAt w k × (count k P.nodes < count k f)
    goes_on f C =
        let s : Stretch w (get_or w chain_word 0) f 0 = rw C.first (chain-stretch w f C.links) in
        let r = onward w (get_or w chain_word 0) k P.nodes f P.stretch s in
        let h = first w k r.0 r.2 some in
        (h.0, rw r.1 (omega (arith, h.1, count-append k P.nodes r.0)))

    wrong : {m' : List ℕ} → length m' ≡ length m → ((f : List ℕ) → ChainAt w f → Unmet m₀ f → ⊥) → Chains None w m₀ m'
    wrong e f = record {
      good = λ i q. let z : ◌≡◌ {A = ℕ} 0 1 = cc in absurd (omega arith);
      bad = λ q. f;
      long = e ∙ P.long;
    }

    pub passed_past : length w ≡ head_words + node_words * p → p < k → Chains None w m₀ m
    passed_past e l = wrong refl (λ f C U. omega (arith, (goes_on f C).0.inside.room, (goes_on f C).0.inside.some))

    pub passed_twice : {m' : List ℕ} → length m' ≡ length m → seen m k ≡ 1 → Chains None w m₀ m'
    passed_twice e s = wrong e (λ f C U.
        let G = goes_on f C in
        omega (arith, G.1, U k G.0.inside.some, P.adds k G.0.inside.some))

    pub passed_dirty : {m' : List ℕ} → length m' ≡ length m → (Clear (block w k) 0 65 → ⊥) → Chains None w m₀ m'
    passed_dirty e d = wrong e (λ f C U. d (λ i a b. rw (goes_on f C).0.is (free_word _ i b)))

    pub passed_more : length w ≡ head_words + node_words * p → k ≤ p → {m' : List ℕ} → length m' ≡ length m → Adds m (k ∷ []) m'
        → Clear (block w k) 0 65 → (a : ℕ) → a ≡ start k → Passed w p m₀ m' (get_or w (a + 65) 0) (n + 1)
    passed_more e l {m'} q A C a is =
        let I : Inside w k = record { some = omega arith; room = omega arith } in
        record {
          nodes = P.nodes ++ (k ∷ []);
          many = omega (arith, P.many, length-append P.nodes (k ∷ []));
          stretch = rw (is, ← block_word w k 65 (omega arith)) (longer w (get_or w chain_word 0) k P.nodes P.stretch (clear_free w k I C));
          within = all_append P.within (cons (record { low = I.some; high = l }) nil);
          adds = λ j l. omega (arith, P.adds j l, A j l, count-append j P.nodes (k ∷ []));
          long = q ∙ P.long;
        }
