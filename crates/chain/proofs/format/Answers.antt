use mathlib.Core.Path.{◌≡◌, ◌∙◌}
use mathlib.Core.List.{List}
use mathlib.Core.Logic.{inl}
use Prim.Native.Nat.{ℕ, suc, ◌-◌, ◌≤◌, ◌<◌}
use native.Mathlib.Nat.{sub_self}
use native.Mathlib.Omega.{arith}
use lib.ListN.{length, set, length-set}
use lib.Seq.{get_or-set_same, get_or-set_other}
use Rattle.lists.specs.Lists.{count, from}
use Rattle.lists.proofs.Counts.{count_out}
use Rattle.model.specs.Tree.{empty}
use Rattle.pool.specs.Layout.{root_word, chain_word, most_nodes, root_id, words}
use Rattle.pool.specs.Sound.{nodes_in}
use Rattle.pool.specs.Parts.{ChainAt}
use Rattle.chain.specs.Chain.{Gave}
use Rattle.pool.proofs.Whole.{parts_words, lawful_empty}
use Rattle.pool.proofs.Sized.{Fitting, fits_true}
use Rattle.chain.proofs.format.Goals as goal
use Rattle.chain.proofs.format.Invariants.{Freed}

none : (w : List ℕ) → Fitting (length w) → Freed (set (set w root_word 0) chain_word 0) (nodes_in (length w)) (nodes_in (length w))
unfolding from
none w e = record {
  long = simp length-set e.exact;
  top = get_or-set_other (set w root_word 0) chain_word root_word 0 0 (omega arith) ∙ get_or-set_same w root_word 0 0 (omega arith);
  chain = rw sub_self (record {
    first = get_or-set_same (set w root_word 0) chain_word 0 0 (simp length-set (omega arith));
    links = λ i l. absurd (omega arith);
  });
}

turn : (w w' : List ℕ) (p k : ℕ) → 0 < k → k ≤ p → Freed w p k → ((f : List ℕ) → ChainAt w f → count k f ≡ 0 → Gave w f k w')
    → Freed w' p (k - 1)
unfolding from
turn w w' p k l m F g =
    let G = g (from (suc k) (p - k)) F.chain (count_out k (suc k) (p - k) (inl (omega arith))) in
    let s : suc (k - 1) ≡ k = omega arith in
    let n : p - (k - 1) ≡ suc (p - k) = omega arith in
    record {
      long = G.untouched.long ∙ F.long;
      top = G.untouched.head root_word (omega arith) (omega arith) ∙ F.top;
      chain = rw (s, n) G.chain;
    }

all : (w : List ℕ) (p k : ℕ) → p ≤ most_nodes → k ≤ 0 → Freed w p k → w ≡ words p (empty p)
unfolding empty root_id
all w p k l z F =
    let m : k ≡ 0 = omega arith in
    let n : p - k ≡ p = omega arith in
    parts_words (lawful_empty p l) (record { sized = F.long; top = F.top; tree = tt; chain = rw (n, m) at F.chain })

pub bounds-pool-0 : goal.bounds-pool-0
bounds-pool-0 c = omega (arith, fits_true _ c.requires)

pub bounds-pool-1 : goal.bounds-pool-1
bounds-pool-1 c = omega (arith, length-set {A = ℕ}, fits_true _ c.requires)

pub overflow_sub-n : goal.overflow_sub-n
overflow_sub-n c = omega (arith, length-set {A = ℕ}, fits_true _ c.requires)

pub loop-k-init : goal.loop-k-init
loop-k-init c =
    simp length-set (none c.args.pool.now (fits_true _ c.requires))

pub loop-k-preserved : goal.loop-k-preserved
loop-k-preserved c =
    turn _ _ _ _ (omega arith) (omega arith) c.loop-k.invariant c.give_node.ensures

pub returns : goal.returns
returns c =
    simp length-set at
    (all _ _ _ (simp length-set (fits_true _ c.requires).few) (omega arith) c.loop-k.invariant)
