-- `check` meets its contract: what its parts say together.
use mathlib.Core.Path.{◌≡◌, sym, ◌∙◌}
use mathlib.Core.Bool.{Bool, true}
use Prim.Native.Nat.{ℕ}
use native.Mathlib.Omega.{arith}
use Rattle.std.proofs.Common.{Err}
use Rattle.model.specs.declared.Refusal.TheVariants.{Unsound}
use Rattle.pool.specs.Sound.{fits}
use Rattle.pool.proofs.Sized.{Fitting, fits_true}
use Rattle.marks.proofs.Laws.{none_seen}
use Rattle.sound.proofs.Verdict.{misfit, wrong_tree, wrong_chain, lost_node, all_right}
use Rattle.sound.proofs.check.Goals as goal

-- where the length fits
fitting : (n : ℕ) (b : Bool) → b ≡ fits n → b ≡ true → Fitting n
fitting n b e t = fits_true n (sym e ∙ t)

pub returns-then-not-length_fits : goal.returns-then-not-length_fits
returns-then-not-length_fits c =
    misfit _ (sym c.length_fits.ensures ∙ c.if-not-length_fits.true)

pub overflow_sub-p : goal.overflow_sub-p
overflow_sub-p c =
    omega (arith, (fitting _ _ c.length_fits.ensures c.if-not-length_fits.false).exact)

pub tree-requires : goal.tree-requires
tree-requires c =
    let F = fitting _ _ c.length_fits.ensures c.if-not-length_fits.false in
    record {
      marks_fit = record { exact = F.exact; marks = omega (arith, F.few) };
      by_index = none_seen 64;
    }

pub returns-in_err-levels : goal.returns-in_err-levels
returns-in_err-levels c =
    let F = fitting _ _ c.length_fits.ensures c.if-not-length_fits.false in
    let e : c.from_residual.result ≡ Err Unsound = grind arith in
    rw e (wrong_tree _ _ F.exact F.few _ (none_seen 64) _ _ c.tree.ensures c.in_err-levels.ensures.ok_part)

pub chain-requires : goal.chain-requires
chain-requires c =
    let F = fitting _ _ c.length_fits.ensures c.if-not-length_fits.false in
    record { exact = F.exact; marks = omega (arith, F.few, c.tree.ensures.long) }

pub returns-in_err-free : goal.returns-in_err-free
returns-in_err-free c =
    let F = fitting _ _ c.length_fits.ensures c.if-not-length_fits.false in
    let e : c.from_residual-in_err-free.result ≡ Err Unsound = grind arith in
    rw e
    (wrong_chain _ _ F.exact F.few _ (none_seen 64) _ _ c.tree.ensures _ c.in_ok-levels.ensures.ok_part _ _
    c.chain.ensures c.in_err-free.ensures.ok_part)

pub all_marked-requires : goal.all_marked-requires
all_marked-requires c =
    omega (arith, (fitting _ _ c.length_fits.ensures c.if-not-length_fits.false).few, c.tree.ensures.long, c.chain.ensures.long)

pub returns-then-not-all_marked : goal.returns-then-not-all_marked
returns-then-not-all_marked c =
    let F = fitting _ _ c.length_fits.ensures c.if-not-length_fits.false in
    lost_node _ _ F.exact F.few _ (none_seen 64) _ _ c.tree.ensures _ c.in_ok-levels.ensures.ok_part _ _
    c.chain.ensures _ c.in_ok-free.ensures.ok_part _ c.all_marked.ensures c.if-not-all_marked.true

pub returns : goal.returns
returns c =
    let F = fitting _ _ c.length_fits.ensures c.if-not-length_fits.false in
    all_right _ _ F.exact F.few _ (none_seen 64) _ _ c.tree.ensures _ c.in_ok-levels.ensures.ok_part _ _
    c.chain.ensures _ c.in_ok-free.ensures.ok_part _ c.all_marked.ensures c.if-not-all_marked.false
