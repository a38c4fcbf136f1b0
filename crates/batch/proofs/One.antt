-- The batch's promise admits one result, one pool and one output, and some; so a sound pool's is what its commands one at a time give.
use mathlib.Core.Path.{◌≡◌, refl, sym, ◌∙◌}
use mathlib.Core.List.{List}
use Prim.Native.Nat.{ℕ}
use native.Mathlib.Omega.{arith}
use lib.ListN.{length}
use lib.Seq.{sets}
use Rattle.pool.specs.Sound.{Sound}
use Rattle.pool.proofs.Read.{one_pool}
use Rattle.admission.proofs.Kept.{misfit_kept, unsound_kept, held_kept}
use Rattle.admission.proofs.One.{decided}
use Rattle.commands.specs.declared.Ran.{Ran}
use Rattle.commands.specs.Steps.{start, batch_of}
use Rattle.commands.specs.OnBag.{on_bag, ran_of}
use Rattle.batch.specs.Batch.{ran_nothing, Idle, Batches}
use Rattle.batch.specs.Singly.{OneByOne}
use Rattle.batch.proofs.Singly.{rest, one_by_one, one_by_one_agree}

idle_one : {n : ℕ} {w out : List ℕ} {r s : Ran} {w' w'' out' out'' : List ℕ} → Idle n w out r w' out' → Idle n w out s w'' out''
    → (r ≡ s) × (w' ≡ w'') × (out' ≡ out'')
idle_one I J = (I.ran ∙ sym J.ran, I.words ∙ sym J.words, I.output ∙ sym J.output)

pub batches_one : {w : List ℕ} (input : List ℕ) {out : List ℕ} {r s : Ran} {w' w'' out' out'' : List ℕ} → Batches w input out r w' out'
    → Batches w input out s w'' out'' → (r ≡ s) × (w' ≡ w'') × (out' ≡ out'')
batches_one {w} input P Q =
    decided w (λ n. idle_one (P.misfit n) (Q.misfit n)) (λ z u. idle_one (P.unsound z u) (Q.unsound z u))
    (λ b H.
    let R = P.holds b H in
    let T = Q.holds b H in
    (R.ran ∙ sym T.ran, one_pool R.holds T.holds, R.output ∙ sym T.output))

pub batches_some : (w input out : List ℕ) → (r : Ran) × (w' out' : List ℕ) × Batches w input out r w' out'
batches_some w input out =
    decided w (λ n. (ran_nothing 4, w, out, misfit_kept n idle)) (λ z u. (ran_nothing 1, w, out, unsound_kept z u idle))
    (λ b H.
    let e = batch_of on_bag input (length out) b in
    let T = rest input (length out) (length input) (start b) w (omega arith) H in
    (ran_of e, T.pool, sets out 0 e.progress.answers, held_kept H (record { ran = refl; holds = T.holds; output = refl })))
  where
    idle : {n : ℕ} → Idle n w out (ran_nothing n) w out
    idle = record { ran = refl; words = refl; output = refl }

pub one_by_one_batches : {w input out : List ℕ} {r : Ran} {w' out' : List ℕ} → OneByOne w input out r w' out' → Sound w
    → Batches w input out r w' out'
one_by_one_batches {w} {input} {out} P H =
    let B = batches_some w input out in
    let same = one_by_one_agree P (one_by_one B.3 H) in
    rw (same.0, same.1, same.2) B.3
