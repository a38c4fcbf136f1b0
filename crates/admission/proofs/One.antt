-- Each promise admits one result, and one final value of each lent slice; and what is to be told can be.
use mathlib.Core.Path.{◌≡◌, refl, sym, ◌∙◌}
use mathlib.Core.List.{List}
use mathlib.Core.Logic.{◌⊎◌, inl, inr}
use Prim.Native.Nat.{ℕ}
use Rattle.model.specs.declared.Answer.{Answer}
use Rattle.model.specs.Tree.{Bag}
use Rattle.model.specs.Calls.{Outcome, refused, equal_call}
use Rattle.pool.specs.Sound.{Holds, Sound, Sized}
use Rattle.pool.proofs.Read.{one_pool}
use Rattle.pool.proofs.Sized.{holds_sized}
use Rattle.pool.proofs.Decide.{sized?, sound?}
use Rattle.views.specs.Part.{nowhere, part_call}
use Rattle.admission.proofs.Kept.{Lawfully, left_words, misfit_kept, unsound_kept, edits_held, tells_held}
use Rattle.admission.specs.Promise.{Edits, Tells, Compares, Formats, Windows}

-- every list of words is of one of the three kinds
pub decided : {X : Type 0} (w : List ℕ) → ((Sized w → ⊥) → X) → (Sized w → (Sound w → ⊥) → X) → ((b : Bag) → Holds w b → X) → X
decided {X} w f g h = go (sized? w) (sound? w)
  where
    go : Sized w ⊎ (Sized w → ⊥) → Sound w ⊎ (Sound w → ⊥) → X
    go (inr n) d = f n
    go (inl s) (inr u) = g s u
    go (inl s) (inl H) = h H.0 H.1

pub edits_one : {call : Bag → Outcome} {w w' w'' : List ℕ} {r s : Answer} → Edits call w r w' → Edits call w s w''
    → (r ≡ s) × (w' ≡ w'')
edits_one {w = w} P Q =
    decided w
    (λ n. ((P.misfit n).0 ∙ sym (Q.misfit n).0, (P.misfit n).1 ∙ sym (Q.misfit n).1))
    (λ z u. ((P.unsound z u).0 ∙ sym (Q.unsound z u).0, (P.unsound z u).1 ∙ sym (Q.unsound z u).1))
    (λ b H. ((P.holds b H).0 ∙ sym (Q.holds b H).0, one_pool (P.holds b H).1 (Q.holds b H).1))

pub tells_one : {A : Type 0} (refuse : ℕ → A) (ask : Bag → A) {w : List ℕ} {r s : A} → Tells refuse ask w r → Tells refuse ask w s → r ≡ s
tells_one refuse ask {w} P Q =
    decided w (λ n. P.misfit n ∙ sym (Q.misfit n)) (λ z u. P.unsound z u ∙ sym (Q.unsound z u)) (λ b H. P.holds b H ∙ sym (Q.holds b H))

-- some answer keeps the promise
pub tells_some : {A : Type 0} (refuse : ℕ → A) (ask : Bag → A) (w : List ℕ) → (r : A) × Tells refuse ask w r
tells_some refuse ask w =
    decided w
    (λ n. (refuse 4, misfit_kept n refl))
    (λ z u. (refuse 1, unsound_kept z u refl))
    (λ b H. (ask b, tells_held refuse ask H))

-- an edit too, by the words of the bag that the call leaves
pub edits_some : (call : Bag → Outcome) → Lawfully call → (w : List ℕ) → (r : Answer) × (w' : List ℕ) × Edits call w r w'
edits_some call K w =
    decided w
    (λ n. (refused 4, w, misfit_kept n (refl, refl)))
    (λ z u. (refused 1, w, unsound_kept z u (refl, refl)))
    (λ b H. ((call b).answer, (left_words call K H).0, edits_held call H (left_words call K H).1))

pub compares_one : {v w : List ℕ} {r s : Answer} → Compares v w r → Compares v w s → r ≡ s
compares_one {v} P Q =
    decided v (λ n. P.misfit n ∙ sym (Q.misfit n)) (λ z u. P.unsound z u ∙ sym (Q.unsound z u))
    (λ b H. tells_one refused (equal_call b) (P.holds b H) (Q.holds b H))

pub formats_one : {w w' w'' : List ℕ} {r s : Answer} → Formats w r w' → Formats w s w'' → (r ≡ s) × (w' ≡ w'')
formats_one {w} P Q =
    decided w
    (λ n. ((P.misfit n).0 ∙ sym (Q.misfit n).0, (P.misfit n).1 ∙ sym (Q.misfit n).1))
    (λ z u. ((P.fits z).0 ∙ sym (Q.fits z).0, (P.fits z).1 ∙ sym (Q.fits z).1))
    (λ b H. ((P.fits (holds_sized H)).0 ∙ sym (Q.fits (holds_sized H)).0, (P.fits (holds_sized H)).1 ∙ sym (Q.fits (holds_sized H)).1))

pub window_one : (i : ℕ) (w : List ℕ) (ptr : ℕ × ℕ) {at to : ℕ × ℕ} {r s : List ℕ} → Windows i w ptr r at → Windows i w ptr s to
    → (r ≡ s) × (at ≡ to)
window_one i w ptr P Q =
    let t = tells_some (λ _. nowhere) (part_call i) w in
    ((P t.0 t.1).0 ∙ sym (Q t.0 t.1).0, (P t.0 t.1).1 ∙ sym (Q t.0 t.1).1)
