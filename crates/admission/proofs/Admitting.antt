-- From a pool that was admitted to the promise of a call.
use mathlib.Core.Path.{◌≡◌, refl, subst}
use mathlib.Core.List.{List}
use Prim.Native.Nat.{ℕ, ◌<◌}
use native.Mathlib.Omega.{arith}
use lib.ListN.{length, get_or}
use Rattle.std.specs.Prelude.{Result, Ok, Err}
use Rattle.model.specs.declared.Answer.{Answer}
use Rattle.model.specs.declared.Refusal.{Refusal}
use Rattle.model.specs.declared.Refusal.TheVariants.{Unsound, Misfit}
use Rattle.model.specs.Tree.{Bag}
use Rattle.model.specs.Calls.{refusal, number_of, Outcome}
use Rattle.pool.specs.Layout.{root_word}
use Rattle.pool.specs.Sound.{Holds}
use Rattle.pool.proofs.Whole.{holds_parts}
use Rattle.tree.specs.declared.Known.{Known}
use Rattle.calls.specs.Does.{Ready, Does}
use Rattle.sound.specs.declared.Checked.{Checked}
use Rattle.sound.specs.Check.{Checks}
use Rattle.admission.specs.Promise.{Promise, Edits, Tells, Admits}
use Rattle.admission.proofs.One.{decided}

-- an answer is no refusal, and a refusal is one only
given : {A : Type 0} {x : A} {why : Refusal} → Ok x ≡ Err why → ⊥
given e = cc

same : {A : Type 0} {why other : Refusal} → ◌≡◌ {A = Result A Refusal} (Err why) (Err other) → why ≡ other
same e = cc

-- ---- by what the check says

module _ {w : List ℕ} {c : Checked} (C : Checks w (Ok c)) where
  -- a sound pool has its root word
  pub admits_long : root_word < length w
  admits_long =
      decided w (λ n. absurd (given (C.misfit n))) (λ s u. absurd (given (C.unsound s u)))
      (λ b H. omega (arith, (holds_parts H).sized))

  pub admits_known : (k : Known) → k ≡ record { root = get_or w root_word 0; levels = c.levels; free = c.free } → Admits w (Ok k)
  admits_known k e = record {
    misfit = λ n. absurd (given (C.misfit n));
    unsound = λ s u. absurd (given (C.unsound s u));
    holds = λ b H. let s = C.sound b H in let t = (holds_parts H).top in cc;
  }

-- a refusal of the check is one of `admit`
pub admits_refused : {w : List ℕ} {why : Refusal} → Checks w (Err why) → Admits w (Err why)
admits_refused C = record {
  misfit = λ n. let e = C.misfit n in cc;
  unsound = λ s u. let e = C.unsound s u in cc;
  holds = λ b H. let e = C.sound b H in cc;
}

-- ---- what a call makes of it

-- refused with 4 or 1
module _ {w : List ℕ} {why : Refusal} (O : Admits w (Err why)) where
  pub refused_promise : (P : Refusal → Type 0) {Held : Bag → Type 0} → P why → Promise w (P Misfit) (P Unsound) Held
  refused_promise P p = record {
    misfit = λ n. subst P (same (O.misfit n)) p;
    unsound = λ s u. subst P (same (O.unsound s u)) p;
    holds = λ b H. let e = O.holds b H in cc;
  }

  pub refused_edits : {call : Bag → Outcome} → Edits call w (refusal why) w
  refused_edits = refused_promise (λ r. (refusal why ≡ refusal r) × (w ≡ w)) (refl, refl)

  pub refused_tells : {A : Type 0} (refuse : ℕ → A) {ask : Bag → A} → Tells refuse ask w (refuse (number_of why))
  refused_tells refuse = refused_promise (λ r. refuse (number_of why) ≡ refuse (number_of r)) refl

-- the pool holds a bag, of which this is known
module _ {w : List ℕ} {k : Known} (O : Admits w (Ok k)) where
  ready : (b : Bag) → Holds w b → Ready w k
  ready b H = record { bag = b; holds = H; is = let e = O.holds b H in cc }

  pub held_promise : {Four One : Type 0} {Held : Bag → Type 0} → ((s : Ready w k) → Held s.bag) → Promise w Four One Held
  unfolding ready
  held_promise f = record {
    misfit = λ n. absurd (given (O.misfit n));
    unsound = λ s u. absurd (given (O.unsound s u));
    holds = λ b H. f (ready b H);
  }

  pub held_edits : {call : Bag → Outcome} {a : Answer} {d : Known} {w' : List ℕ} → ((s : Ready w k) → Does call s.bag a d w')
      → Edits call w a w'
  held_edits f = held_promise (λ s. ((f s).answer, (f s).holds))

  pub some_ready : Ready w k
  some_ready = decided w (λ n. absurd (given (O.misfit n))) (λ s u. absurd (given (O.unsound s u))) ready
