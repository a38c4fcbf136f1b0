-- The demands for a batch, in their own words.
use mathlib.Core.Path.{◌≡◌, refl}
use mathlib.Core.List.{List, [], ◌∷◌}
use mathlib.Core.Logic.{inl, inr}
use mathlib.Core.Bool.{Bool, true, false, cond}
use Prim.Native.Nat.{ℕ, ◌-◌, ◌≤◌}
use native.Mathlib.Omega.{arith}
use borrow.Author.Tests.{eqb-false}
use lib.Dec.{eqb}
use lib.ListN.{length, get_or}
use lib.Seq.{sets, length-sets}
use Rattle.lists.proofs.OneOf.{OneOf}
use Rattle.words.proofs.Laws.{sets_outside}
use Rattle.model.specs.declared.Answer.{Answer}
use Rattle.model.specs.Tree.{Bag}
use Rattle.model.proofs.Calls.{insert_numbers, push_numbers, replace_numbers, remove_numbers, get_numbers, len_numbers}
use Rattle.pool.specs.Sound.{Holds, Sized, Sound}
use Rattle.admission.proofs.One.{decided}
use Rattle.records.specs.declared.Command.{Command}
use Rattle.records.specs.declared.Command.TheVariants.{Insert, Remove, Push, Get, Replace, Len}
use Rattle.records.specs.declared.Record.TheVariants.{Refusal}
use Rattle.commands.specs.declared.Ran.{Ran}
use Rattle.commands.specs.OnBag.{perform, given, reply_to}
use Rattle.commands.proofs.Turns.{Stopped, ended, unknown, cut, full, stopped}
use Rattle.batch.specs.Batch.{Batches}
use Rattle.batch.specs.Singly.{Called}
use Rattle.batch.proofs.Singly.{called_held, left_by, called_one, one_by_one}

module _ {w : List ℕ} (input : List ℕ) {out : List ℕ} {r : Ran} {w' out' : List ℕ} (B : Batches w input out r w' out') where
  -- ---- demand 1: a pool that is refused, and its output, are left as they were

  pub batch_misfit : (Sized w → ⊥) → (r ≡ record { number = 4; commands = 0; read = 0; written = 0 }) × (w' ≡ w) × (out' ≡ out)
  batch_misfit n = ((B.misfit n).ran, (B.misfit n).words, (B.misfit n).output)

  pub batch_unsound : Sized w → (Sound w → ⊥) → (r ≡ record { number = 1; commands = 0; read = 0; written = 0 }) × (w' ≡ w) × (out' ≡ out)
  batch_unsound z u = ((B.unsound z u).ran, (B.unsound z u).words, (B.unsound z u).output)

  -- bytes of the output behind those that were written are never touched
  pub output_kept : (length out' ≡ length out) × ((k : ℕ) → r.written ≤ k → get_or out' k 0 ≡ get_or out k 0)
  output_kept =
      decided w (λ n. kept [] (B.misfit n).output (cc (B.misfit n).ran)) (λ z u. kept [] (B.unsound z u).output (cc (B.unsound z u).ran))
      (λ b H.
      let O = one_by_one B (b, H) in
      kept O.bytes O.output O.written)
    where
      kept : (bytes : List ℕ) → out' ≡ sets out 0 bytes → r.written ≡ length bytes
          → (length out' ≡ length out) × ((k : ℕ) → r.written ≤ k → get_or out' k 0 ≡ get_or out k 0)
      kept bytes e f = rw e (length-sets out 0 bytes, λ k l. sets_outside out 0 bytes k 0 (inr (omega arith)))

  -- why it stopped where it did, and the numbers that it can stop with
  pub batch_stopped : Sound w → Stopped input r.read (length out - r.written) r.number
  batch_stopped S =
      let O = one_by_one B S in
      rw O.number (stopped input r.read (length out - r.written) O.stop)

  pub batch_numbers : OneOf (4 ∷ 1 ∷ 0 ∷ 5 ∷ 6 ∷ 7 ∷ []) r.number
  batch_numbers =
      decided w (λ n. inl (cc (B.misfit n).ran)) (λ z u. inr (inl (cc (B.unsound z u).ran)))
      (λ b H. inr (inr (one_of (batch_stopped (b, H)))))
    where
      one_of : {k : ℕ} → Stopped input r.read (length out - r.written) k → OneOf (0 ∷ 5 ∷ 6 ∷ 7 ∷ []) k
      one_of (ended l) = inl refl
      one_of (unknown l m) = inr (inl refl)
      one_of (cut n l m e k) = inr (inr (inl refl))
      one_of (full c n e l) = inr (inr (inr (inl refl)))

  -- ---- demand 3: a sound pool stays sound

  pub batch_sound : Sound w → Sound w'
  batch_sound (b, H) = (_, (B.holds b H).holds)

-- ---- the numbers of its answers, on a sound pool

not_three : {n : ℕ} → OneOf (2 ∷ 0 ∷ []) n → OneOf (2 ∷ 3 ∷ 0 ∷ []) n
not_three (inl e) = inl e
not_three (inr o) = inr (inr o)

perform_numbers : (c : Command) (b : Bag) → OneOf (2 ∷ 3 ∷ 0 ∷ []) (perform c b).answer.number
perform_numbers (Insert i x) b = insert_numbers i x b
perform_numbers (Remove i) b = not_three (remove_numbers i b)
perform_numbers (Push x) b = inr (push_numbers x b)
perform_numbers (Get i) b = not_three (get_numbers i b)
perform_numbers (Replace i x) b = not_three (replace_numbers i x b)
perform_numbers Len b = inr (inr (len_numbers b))

given_accepts : (c : Command) (a : Answer) (n : ℕ) → given c a ≡ Refusal n → ◌≡◌ {A = ℕ} 0 1
given_accepts (Insert i x) a n e = cc
given_accepts (Remove i) a n e = cc
given_accepts (Push x) a n e = cc
given_accepts (Get i) a n e = cc
given_accepts (Replace i x) a n e = cc
given_accepts Len a n e = cc

-- record 84 carries 2 or 3
pub refusal_numbers : (c : Command) (w : List ℕ) (a : Answer) (v : List ℕ) → Called c w a v → Sound w → (n : ℕ) → reply_to c a ≡ Refusal n
    → OneOf (2 ∷ 3 ∷ []) n
unfolding reply_to
refusal_numbers c w a v C (b, H) n e = go (eqb a.number 0) refl e (rw same.0 (perform_numbers c b))
  where
    left : (u : List ℕ) × Holds u (perform c b).bag
    left = left_by c H

    same : (a ≡ (perform c b).answer) × (v ≡ left.0)
    same = called_one c w a _ v left.0 C (called_held c H left.1)

    go : (t : Bool) → eqb a.number 0 ≡ t → cond t (given c a) (Refusal a.number) ≡ Refusal n → OneOf (2 ∷ 3 ∷ 0 ∷ []) a.number
        → OneOf (2 ∷ 3 ∷ []) n
    go true q e o = absurd (omega (arith, given_accepts c a n e))
    go false q e (inl z) = inl (cc)
    go false q e (inr (inl z)) = inr (inl (cc))
    go false q e (inr (inr (inl z))) = absurd (eqb-false a.number 0 q z)
    go false q e (inr (inr (inr z))) = elim z [ ]
