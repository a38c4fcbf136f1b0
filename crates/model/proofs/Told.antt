-- What C is told of an outcome tells the outcome; and what the exit of a `?` returns.
use Rattle.std.proofs.Common.{◌≡◌, refl, sym, ap, ◌∙◌, ℕ, zero, suc, ◌≤◌, arith}
use Rattle.std.specs.Prelude.{Result, Ok, Err, Bool, true, false}
use Rattle.std.specs.Result.{IsErrAnd}
use Rattle.std.proofs.lemmas.Result.{err_from_is_err_and}
use Rattle.model.specs.declared.Answer.{Answer}
use Rattle.model.specs.declared.Refusal.{Refusal}
use Rattle.model.specs.declared.Refusal.TheVariants.{Unsound, PastTheEnd, NoRoom, Misfit}
use Rattle.model.specs.declared.Found.{Found}
use Rattle.model.specs.Calls.{number_of, done, gives, found, whether, told}

pub let_go : {A E : Type 0} {r : Result A E} {why : E} → IsErrAnd r (λ e. e ≡ why) → r ≡ Err why
let_go {r = r} e =
    let p = err_from_is_err_and r e in
    p.1 ∙ ap Err p.2

numbered : (why : Refusal) → 1 ≤ number_of why
numbered Unsound = omega arith
numbered PastTheEnd = omega arith
numbered NoRoom = omega arith
numbered Misfit = omega arith

-- the refusal of a number
named : ℕ → Refusal
named (suc zero) = Unsound
named (suc (suc zero)) = PastTheEnd
named (suc (suc (suc zero))) = NoRoom
named _ = Misfit

named_number : (why : Refusal) → named (number_of why) ≡ why
unfolding named
named_number Unsound = refl
named_number PastTheEnd = refl
named_number NoRoom = refl
named_number Misfit = refl

module _ {A : Type 0} (give : A → Answer) (clear : (x : A) → (give x).number ≡ 0) (one : (x y : A) → give x ≡ give y → x ≡ y) where
  pub told_one : (r s : Result A Refusal) → told give r ≡ told give s → r ≡ s
  told_one (Ok x) (Ok y) e = ap Ok (one x y e)
  told_one (Ok x) (Err w) e = absurd (omega (arith, ap (λ (a : Answer). a.number) e, clear x, numbered w))
  told_one (Err v) (Ok y) e = absurd (omega (arith, ap (λ (a : Answer). a.number) e, clear y, numbered v))
  told_one (Err v) (Err w) e =
      ap Err (sym (named_number v) ∙ ap named (ap (λ (a : Answer). a.number) e) ∙ named_number w)

-- ---- what the door gives

pub done_one : (r s : Result (Unit {0}) Refusal) → told done r ≡ told done s → r ≡ s
done_one = told_one done (λ x. refl) (λ x y e. refl)

pub gives_one : (r s : Result ℕ Refusal) → told gives r ≡ told gives s → r ≡ s
gives_one = told_one gives (λ x. refl) (λ x y e. ap (λ (a : Answer). a.value) e)

pub found_one : (r s : Result Found Refusal) → told found r ≡ told found s → r ≡ s
found_one =
    told_one found (λ x. refl)
    (λ x y e. λ i. record { element = ap (λ (a : Answer). a.value) e i; compared = ap (λ (a : Answer). a.compared) e i })

pub whether_one : (r s : Result Bool Refusal) → told whether r ≡ told whether s → r ≡ s
whether_one = told_one whether (λ x. refl) one
  where
    one : (x y : Bool) → whether x ≡ whether y → x ≡ y
    one true true e = refl
    one true false e = absurd (omega (arith, ap (λ (a : Answer). a.value) e))
    one false true e = absurd (omega (arith, ap (λ (a : Answer). a.value) e))
    one false false e = refl
