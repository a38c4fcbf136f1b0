-- Each promise can be kept: every call on a lawful bag leaves a lawful bag, and the words of one meet the promise.
use mathlib.Core.Path.{◌≡◌, refl, sym, subst}
use mathlib.Core.List.{List}
use Prim.Native.Nat.{ℕ}
use native.Mathlib.Decide.{dec_lt}
use native.Mathlib.Omega.{arith}
use lib.ListN.{length}
use Rattle.model.specs.Tree.{Bag}
use Rattle.model.specs.Insert.{needed}
use Rattle.model.specs.Calls.{Outcome, length_of, insert_call, push_call, replace_call, remove_call}
use Rattle.model.proofs.Calls.{insert_beyond, insert_full, insert-done, replace_beyond, replace-done, remove_beyond, remove-done}
use Rattle.model.proofs.Bags.{bag_insert_lem, bag_replace_lem, bag_remove_lem}
use Rattle.pool.specs.Layout.{words}
use Rattle.pool.specs.Sound.{Lawful, Holds, Sound, Sized}
use Rattle.pool.proofs.Read.{one_bag}
use Rattle.pool.proofs.Sized.{holds_sized}
use Rattle.calls.proofs.Bags.{lawful_edited}
use Rattle.admission.specs.Promise.{Promise, Edits, Tells}

-- ---- a call leaves a lawful bag

abbrev pub Lawfully : (Bag → Outcome) → Type 0
Lawfully call = (p : ℕ) (b : Bag) → Lawful p b → Lawful p (call b).bag

lawful : {p : ℕ} {o d : Outcome} → o ≡ d → Lawful p d.bag → Lawful p o.bag
lawful {p} e L = subst (λ (o : Outcome). Lawful p o.bag) (sym e) L

pub insert_lawful : (i x : ℕ) → Lawfully (insert_call i x)
insert_lawful i x p b L =
    elim (dec_lt (length_of b) i) [
      | yes l ↦ lawful (insert_beyond b i x l) L
      | no l ↦ elim (dec_lt (length b.free) (needed b.root i)) [
        | yes n ↦ lawful (insert_full b i x (omega arith) n) L
        | no n ↦ lawful (insert-done b i x (omega arith) (omega arith))
            (lawful_edited L (bag_insert_lem b i x L.fit (omega arith) (omega arith)).edited)
      ]
    ]

pub push_lawful : (x : ℕ) → Lawfully (push_call x)
unfolding push_call
push_lawful x p b L = insert_lawful (length_of b) x p b L

pub replace_lawful : (i x : ℕ) → Lawfully (replace_call i x)
replace_lawful i x p b L =
    elim (dec_lt i (length_of b)) [
      | yes l ↦ lawful (replace-done b i x l) (lawful_edited L (bag_replace_lem b i x L.fit l))
      | no l ↦ lawful (replace_beyond b i x (omega arith)) L
    ]

pub remove_lawful : (i : ℕ) → Lawfully (remove_call i)
remove_lawful i p b L =
    elim (dec_lt i (length_of b)) [
      | yes l ↦ lawful (remove-done b i l) (lawful_edited L (bag_remove_lem b i L.fit l).edited)
      | no l ↦ lawful (remove_beyond b i (omega arith)) L
    ]

-- the words of the bag that it leaves
pub left_words : (call : Bag → Outcome) → Lawfully call → {w : List ℕ} {b : Bag} → Holds w b → (w' : List ℕ) × Holds w' (call b).bag
left_words call K {w} {b} H =
    (words H.nodes (call b).bag, record { nodes = H.nodes; lawful = K H.nodes b H.lawful; layout = refl })

-- ---- what is promised in the one case that applies keeps the promise

module _ {w : List ℕ} {Four One : Type 0} {Held : Bag → Type 0} where
  pub misfit_kept : (Sized w → ⊥) → Four → Promise w Four One Held
  misfit_kept n x = record { misfit = λ _. x; unsound = λ s _. absurd (n s); holds = λ b H. absurd (n (holds_sized H)) }

  pub unsound_kept : Sized w → (Sound w → ⊥) → One → Promise w Four One Held
  unsound_kept s u x = record { misfit = λ n. absurd (n s); unsound = λ _ _. x; holds = λ b H. absurd (u (b, H)) }

  pub held_kept : {b : Bag} → Holds w b → Held b → Promise w Four One Held
  held_kept {b} H x = record {
    misfit = λ n. absurd (n (holds_sized H));
    unsound = λ s u. absurd (u (b, H));
    holds = λ d J. subst Held (one_bag H J) x;
  }

pub edits_held : (call : Bag → Outcome) {w w' : List ℕ} {b : Bag} → Holds w b → Holds w' (call b).bag → Edits call w (call b).answer w'
edits_held call H K = held_kept H (refl, K)

pub tells_held : {A : Type 0} (refuse : ℕ → A) (ask : Bag → A) {w : List ℕ} {b : Bag} → Holds w b → Tells refuse ask w (ask b)
tells_held refuse ask H = held_kept H refl
