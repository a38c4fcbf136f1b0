-- The one promise that every door call makes, for every list of words, and what it says of each kind of call.
use Rattle.std.specs.Prelude.{◌≡◌, List, Result, Ok, Err, ℕ, ◌+◌, ◌*◌, length}
use Rattle.model.specs.declared.Answer.{Answer}
use Rattle.model.specs.declared.Refusal.{Refusal}
use Rattle.model.specs.declared.Refusal.TheVariants.{Misfit, Unsound}
use Rattle.model.specs.Tree.{Bag, empty}
use Rattle.model.specs.Calls.{refused, gives, Outcome, equal_call}
use Rattle.words.specs.Words.{run}
use Rattle.pool.specs.Layout.{words}
use Rattle.pool.specs.Sound.{Holds, Sound, Sized, nodes_in}
use Rattle.tree.specs.declared.Known.{Known}
use Rattle.tree.specs.Stands.{known_of}
use Rattle.views.specs.declared.Span.{Span}
use Rattle.views.specs.Part.{nowhere, part_call}

-- what holds of the result if the length does not fit (4), if the pool is not sound (1), and if it holds the bag b
pub record Promise (w : List ℕ) (Four One : Type 0) (Held : Bag → Type 0) : Type 0 where
  pub misfit : (Sized w → ⊥) → Four
  pub unsound : Sized w → (Sound w → ⊥) → One
  pub holds : (b : Bag) → Holds w b → Held b

-- a call that edits: refused it changes no word, else the pool holds the bag that the call leaves
abbrev pub Edits : (Bag → Outcome) → List ℕ → Answer → List ℕ → Type 0
Edits call w r w' =
    Promise w ((r ≡ refused 4) × (w' ≡ w)) ((r ≡ refused 1) × (w' ≡ w)) (λ b. (r ≡ (call b).answer) × Holds w' (call b).bag)

-- a call that reads, over the type of its answer
abbrev pub Tells : {A : Type 0} → (ℕ → A) → (Bag → A) → List ℕ → A → Type 0
Tells refuse ask w r = Promise w (r ≡ refuse 4) (r ≡ refuse 1) (λ b. r ≡ ask b)

-- a pool that is admitted gives what is known of its bag
abbrev pub Admits : List ℕ → Result Known Refusal → Type 0
Admits w r = Promise w (r ≡ Err Misfit) (r ≡ Err Unsound) (λ b. r ≡ Ok (known_of b))

-- equality: the first pool is tried, then the second
abbrev pub Compares : List ℕ → List ℕ → Answer → Type 0
Compares v w r = Promise v (r ≡ refused 4) (r ≡ refused 1) (λ a. Tells refused (equal_call a) w r)

-- formatting asks only that the length fits
pub record Formats (w : List ℕ) (r : Answer) (w' : List ℕ) : Type 0 where
  pub misfit : (Sized w → ⊥) → (r ≡ refused 4) × (w' ≡ w)
  pub fits : Sized w → (r ≡ gives 0) × (w' ≡ words (nodes_in (length w)) (empty (nodes_in (length w))))

-- the window: the words of the pool that `part` tells, and where in memory they begin, 8 bytes a word
abbrev pub Windows : ℕ → List ℕ → ℕ × ℕ → List ℕ → ℕ × ℕ → Type 0
Windows i w ptr r at =
    (s : Span) → Tells (λ _. nowhere) (part_call i) w s → (r ≡ run w s.start s.count) × (at ≡ (ptr.0, s.start * 8 + ptr.1))
