-- A call on a pool that is known to hold a bag: what it asks, and what it does.
use Rattle.std.specs.Prelude.{◌≡◌, List, Result, Ok, Err, cond, ℕ, leb}
use Rattle.model.specs.declared.Answer.{Answer}
use Rattle.model.specs.Tree.{Bag}
use Rattle.model.specs.declared.Refusal.{Refusal}
use Rattle.model.specs.declared.Refusal.TheVariants.{PastTheEnd}
use Rattle.model.specs.Calls.{Outcome, length_of}
use Rattle.pool.specs.Sound.{Holds}
use Rattle.tree.specs.declared.Known.{Known}
use Rattle.tree.specs.Stands.{known_of}

pub record Ready (w : List ℕ) (known : Known) : Type 0 where
  pub bag : Bag
  pub holds : Holds w bag
  pub is : known ≡ known_of bag

-- a is what C is told of it, and k what is known of the bag that the call leaves
pub record Does (call : Bag → Outcome) (b : Bag) (a : Answer) (k : Known) (w' : List ℕ) : Type 0 where
  pub answer : a ≡ (call b).answer
  pub holds : Holds w' (call b).bag
  pub known : k ≡ known_of (call b).bag

-- the place of an element that the list has
abbrev pub place_of : ℕ → Bag → Result ℕ Refusal
place_of i b = cond (leb (length_of b) i) (Err PastTheEnd) (Ok i)
