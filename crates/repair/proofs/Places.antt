-- Where a child is after a repair: in which node, and behind how many elements.
use mathlib.Core.Path.{◌≡◌, refl, sym, ap, subst, ◌∙◌}
use mathlib.Core.List.{List, ◌∷◌, ◌++◌}
use Prim.Native.Nat.{ℕ, suc, ◌+◌, ◌-◌, ◌^◌, ◌≤◌, ◌<◌}
use native.Mathlib.Omega.{arith}
use lib.ListN.{length, take, drop, get_or, length-append}
use lib.Seq.{length-take-le, take_at, get_or-append-add}
use Rattle.lists.specs.Lists.{sum}
use Rattle.model.specs.Tree.{Tree, kid, none, size, before}
use Rattle.model.specs.Fit.{Child, Fit}
use Rattle.model.specs.Remove.{joined, gave_last, took_front, gave_first, took_back, merge, borrow_left, borrow_right, repaired}
use Rattle.model.specs.declared.Repair.TheVariants.{FromLeft, WithLeft}
use Rattle.model.proofs.Nodes.{kid-size}
use Rattle.model.proofs.Find.{before_next}
use Rattle.model.proofs.Pairs.{recast_size, lend_right, gave_last_less}
use Rattle.pool.specs.Parts.{Inside, Stored, length_at, kid_at}
use Rattle.pool.specs.Layout.{root_block}
use Rattle.pool.proofs.Node.{at_length}
use Rattle.tree.specs.Stands.{Reshaped}
use Rattle.repair.specs.Ready.{PairReady, Few, LeftLends, Fills}
use Rattle.repair.proofs.Pairing.{pair_is, pair_length}

-- ---- in the tree

-- the children from c on gave way to ks
module _ (h : ℕ) (t s : Tree (suc h)) (c : ℕ) (ks : List (Tree h)) (l : c < length t.kids) (e : s.kids ≡ take c t.kids ++ ks) where
  front : length (take c t.kids) ≡ c
  front = length-take-le c t.kids (omega arith)

  before_kept : before h s c ≡ before h t c
  unfolding before
  before_kept = rw (e, take_at (take c t.kids) ks c front) refl

  new_kid : (j n : ℕ) → n ≡ c + j → kid h s n ≡ get_or ks j (none h)
  new_kid j n q =
      let at : n ≡ length (take c t.kids) + j = omega (arith, front) in
      rw (e, at, get_or-append-add (take c t.kids) ks j (none h)) refl

-- child c is in its own node still, and as many elements are before it
pub record Stays (h : ℕ) (t s : Tree (suc h)) (c : ℕ) : Type 0 where
  pub id : (kid h s c).id ≡ (kid h t c).id
  pub start : before h s c ≡ before h t c

-- child c is in its own node still, and ends where it ended, having more elements
record Borrows (h : ℕ) (t s : Tree (suc h)) (c : ℕ) : Type 0 where
  id : (kid h s c).id ≡ (kid h t c).id
  place : c < length s.kids
  more : size h (kid h t c) ≤ size h (kid h s c)
  end : before h t c + size h (kid h t c) ≡ before h s c + size h (kid h s c)

module _ (h : ℕ) (t : Tree (suc h)) (c : ℕ) (l : c < length t.kids) where
  abbrev a : Tree h
  a = kid h t c

  abbrev e : ℕ
  e = get_or t.elems c 0

  abbrev b : Tree h
  b = kid h t (c + 1)

  abbrev behind : List (Tree h)
  behind = drop (c + 2) t.kids

  -- child c takes from behind itself, and becomes x
  stays : (s : Tree (suc h)) (x : Tree h) (xs : List (Tree h)) → s.kids ≡ take c t.kids ++ (x ∷ xs) → x.id ≡ a.id → Stays h t s c
  stays s x xs q i = record {
    id = ap (λ (k : Tree h). k.id) (new_kid h t s c (x ∷ xs) l q 0 c (omega arith)) ∙ i;
    start = before_kept h t s c (x ∷ xs) l q;
  }

  pub merge-stays : Stays h t (merge h t c) c
  unfolding merge
  merge-stays = stays (merge h t c) (joined a e b) behind refl refl

  pub borrow_stays : Stays h t (borrow_right h t c) c
  unfolding borrow_right
  borrow_stays = stays (borrow_right h t c) (took_back a e b) (gave_first b ∷ behind) refl refl

  -- child c + 1 borrows from child c
  module _ (A : Child h (Fit h) a) (B : Child h (Fit h) b) (m : LeftLends (length a.elems) (length b.elems)) where
    abbrev s : Tree (suc h)
    s = borrow_left h t c

    abbrev new : List (Tree h)
    new = gave_last a ∷ (took_front a e b ∷ behind)

    sizes : size h (gave_last a) + 1 + size h (took_front a e b) ≡ size h a + 1 + size h b
    unfolding sum
    sizes = omega (arith, recast_size h a e b A B (lend_right h a e b A B m.0 m.1))

    more : size h b ≤ size h (took_front a e b)
    more = omega (arith, sizes, gave_last_less h a e b A B)

    borrows : Borrows h t s (c + 1)
    unfolding borrow_left
    borrows =
        let lender : kid h s c ≡ gave_last a = new_kid h t s c new l refl 0 c (omega arith) in
        let borrower : kid h s (c + 1) ≡ took_front a e b = new_kid h t s c new l refl 1 (c + 1) refl in
        let place : c + 1 < length s.kids = omega (arith, length-append (take c t.kids) new, front h t s c new l refl) in
        record {
          id = ap (λ (k : Tree h). k.id) borrower;
          place = place;
          more = rw borrower more;
          end = omega (
            arith,
            before_next h t c l,
            before_next h s c (omega arith),
            before_kept h t s c new l refl,
            ap (size h) lender,
            ap (size h) borrower,
            sizes,
          );
        }

-- ---- in the pool, child c having a left neighbour

pub one_less : (c : ℕ) → 0 < c → c - 1 + 1 ≡ c
one_less c l = omega arith

-- they are merged; the neighbour is in node k, and had n elements
module _ {w : List ℕ} {id c : ℕ} (l : 0 < c) (s : PairReady Few w id (c - 1)) (k : ℕ) (ek : k ≡ kid_at w id (c - 1)) (n : ℕ) (en : n ≡ length_at w k) where
  abbrev h : ℕ
  h = s.height

  abbrev t : Tree (suc h)
  t = s.tree

  place : c - 1 < length t.kids
  place = omega (arith, s.place, s.owns.fit.one_more)

  had : n ≡ size h (kid h t (c - 1))
  had = pair_length s (c - 1) (omega arith) k ek n en

  pub with_left_fits : n + 1 < 2 ^ 64
  with_left_fits = omega (arith, had, kid-size h t (c - 1) place, s.owns.small)

  pub with_left_filled : (w' : List ℕ) → ((q : PairReady Few w id (c - 1)) → Reshaped w w' (suc q.height) q.tree q.free
      (merge q.height q.tree (c - 1)) ((kid q.height q.tree (c - 1 + 1)).id ∷ q.free))
      → Fills w w' h t s.free c (repaired h WithLeft t c s.free) (record { id = k; ahead = n + 1; freed = 1 })
  unfolding repaired
  with_left_filled w' done =
      let S = merge-stays h t (c - 1) place in
      record {
        id = sym (S.id ∙ pair_is s (c - 1) (omega arith) k ek);
        ahead = omega (arith, rw (one_less c l) at (before_next h t (c - 1) place), S.start, had);
        freed = omega arith;
        reshaped = subst (λ (d : ℕ). Reshaped w w' (suc h) t s.free (merge h t (c - 1)) ((kid h t d).id ∷ s.free)) (one_less c l) (done s);
      }

-- the neighbour lends; child c is in node k, had n elements, and has m then
module _ {w : List ℕ} {id c : ℕ} (l : 0 < c) (s : PairReady LeftLends w id (c - 1)) (k : ℕ) (ek : k ≡ kid_at w id c) (n : ℕ) (en : n ≡ length_at w k)
    (w' : List ℕ) (done : (q : PairReady LeftLends w id (c - 1)) → Reshaped w w' (suc q.height) q.tree q.free
    (borrow_left q.height q.tree (c - 1)) q.free) where
  abbrev h₁ : ℕ
  h₁ = s.height

  abbrev t₁ : Tree (suc h₁)
  t₁ = s.tree

  abbrev s₁ : Tree (suc h₁)
  s₁ = borrow_left h₁ t₁ (c - 1)

  B : Borrows h₁ t₁ s₁ c
  B =
      let F = s.owns.fit in
      let m : c - 1 + 1 < length t₁.kids = omega (arith, s.place, F.one_more) in
      subst (Borrows h₁ t₁ s₁) (one_less c l)
      (borrows h₁ t₁ (c - 1) (omega arith) (F.each (c - 1) (omega arith)) (F.each (c - 1 + 1) m) s.counts)

  is₁ : (kid h₁ s₁ c).id ≡ k
  is₁ = B.id ∙ pair_is s c (omega arith) k ek

  here₁ : Stored w' (kid h₁ s₁ c).id (root_block h₁ (kid h₁ s₁ c))
  here₁ = ((done s).at.each c B.place).here

  pub lent_inside : Inside w' k
  lent_inside = rw (← is₁) here₁.inside

  module _ (m : ℕ) (em : m ≡ length_at w' k) where
    had₁ : n ≡ size h₁ (kid h₁ t₁ c)
    had₁ = pair_length s c (omega arith) k ek n en

    has₁ : m ≡ size h₁ (kid h₁ s₁ c)
    has₁ = rw (em, ← is₁) (at_length w' h₁ (kid h₁ s₁ c) here₁)

    pub lent_more : n ≤ m
    lent_more = omega (arith, had₁, has₁, B.more)

    pub from_left_filled : Fills w w' h₁ t₁ s.free c (repaired h₁ FromLeft t₁ c s.free) (record { id = k; ahead = m - n; freed = 0 })
    unfolding repaired
    from_left_filled = record {
      id = sym is₁;
      ahead = omega (arith, had₁, has₁, B.more, B.end);
      freed = omega arith;
      reshaped = done s;
    }
