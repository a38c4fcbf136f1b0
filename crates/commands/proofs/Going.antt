-- The batch's loop: where the code is, and where the definition is then.
use mathlib.Core.Path.{◌≡◌, refl, sym, ap, subst, ◌∙◌}
use mathlib.Core.List.{List, [], ◌++◌}
use Prim.Native.Nat.{ℕ, ◌+◌, ◌-◌, ◌≤◌}
use native.Mathlib.Nat.{zero-add}
use native.Mathlib.Omega.{arith}
use lib.ListN.{length, length-append}
use Rattle.std.specs.Prelude.{Ok, Err}
use lib.Seq.{sets, length-sets}
use Rattle.words.proofs.Laws.{sets-append}
use Rattle.model.specs.Tree.{Bag}
use Rattle.pool.specs.Sound.{Holds}
use Rattle.tree.specs.declared.Known.{Known}
use Rattle.tree.specs.Stands.{known_of}
use Rattle.calls.specs.Does.{Ready}
use Rattle.records.specs.declared.Record.{Record}
use Rattle.records.specs.Answers.{record_bytes}
use Rattle.records.proofs.Laws.{record_length}
use Rattle.commands.specs.declared.Turn.{Turn}
use Rattle.commands.specs.declared.Stop.{Stop}
use Rattle.commands.specs.Steps.{stop_number, turn_at, batch_from, batch_of}
use Rattle.commands.specs.OnBag.{on_bag, Runs}
use Rattle.commands.specs.Serving.{Serves}
use Rattle.commands.proofs.Turns.{Runnable, runnable, batch_stops, batch_goes}

-- a batch from bag b that has come so far: the bag that the pool w holds, the answers in the output o, and the turns left
pub record Going (b : Bag) (input out w o : List ℕ) (k : Known) (commands read written : ℕ) : Type 0 where
  pub bag : Bag
  pub answers : List ℕ
  pub left : ℕ
  pub holds : Holds w bag
  pub known : k ≡ known_of bag
  pub output : o ≡ sets out 0 answers
  pub place : written ≡ length answers
  pub fits : written ≤ length out
  pub few : commands ≤ read
  pub inside : read ≤ length input
  pub enough : length input ≤ read + left
  pub same : batch_from on_bag input (length out) left (record { state = bag; commands = commands; read = read; answers = answers })
      ≡ batch_of on_bag input (length out) b

pub begins : {w : List ℕ} {k : Known} (s : Ready w k) (input out : List ℕ) → Going s.bag input out w out k 0 0 0
begins s input out = record {
  bag = s.bag;
  answers = [];
  left = length input;
  holds = s.holds;
  known = s.is;
  output = refl;
  place = refl;
  fits = omega arith;
  few = omega arith;
  inside = omega arith;
  enough = omega arith;
  same = refl;
}

module _ {b : Bag} {input out w o : List ℕ} {k : Known} {commands read written : ℕ} (G : Going b input out w o k commands read written) where
  abbrev pub now_ready : Ready w k
  now_ready = record { bag = G.bag; holds = G.holds; is = G.known }

  pub same_room : length o ≡ length out
  same_room = rw (G.output, length-sets out 0 G.answers)

  room : length o - written ≡ length out - length G.answers
  room = rw (same_room, G.place)

  -- it stops
  pub stops : (z : Stop) → turn_at input read (length o - written) ≡ Err z
      → Runs (batch_of on_bag input (length out) b) out (record { number = stop_number z; commands = commands; read = read; written = written }) w o
  stops z e =
      let f = sym G.same ∙ batch_stops on_bag input (length out) _ G.left G.enough z (rw room at e) in
      rw f (record {
        ran = ap (λ (m : ℕ). record { number = stop_number z; commands = commands; read = read; written = m }) G.place;
        holds = G.holds;
        output = G.output;
      })

  -- or goes on with a command
  module _ (t : Turn) (e : turn_at input read (length o - written) ≡ Ok t) where
    pub can_run : Runnable input read (length o - written) (Ok t)
    can_run = subst (Runnable input read (length o - written)) e (runnable input read (length o - written))

    pub goes : {a : Record} {d : Known} {w' o' : List ℕ} {written' : ℕ} → Serves (on_bag t.command G.bag) a d w'
        → written' ≡ written + length (record_bytes a) → o' ≡ sets o written (record_bytes a)
        → Going b input out w' o' d (commands + 1) (read + t.bytes) written'
    goes {a} {d} {w'} {o'} {written'} S g h =
        let new = record_bytes a in
        let long : length (G.answers ++ new) ≡ length G.answers + length new = length-append G.answers new in
        record {
          bag = (on_bag t.command G.bag).state;
          answers = G.answers ++ new;
          left = G.left - 1;
          holds = S.holds;
          known = S.known;
          output = h ∙ rw (sets-append out 0 G.answers new, G.output, zero-add, ← G.place);
          place = omega (arith, G.place);
          fits = omega (arith, record_length a, same_room, can_run.2);
          few = omega (arith, G.few, can_run.0);
          inside = can_run.1;
          enough = omega (arith, G.enough, can_run.0);
          same = rw S.answer (sym (batch_goes on_bag input (length out) _ G.left G.enough t (rw room at e)) ∙ G.same);
        }
