-- A batch is its commands one at a time, by the door's calls.
use mathlib.Core.Path.{◌≡◌, refl, sym, ap, ◌∙◌}
use mathlib.Core.List.{List, [], ◌∷◌}
use Prim.Native.Nat.{ℕ, zero, suc, ◌+◌, ◌-◌, ◌≤◌}
use native.Mathlib.Nat.{zero-add}
use native.Mathlib.Omega.{arith}
use Rattle.std.specs.Prelude.{Result, Ok, Err}
use lib.ListN.{length}
use Rattle.model.specs.declared.Answer.{Answer}
use Rattle.model.specs.Tree.{Bag}
use Rattle.model.specs.Calls.{refused, len_call, get_call, insert_call, push_call, replace_call, remove_call}
use Rattle.pool.specs.Sound.{Holds, Sound}
use Rattle.pool.proofs.Read.{one_pool}
use Rattle.admission.proofs.Kept.{insert_lawful, push_lawful, replace_lawful, remove_lawful, left_words, edits_held, tells_held}
use Rattle.admission.proofs.One.{edits_one, tells_one}
use Rattle.records.specs.declared.Command.{Command}
use Rattle.records.specs.declared.Command.TheVariants.{Insert, Remove, Push, Get, Replace, Len}
use Rattle.records.proofs.Laws.{next_end}
use Rattle.commands.specs.declared.Ran.{Ran}
use Rattle.commands.specs.declared.Turn.{Turn}
use Rattle.commands.specs.declared.Stop.{Stop}
use Rattle.commands.specs.declared.Stop.TheVariants.{InputEnded}
use Rattle.commands.specs.Steps.{stop_number, turn_at, Progress, Ended, start, advanced, batch_from}
use Rattle.commands.specs.OnBag.{perform, on_bag}
use Rattle.batch.specs.Batch.{Batches}
use Rattle.batch.specs.Singly.{Called, Stage, Singly, none, next, OneByOne}
use Rattle.commands.proofs.Turns.{turn_next, Runnable, runnable, batch_stops, batch_goes}

-- ---- one command

pub called_held : (c : Command) {w w' : List ℕ} {b : Bag} → Holds w b → Holds w' (perform c b).bag → Called c w (perform c b).answer w'
called_held (Insert i x) H K = edits_held (insert_call i x) H K
called_held (Remove i) H K = edits_held (remove_call i) H K
called_held (Push x) H K = edits_held (push_call x) H K
called_held (Get i) H K = (tells_held refused (get_call i) H, one_pool K H)
called_held (Replace i x) H K = edits_held (replace_call i x) H K
called_held Len H K = (tells_held refused len_call H, one_pool K H)

-- a pool in which it leaves its bag
pub left_by : (c : Command) {w : List ℕ} {b : Bag} → Holds w b → (v : List ℕ) × Holds v (perform c b).bag
left_by (Insert i x) H = left_words (insert_call i x) (insert_lawful i x) H
left_by (Remove i) H = left_words (remove_call i) (remove_lawful i) H
left_by (Push x) H = left_words (push_call x) (push_lawful x) H
left_by (Get i) {w} H = (w, H)
left_by (Replace i x) H = left_words (replace_call i x) (replace_lawful i x) H
left_by Len {w} H = (w, H)

-- on any words it has one answer, and leaves one pool
pub called_one : (c : Command) (w : List ℕ) (a b : Answer) (v u : List ℕ) → Called c w a v → Called c w b u → (a ≡ b) × (v ≡ u)
called_one (Insert i x) w a b v u C D = edits_one C D
called_one (Remove i) w a b v u C D = edits_one C D
called_one (Push x) w a b v u C D = edits_one C D
called_one (Get i) w a b v u C D = (tells_one refused (get_call i) C.0 D.0, C.1 ∙ sym D.1)
called_one (Replace i x) w a b v u C D = edits_one C D
called_one Len w a b v u C D = (tells_one refused len_call C.0 D.0, C.1 ∙ sym D.1)

-- ---- all commands from a place on, by the batch's turns

abbrev turn : List ℕ → ℕ → Stage → Result Turn Stop
turn input size s = turn_at input s.at (size - length s.bytes)

abbrev stage : Progress Bag → List ℕ → Stage
stage p w = record { at = p.read; bytes = p.answers; pool = w }

pub record Rest (input : List ℕ) (size : ℕ) (p : Progress Bag) (w : List ℕ) (e : Ended Bag) : Type 0 where
  pub pool : List ℕ
  pub holds : Holds pool e.progress.state
  commands : List Command
  called : Singly input size (stage p w) commands (stage e.progress pool)
  counted : e.progress.commands ≡ p.commands + length commands
  why : Stop
  stop : turn input size (stage e.progress pool) ≡ Err why
  number : e.number ≡ stop_number why

module _ (input : List ℕ) (size : ℕ) where
  -- no command
  nothing : (p : Progress Bag) (z : Stop) {w : List ℕ} → turn input size (stage p w) ≡ Err z → Holds w p.state
      → Rest input size p w (record { number = stop_number z; progress = p })
  nothing p z {w} e H = record {
    pool = w;
    holds = H;
    commands = [];
    called = none (stage p w);
    counted = omega arith;
    why = z;
    stop = e;
    number = refl;
  }

  -- one command, and the rest
  command : (p : Progress Bag) (t : Turn) {w v : List ℕ} {e : Ended Bag} → turn input size (stage p w) ≡ Ok t → Holds w p.state
      → Holds v (perform t.command p.state).bag → Rest input size (advanced on_bag t.command t.bytes p) v e → Rest input size p w e
  unfolding on_bag
  command p t {w} {v} {e} q H K R = record {
    pool = R.pool;
    holds = R.holds;
    commands = t.command ∷ R.commands;
    called = next (stage p w) t.command t.bytes (perform t.command p.state).answer v R.commands (stage e.progress R.pool) q
        (called_held t.command H K) R.called;
    counted = omega (arith, R.counted);
    why = R.why;
    stop = R.stop;
    number = R.number;
  }

  -- all that is left, by the turns left
  abbrev Told : ℕ → Type 0
  Told left = (p : Progress Bag) (w : List ℕ) → length input ≤ p.read + left → Holds w p.state
      → Rest input size p w (batch_from on_bag input size left p)

  one_more : (left : ℕ) → Told left → Told (suc left)
  unfolding on_bag
  one_more left ih p w enough H = go (turn input size (stage p w)) refl (runnable input p.read (size - length p.answers))
    where
      go : (t : Result Turn Stop) → turn input size (stage p w) ≡ t → Runnable input p.read (size - length p.answers) t
          → Rest input size p w (batch_from on_bag input size (suc left) p)
      go (Err z) e f = rw (batch_stops on_bag input size p (suc left) enough z e) (nothing p z e H)
      go (Ok t) e f =
          let v = left_by t.command H in
          let d : suc left - 1 ≡ left = omega arith in
          rw (batch_goes on_bag input size p (suc left) enough t e, d)
          (command p t e H v.1 (ih (advanced on_bag t.command t.bytes p) v.0 (omega (arith, f.0)) v.1))

  pub rest : (left : ℕ) → Told left
  unfolding batch_from
  rest zero p w enough H = nothing p InputEnded (turn_next input p.read _ (next_end input p.read (omega arith))) H
  rest (suc left) p w enough H = one_more left (rest left) p w enough H

-- ---- the whole batch

pub one_by_one : {w input out : List ℕ} {r : Ran} {w' out' : List ℕ} → Batches w input out r w' out' → Sound w
    → OneByOne w input out r w' out'
one_by_one {w} {input} {out} {r} {w'} {out'} B (b, H) =
    let R = B.holds b H in
    let T = rest input (length out) (length input) (start b) w (omega arith) H in
    rw (R.ran, one_pool R.holds T.holds) (record {
      commands = T.commands;
      bytes = _;
      called = T.called;
      counted = T.counted ∙ zero-add (length T.commands);
      written = refl;
      output = R.output;
      why = T.why;
      stop = T.stop;
      number = T.number;
    })

-- ---- one outcome, whatever the pool

module _ (input : List ℕ) (size : ℕ) where
  singly_one : {s t e f : Stage} {cs ds : List Command} (m n : Stop) → s ≡ t → Singly input size s cs e → Singly input size t ds f
      → turn input size e ≡ Err m → turn input size f ≡ Err n → (cs ≡ ds) × (e ≡ f)
  singly_one m n q (none s) (none t) x y = (refl, q)
  singly_one m n q (none s) (next t d k b u ds f i D T) x y =
      let z : ◌≡◌ {A = ℕ} 0 1 = cc in
      absurd (omega arith)
  singly_one m n q (next s c j a v cs e h C S) (none t) x y =
      let z : ◌≡◌ {A = ℕ} 0 1 = cc in
      absurd (omega arith)
  singly_one m n q (next s c j a v cs e h C S) (next t d k b u ds f i D T) x y =
      let pools : s.pool ≡ t.pool = cc in
      let both : ◌≡◌ {A = Turn} (record { command = c; bytes = j }) (record { command = d; bytes = k }) = cc in
      let same : c ≡ d = ap (λ (t : Turn). t.command) both in
      let bytes : j ≡ k = ap (λ (t : Turn). t.bytes) both in
      let A = called_one c s.pool a b v u C (rw (same, pools) D) in
      let R = singly_one m n (cc (A.0, A.1, bytes)) S T x y in
      ((cc R.0), R.1)

pub one_by_one_agree : {w input out : List ℕ} {r s : Ran} {w' w'' out' out'' : List ℕ} → OneByOne w input out r w' out'
    → OneByOne w input out s w'' out'' → (r ≡ s) × (w' ≡ w'') × (out' ≡ out'')
one_by_one_agree {w} {input} {out} {r} {s} {w'} {w''} {out'} {out''} P Q =
    let S =
    singly_one input (length out) P.why Q.why refl P.called Q.called (rw P.written at P.stop)
    (rw Q.written at Q.stop) in
    let read : r.read ≡ s.read = ap (λ (e : Stage). e.at) S.1 in
    let bytes : P.bytes ≡ Q.bytes = ap (λ (e : Stage). e.bytes) S.1 in
    let written : r.written ≡ s.written = cc in
    let why : P.why ≡ Q.why = cc in
    let number : r.number ≡ s.number = cc in
    let commands : r.commands ≡ s.commands = cc in
    (λ i. record { number = number i; commands = commands i; read = read i; written = written i }, ap (λ (e : Stage). e.pool) S.1, cc)
