-- `turn_at` meets its contract: the end, the kind, whether the body is whole, and whether its record has room, in this order.
use Rattle.std.proofs.Common.{◌≡◌, sym, ◌∙◌, arith}
use Rattle.std.specs.Prelude.{Some, None}
use Rattle.model.proofs.Told.{let_go}
use Rattle.commands.specs.declared.Stop.TheVariants.{KindUnknown}
use Rattle.records.proofs.Laws.{next_end, next_unknown, next_short, next_whole}
use Rattle.commands.proofs.Turns.{turn_next, turn_full, turn_run}
use Rattle.commands.proofs.turn_at.Goals as goal

pub returns-then-input-at : goal.returns-then-input-at
returns-then-input-at c = sym (turn_next _ _ _ (next_end _ _ (omega arith)))

pub returns-in_err-n : goal.returns-in_err-n
returns-in_err-n c =
    let b : c.body_length.result ≡ None = grind arith in
    let w : c.in_err-n.field-0.0 ≡ KindUnknown = grind arith in
    rw (let_go c.from_residual.ensures.1, w) (sym (turn_next _ _ _ (next_unknown _ _ (omega arith) (sym c.body_length.ensures ∙ b))))

pub returns-then-input-at-2 : goal.returns-then-input-at-2
returns-then-input-at-2 c =
    let b : c.body_length.result ≡ Some c.in_ok-n.n = grind arith in
    sym (turn_next _ _ _ (next_short _ _ (omega arith) (sym c.body_length.ensures ∙ b) (omega arith)))

pub returns-then-room-lt-LONGEST_RECORD : goal.returns-then-room-lt-LONGEST_RECORD
returns-then-room-lt-LONGEST_RECORD c =
    let b : c.body_length.result ≡ Some c.in_ok-n.n = grind arith in
    sym (turn_full _ _ _ (next_whole _ _ (omega arith) (sym c.body_length.ensures ∙ b) (omega arith)) (omega arith))

pub returns : goal.returns
returns c =
    let b : c.body_length.result ≡ Some c.in_ok-n.n = grind arith in
    rw c.read_command.ensures
    (sym (turn_run _ _ _ (next_whole _ _ (omega arith) (sym c.body_length.ensures ∙ b) (omega arith)) (omega arith)))
