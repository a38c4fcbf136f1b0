use Rattle.std.proofs.Common.{sym, arith}
use Rattle.commands.proofs.Going.{begins, now_ready, same_room, stops, can_run, goes}
use Rattle.commands.proofs.run.Goals as goal

pub loop-turn-init : goal.loop-turn-init
loop-turn-init c = λ s. begins s _ _

pub overflow_sub-output : goal.overflow_sub-output
overflow_sub-output c =
    let G = c.loop-turn.invariant c.requires in
    omega (arith, G.fits, same_room G)

pub returns-in-Err : goal.returns-in-Err
returns-in-Err c s = rw c.into.ensures (stops (c.loop-turn.invariant s) _ (sym c.in-Err.ensures))

pub serve-answer-requires : goal.serve-answer-requires
serve-answer-requires c = now_ready (c.loop-turn.invariant c.requires)

pub write_record-written-requires : goal.write_record-written-requires
write_record-written-requires c = omega (arith, can_run (c.loop-turn.invariant c.requires) _ (sym c.in-Ok.ensures))

pub overflow_add-commands : goal.overflow_add-commands
overflow_add-commands c =
    let G = c.loop-turn.invariant c.requires in
    omega (arith, G.few, can_run G _ (sym c.in-Ok.ensures))

pub overflow_add-read : goal.overflow_add-read
overflow_add-read c = omega (arith, can_run (c.loop-turn.invariant c.requires) _ (sym c.in-Ok.ensures))

pub loop-turn-smaller : goal.loop-turn-smaller
loop-turn-smaller c = omega (arith, can_run (c.loop-turn.invariant c.requires) _ (sym c.in-Ok.ensures))

pub loop-turn-preserved : goal.loop-turn-preserved
loop-turn-preserved c s =
    let G = c.loop-turn.invariant s in
    let W = c.write_record-written.ensures in
    goes G _ (sym c.in-Ok.ensures) (c.serve-answer.ensures (now_ready G)) W.value W.s_after
