-- Each block is taken off the input. Measure: what is left.
use Rattle.std.proofs.Common.{length}
use Rattle.replay.proofs.replay_all.Given as goal

abbrev pub decreases-loop-block : goal.decreases-loop-block
decreases-loop-block g l = length l.rest
