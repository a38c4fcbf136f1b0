-- The cycle of calls {remove}. The measure is the number of levels. Each answer hands what the calls ensured to a law of `Rising`.
use Rattle.removal.proofs.+remove.Given as goal

abbrev pub decreases-remove : goal.decreases-remove
decreases-remove l = l.levels
