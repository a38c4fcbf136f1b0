-- The cycle of calls {needed_below}. The measure is the number of levels. Each answer hands what the calls ensured to a law of `Needing`.
use Rattle.insertion.proofs.+needed_below.Given as goal

abbrev pub decreases-needed_below : goal.decreases-needed_below
decreases-needed_below l = l.levels
