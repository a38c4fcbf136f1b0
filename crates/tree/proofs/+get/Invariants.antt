-- The cycle of calls {get}. The measure is the number of levels. Each answer hands what the calls ensured to a law of `Getting`.
use Rattle.tree.proofs.+get.Given as goal

abbrev pub decreases-get : goal.decreases-get
decreases-get l = l.levels
