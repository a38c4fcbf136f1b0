-- The cycle of calls {stretch}. The measure is the number of levels. Each answer hands what the calls ensured to a law of `Spanning`.
use Rattle.tree.proofs.+stretch.Given as goal

abbrev pub decreases-stretch : goal.decreases-stretch
decreases-stretch l = l.levels
