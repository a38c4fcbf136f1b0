-- The cycle of calls {replace}. The measure is the number of levels. Each answer hands what the calls ensured to a law of `Replacing`.
use Rattle.tree.proofs.+replace.Given as goal

abbrev pub decreases-replace : goal.decreases-replace
decreases-replace l = l.levels
