-- The cycle of calls {insert_into_non_full_node}. The measure is the number of levels.
-- Each answer hands what the calls ensured to a law of `Inserting`.
use Rattle.insertion.proofs.+insert_into_non_full_node.Given as goal

abbrev pub decreases-insert_into_non_full_node : goal.decreases-insert_into_non_full_node
decreases-insert_into_non_full_node l = l.levels
