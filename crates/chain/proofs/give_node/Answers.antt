-- `give_node` meets its contract: the words cleared, the link and the chain word are what the chain wants.
use Rattle.chain.proofs.Chain.{gave}
use Rattle.chain.proofs.give_node.Goals as goal

pub returns : goal.returns
returns c =
    gave _ _ _ _ c.requires c.start_of-a.ensures c.clear_run.ensures
