-- `raise_root` meets its contract: each answer hands what the calls ensured to a law of `Raising`.
use Rattle.split.proofs.Raising.{root_splits, root_raised}
use Rattle.split.proofs.raise_root.Goals as goal

pub split_child-requires : goal.split_child-requires
split_child-requires c =
    root_splits c.requires _ _ _ c.length_at-n.ensures c.take_node-root.ensures _ c.put_above.ensures

pub returns : goal.returns
returns c =
    λ s.
    root_raised s _ _ _ c.length_at-n.ensures c.take_node-root.ensures _ c.put_above.ensures _
    (c.split_child.ensures (root_splits s _ _ _ c.length_at-n.ensures c.take_node-root.ensures _ c.put_above.ensures))
