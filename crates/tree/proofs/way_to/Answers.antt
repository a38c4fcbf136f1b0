-- `way_to` meets its contract: the finder's place is the model's, and the words read after it are those of the child found.
use Rattle.pool.specs.Parts.{Inside}
use Rattle.tree.proofs.Way.{way_inner, way_child, way_inside, way_turns}
use Rattle.tree.proofs.way_to.Goals as goal
use Rattle.tree.proofs.way_to.Goals.{After-kid-k}

inside : (c : After-kid-k) → Inside c.args.pool.now c.kid-k.result
inside c =
    way_inside c.requires _ _ c.start_of-a.ensures c.find_child_index-p.ensures _ c.kid-k.ensures

pub find_child_index-p-requires : goal.find_child_index-p-requires
find_child_index-p-requires c =
    way_inner c.requires _ c.start_of-a.ensures

pub kid-k-requires : goal.kid-k-requires
kid-k-requires c =
    record {
      node_len = (way_inner c.requires _ c.start_of-a.ensures).long;
      c_bound = way_child c.requires _ _ c.start_of-a.ensures c.find_child_index-p.ensures;
    }

pub length_at-requires : goal.length_at-requires
length_at-requires c =
    inside c

pub returns : goal.returns
returns c s =
    way_turns s _ _ c.start_of-a.ensures c.find_child_index-p.ensures _ c.kid-k.ensures _ c.length_at.ensures
