-- `remove_index` meets its contract: the tree function at the root, and a root left without elements gives way.
use mathlib.Core.Path.{refl}
use native.Mathlib.Omega.{arith}
use Rattle.removal.proofs.Lowering.{root_ready, left, frees_few, removed}
use Rattle.removal.proofs.remove_index.Goals as goal

pub remove-c-requires : goal.remove-c-requires
remove-c-requires c =
    root_ready c.requires

pub overflow_add-left : goal.overflow_add-left
overflow_add-left c =
    omega (arith, frees_few c.requires _ _ c.remove-c.ensures, c.well_formed.0.0)

pub lower-requires : goal.lower-requires
lower-requires c =
    left c.requires _ _ c.remove-c.ensures _ refl

pub returns : goal.returns
returns c s =
    removed s _ _ c.remove-c.ensures _ refl _ _ c.lower.ensures
