-- `look_up` meets its contract: the levels are few enough for the count, which starts at 0.
use native.Mathlib.Omega.{arith}
use Rattle.tree.proofs.Getting.{levels_fit}
use Rattle.tree.proofs.look_up.Goals as goal

pub get-element-requires-clause-levels_bound : goal.get-element-requires-clause-levels_bound
get-element-requires-clause-levels_bound c =
    omega (arith, levels_fit c.requires)
