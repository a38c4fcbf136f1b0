-- `is_marked` meets its contract: it tests the bit of k.
use Rattle.marks.proofs.Laws.{seen_test}
use Rattle.marks.proofs.is_marked.Goals as goal

pub returns : goal.returns
returns c =
    seen_test _ _ _ c.mask_of.ensures
