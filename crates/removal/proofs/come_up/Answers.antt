-- `come_up` meets its contract: word 1 falls by one, and the separator is swapped if it is to be.
use Rattle.removal.proofs.Rising.{up_some, up_plain, up_place, up_swapped}
use Rattle.removal.proofs.come_up.Goals as goal

pub overflow_sub-pool : goal.overflow_sub-pool
overflow_sub-pool c =
    up_some c.requires _ c.start_of-a.ensures

pub swap_element-requires : goal.swap_element-requires
swap_element-requires c =
    up_place c.requires _ c.start_of-a.ensures _ c.in-Some.is

pub returns-in-Some : goal.returns-in-Some
returns-in-Some c s =
    up_swapped s _ c.start_of-a.ensures _ c.in-Some.is _ _ _ c.swap_element.ensures

pub returns-in-None : goal.returns-in-None
returns-in-None c s =
    up_plain s _ c.start_of-a.ensures c.in-None.is _
