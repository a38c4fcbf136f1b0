-- `insert` meets its contract: what the tree function leaves with the new root stored, unless the index or the room refuses it.
use Rattle.std.proofs.Common.{◌≡◌, refl, arith}
use Rattle.std.specs.Prelude.{None}
use Rattle.model.proofs.Told.{let_go}
use Rattle.model.specs.declared.Refusal.TheVariants.{NoRoom}
use Rattle.model.proofs.Calls.{insert_beyond}
use Rattle.calls.proofs.Bags.{root_inside}
use Rattle.calls.proofs.Editing.{does, insert_ready, insert_long, insert-refused, insert_does}
use Rattle.calls.proofs.insert.Goals as goal

pub returns-then-len-index : goal.returns-then-len-index
returns-then-len-index c s =
    does _ s.bag _ (insert_beyond s.bag _ _ (omega (arith, c.len.ensures s))) _ _ refl s.is s.holds

pub insert-requires : goal.insert-requires
insert-requires c =
    let s = c.requires in
    insert_ready s (omega (arith, c.len.ensures s))

pub returns-in_err-known : goal.returns-in_err-known
returns-in_err-known c s =
    let n : c.insert.result ≡ None = grind arith in
    let w : c.in_err-known.field-0.0 ≡ NoRoom = grind arith in
    rw (let_go c.from_residual.ensures.1, w) (insert-refused s _ _ (omega (arith, c.len.ensures s)) _ c.insert.ensures n)

pub bounds-pool-0 : goal.bounds-pool-0
bounds-pool-0 c =
    let s = c.requires in
    omega (arith, insert_long s _ _ (omega (arith, c.len.ensures s)) _ c.insert.ensures, root_inside s.holds)

pub returns : goal.returns
returns c s =
    insert_does s _ _ (omega (arith, c.len.ensures s)) _ c.insert.ensures _ (grind arith)
