-- `push` meets its contract: an insertion behind the last element.
use mathlib.Core.Path.{sym, ap}
use Prim.Native.Nat.{ℕ}
use Rattle.model.specs.Calls.{insert_call, push_call}
use Rattle.calls.proofs.Editing.{does}
use Rattle.calls.proofs.push.Goals as goal

pub returns : goal.returns
unfolding push_call
returns c s =
    let x = c.args.x in
    let D = c.insert.ensures s in
    does (push_call x) s.bag _ (ap (λ (n : ℕ). insert_call n x s.bag) (sym (c.len-n.ensures s))) _ _ D.answer D.known D.holds
