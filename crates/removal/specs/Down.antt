-- One level of a removal in two parts: the way down, until the removal goes below a node, and the way up again.
use Rattle.std.specs.Prelude.{◌≡◌, Option, Some, None, List, ◌∷◌, ℕ, suc, ◌+◌, ◌-◌, ◌<◌, length, get_or, set}
use Rattle.model.specs.Tree.{Tree, kid, size, find, before}
use Rattle.model.specs.Remove.{merge, Filled, fill, Shrunk, back, swapped, way_for}
use Rattle.model.specs.declared.Way.{Way}
use Rattle.model.specs.declared.Way.TheVariants.{Inside, ByLast, ByFirst, ByMerge}
use Rattle.pool.specs.Layout.{node_block, with_block}
use Rattle.tree.specs.Node.{Node}
use Rattle.tree.specs.Stands.{Reshaped}
use Rattle.removal.specs.declared.Descent.{Descent}
use Rattle.removal.specs.Ready.{RemoveReady}

-- ---- the model's step, cut in two

-- the node when the removal goes below it, the child and the index in it, and the separator, if any, whose place what is
-- removed there takes
pub record Descended (h : ℕ) : Type 0 where
  pub node : Tree (suc h)
  pub child : ℕ
  pub sub : ℕ
  pub swaps : Option ℕ
  pub free : List ℕ

abbrev pub entered : (h : ℕ) → Filled h → ℕ → Descended h
entered h s i =
    record { node = s.node; child = s.child; sub = i - before h s.node s.child; swaps = None; free = s.free }

abbrev pub beside : (h : ℕ) → Tree (suc h) → ℕ → ℕ → ℕ → List ℕ → Descended h
beside h t d j c f = record { node = t; child = d; sub = j; swaps = Some c; free = f }

unfoldable pub down_by : (h : ℕ) → Way → Tree (suc h) → ℕ → ℕ → List ℕ → Descended h
unfolding fill merge before size
down_by h Inside t c i f = entered h (fill h t c f) i
down_by h ByLast t c i f = beside h t c (size h (kid h t c) - 1) c f
down_by h ByFirst t c i f = beside h t (c + 1) 0 c f
down_by h ByMerge t c i f = entered h (record { node = merge h t c; child = c; free = (kid h t (c + 1)).id ∷ f }) i

unfoldable pub descend : (h : ℕ) → Tree (suc h) → ℕ → List ℕ → Descended h
unfolding down_by way_for
descend h t i f = down_by h (way_for h t i) t (find h t i).child i f

-- the whole step, from what was removed below
abbrev pub up_by : (h : ℕ) → Option ℕ → Tree (suc h) → ℕ → Shrunk (Tree h) → Shrunk (Tree (suc h))
up_by h None t d r = back h t d r
up_by h (Some c) t d r = swapped h t c d r

abbrev pub ascend : (h : ℕ) → Descended h → Shrunk (Tree h) → Shrunk (Tree (suc h))
ascend h d r = up_by h d.swaps d.node d.child r

-- the elements when x has taken the place of a separator, if of any, and what is given back: that separator, or else x
abbrev pub swapped_in : Option ℕ → List ℕ → ℕ → List ℕ
swapped_in None es x = es
swapped_in (Some c) es x = set es c x

abbrev pub given_back : Option ℕ → List ℕ → ℕ → ℕ
given_back None es x = x
given_back (Some c) es x = get_or es c 0

-- ---- the two parts in the pool

pub record DownReady (w : List ℕ) (id index : ℕ) : Type 0 where
  pub height : ℕ
  pub ready : RemoveReady w (suc height) id index

pub record Went (w w' : List ℕ) (h : ℕ) (t : Tree (suc h)) (f : List ℕ) (d : Descended h) (r : Descent) : Type 0 where
  pub id : r.id ≡ (kid h d.node d.child).id
  pub index : r.index ≡ d.sub
  pub swaps : r.swaps ≡ d.swaps
  pub freed : length f + r.freed ≡ length d.free
  pub reshaped : Reshaped w w' (suc h) t f d.node d.free

-- one element below node id is gone
pub record UpReady (w : List ℕ) (id : ℕ) (swaps : Option ℕ) : Type 0 where
  pub node : Node w id
  pub some : 0 < node.size
  pub place : (c : ℕ) → swaps ≡ Some c → c < length node.elems

pub record Up (w w' : List ℕ) (id : ℕ) (swaps : Option ℕ) (x : ℕ) (m : Node w id) (r : ℕ) : Type 0 where
  pub given : r ≡ given_back swaps m.elems x
  pub words : w' ≡ with_block w id (node_block (m.size - 1) (swapped_in swaps m.elems x) m.kids)
