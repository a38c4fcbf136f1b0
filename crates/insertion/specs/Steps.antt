-- The steps of an insertion: room made for it at one level, an element put below a node, and the nodes that it needs.
use Rattle.std.specs.Prelude.{◌≡◌, true, false, cond, List, ℕ, suc, ◌≤◌, get_or, drop}
use Rattle.model.specs.Tree.{Tree, kid, size, find}
use Rattle.model.specs.Insert.{is_full, split_child, Grown, insert_non_full, needed_below}
use Rattle.tree.specs.Stands.{Stands, Reshaped}
use Rattle.insertion.specs.declared.Entry.{Entry}
use Rattle.insertion.specs.Ready.{InsertReady}

-- t and f became what g holds
abbrev pub Grew : List ℕ → List ℕ → (h : ℕ) → Tree h → List ℕ → Grown (Tree h) → Type 0
Grew w w' h t f g = Reshaped w w' h t f g.tree g.free

-- a node with children
pub record RoomReady (w : List ℕ) (id index : ℕ) : Type 0 where
  pub height : ℕ
  pub ready : InsertReady w (suc height) id index

-- the node when the child that index i goes into was split, if it was full
unfoldable pub roomed : (h : ℕ) → Tree (suc h) → ℕ → List ℕ → Grown (Tree (suc h))
unfolding is_full split_child
roomed h t i f =
    let c = (find h t i).child in
    elim (is_full h (kid h t c)) [
      | false ↦ record { tree = t; free = f }
      | true ↦ record { tree = split_child h t c (get_or f 0 0); free = drop 1 f }
    ]

-- that was done, and r is where the index goes then
pub record MakesRoom (w w' : List ℕ) (h : ℕ) (t : Tree (suc h)) (f : List ℕ) (index : ℕ) (r : Entry) : Type 0 where
  pub grew : Grew w w' (suc h) t f (roomed h t index f)
  pub id : r.id ≡ (let s = (roomed h t index f).tree in (kid h s (find h s index).child).id)
  pub sub : r.sub ≡ (find h (roomed h t index f).tree index).sub
  pub taken : r.taken ≡ cond (is_full h (kid h t (find h t index).child)) 1 0

-- x was inserted below a node, and n nodes were taken
pub record InsertsBelow (w w' : List ℕ) (h : ℕ) (t : Tree h) (f : List ℕ) (index x n : ℕ) : Type 0 where
  pub grew : Grew w w' h t f (insert_non_full h t index x f)
  pub taken : n ≡ needed_below h t index

-- the tree at node id takes an insertion at the index
pub record Upto (w : List ℕ) (h id index : ℕ) : Type 0 where
  pub stands : Stands w h id
  pub upto : index ≤ size h stands.tree
