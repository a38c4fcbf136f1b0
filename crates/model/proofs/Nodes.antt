-- What a tree is made of, at any height: its list, its size, the nodes that it holds; nodes joined, and cut at a separator.
use mathlib.Core.Path.{◌≡◌, refl, sym, ap, ap₂, ◌∙◌}
use mathlib.Core.List.{List, [], ◌∷◌, ◌++◌, map, map-append}
use Prim.Native.Nat.{ℕ, zero, suc, ◌+◌, ◌≤◌, ◌<◌}
use native.Mathlib.Omega.{arith}
use lib.ListN.{length, take, drop, get_or, length-append, length-map, length-take, length-drop, take-append-drop}
use lib.Seq.{split_at}
use Rattle.lists.specs.Lists.{count}
use Rattle.lists.proofs.All.{All, all_append, all_take, all_drop, all_map, all_at, all_of}
use Rattle.lists.proofs.Sums.{total, total_append, total_at, measure_concat}
use Rattle.lists.proofs.Counts.{count-append}
use Rattle.model.specs.Tree.{Node, Tree, none, kid, size, ids, flat}
use Rattle.model.specs.Fit.{Child, Fit}
use Rattle.model.specs.Remove.{joined}
use Rattle.model.proofs.Weave.{after, weave_after, length-weave}

-- a node written out
abbrev pub node : {A : Type 0} → ℕ → List ℕ → List A → Node A
node i es ks = record { id = i; elems = es; kids = ks }

-- how often node k stands in a tree
abbrev pub held : (h k : ℕ) → Tree h → ℕ
held h k t = count k (ids h t)

pub held_inner : (h k : ℕ) (t : Tree (suc h)) → held (suc h) k t ≡ count k (t.id ∷ []) + total (held h k) t.kids
unfolding ids count
held_inner h k t = omega (arith, measure_concat (count k) refl (count-append k) (ids h) t.kids)

pub held_id : (h k : ℕ) (t : Tree h) → count k (t.id ∷ []) ≤ held h k t
held_id zero k t = unfold ids in omega arith
held_id (suc h) k t = omega (arith, held_inner h k t)

-- a tree's own node is the first of its nodes
pub same_id : (h : ℕ) (s t : Tree h) → ids h s ≡ ids h t → s.id ≡ t.id
unfolding ids
same_id zero s t e = ap (λ (is : List ℕ). get_or is 0 0) e
same_id (suc h) s t e = ap (λ (is : List ℕ). get_or is 0 0) e

-- whose a node is: the root's, that of a child before child c, of child c, or of one behind it
pub kids_held : (h k : ℕ) (t : Tree (suc h)) (c : ℕ) → c < length t.kids → held (suc h) k t
    ≡ count k (t.id ∷ []) + (total (held h k) (take c t.kids) + (held h k (kid h t c) + total (held h k) (drop (suc c) t.kids)))
kids_held h k t c l = omega (arith, held_inner h k t, total_at (held h k) t.kids c (none h) l)

-- a node and one of its children
pub held_kid : (h k : ℕ) (t : Tree (suc h)) (c : ℕ) → c < length t.kids → count k (t.id ∷ []) + held h k (kid h t c) ≤ held (suc h) k t
held_kid h k t c l = omega (arith, kids_held h k t c l)

-- ---- a tree's shape: all that makes it fit, but how many elements its root has

pub record Shaped (h : ℕ) (t : Tree (suc h)) : Type 0 where
  pub one_more : length t.kids ≡ length t.elems + 1
  pub children : All (Child h (Fit h)) t.kids

abbrev pub Shape : (h : ℕ) → Tree h → Type 0
Shape zero t = Unit {0}
Shape (suc h) t = Shaped h t

pub shape : (h : ℕ) (t : Tree h) → Fit h t → Shape h t
shape zero t F = tt
shape (suc h) t F = record { one_more = F.one_more; children = all_of (none h) t.kids F.each }

pub fits : (h : ℕ) (t : Tree h) → Shape h t → length t.elems ≤ 31 → Fit h t
fits zero t S m = record { most = m }
fits (suc h) t S m = record { most = m; one_more = S.one_more; each = all_at (none h) S.children }

pub most : (h : ℕ) (t : Tree h) → Fit h t → length t.elems ≤ 31
most zero t F = F.most
most (suc h) t F = F.most

pub child : (h : ℕ) (t : Tree h) → Fit h t → 15 ≤ length t.elems → Child h (Fit h) t
child h t F l = record { least = omega arith; fit = F }

-- ---- the list is as long as the size says

pub flat-length : (h : ℕ) (t : Tree h) → Fit h t → length (flat h t) ≡ size h t
unfolding flat size
flat-length zero t F = refl
flat-length (suc h) t F =
    length-weave (flat h) (size h) t.elems (all_map (λ k p. flat-length h k p.fit) (shape (suc h) t F).children)
    (omega arith) (omega arith)

pub size_least : (h : ℕ) (t : Tree h) → length t.elems ≤ size h t
unfolding size
size_least zero t = omega arith
size_least (suc h) t = omega arith

pub kid-size : (h : ℕ) (t : Tree (suc h)) (c : ℕ) → c < length t.kids → size h (kid h t c) ≤ size (suc h) t
unfolding size
kid-size h t c l = omega (arith, total_at (size h) t.kids c (none h) l)

-- ---- the same list in other nodes: t with the free nodes f became s with the free nodes g

pub record Rearranged (h : ℕ) (t : Tree h) (f : List ℕ) (s : Tree h) (g : List ℕ) : Type 0 where
  pub list : flat h s ≡ flat h t
  pub sized : size h s ≡ size h t
  pub fit : Fit h s
  pub nodes : (k : ℕ) → held h k s + count k g ≡ held h k t + count k f

-- the size follows from the list
pub rearranged : {h : ℕ} {t s : Tree h} {f g : List ℕ} → Fit h t → flat h s ≡ flat h t → Fit h s
    → ((k : ℕ) → held h k s + count k g ≡ held h k t + count k f) → Rearranged h t f s g
rearranged {h} {t} {s} T e S n =
    record { list = e; sized = omega (arith, flat-length h s S, flat-length h t T, ap length e); fit = S; nodes = n }

-- ---- two nodes joined

pub join_flat : (h : ℕ) (a : Tree h) (e : ℕ) (b : Tree h) → Shape h a → flat h (joined a e b) ≡ flat h a ++ (e ∷ flat h b)
unfolding flat after
join_flat zero a e b S = refl
join_flat (suc h) a e b S =
    rw map-append (weave_after (map (flat h) a.kids) (map (flat h) b.kids) a.elems (e ∷ b.elems) (rw length-map S.one_more))

pub join_held : (h k : ℕ) (a : Tree h) (e : ℕ) (b : Tree h)
    → held h k (joined a e b) + count k (b.id ∷ []) ≡ held h k a + held h k b
join_held zero k a e b = unfold ids in refl
join_held (suc h) k a e b =
    omega (
      arith,
      held_inner h k a,
      held_inner h k b,
      held_inner h k (joined a e b),
      total_append (held h k) a.kids b.kids,
    )

pub join_shape : (h : ℕ) (a : Tree h) (e : ℕ) (b : Tree h) → Shape h a → Shape h b → Shape h (joined a e b)
join_shape zero a e b S T = tt
join_shape (suc h) a e b S T = record {
  one_more = omega (arith, length-append a.elems (e ∷ b.elems), length-append a.kids b.kids);
  children = all_append S.children T.children;
}

-- ---- a node cut at separator c, the right part in node k

abbrev pub left_part : {A : Type 0} → ℕ → Node A → Node A
left_part c t = node t.id (take c t.elems) (take (suc c) t.kids)

abbrev pub right_part : {A : Type 0} → ℕ → ℕ → Node A → Node A
right_part c k t = node k (drop (suc c) t.elems) (drop (suc c) t.kids)

parts : {A : Type 0} (c k : ℕ) (t : Node A) → c < length t.elems
    → t ≡ joined (left_part c t) (get_or t.elems c 0) (right_part c k t)
parts c k t l = ap₂ (node t.id) (split_at t.elems c 0 l) (sym (take-append-drop (suc c) t.kids))

module _ (c k : ℕ) where
  pub left_shape : (h : ℕ) (t : Tree h) → Shape h t → c < length t.elems → Shape h (left_part c t)
  left_shape zero t S l = tt
  left_shape (suc h) t S l = record {
    one_more = omega (arith, length-take c t.elems, length-take (suc c) t.kids);
    children = all_take (suc c) S.children;
  }

  pub right_shape : (h : ℕ) (t : Tree h) → Shape h t → c < length t.elems → Shape h (right_part c k t)
  right_shape zero t S l = tt
  right_shape (suc h) t S l = record {
    one_more = omega (arith, length-drop (suc c) t.elems, length-drop (suc c) t.kids);
    children = all_drop (suc c) S.children;
  }

  pub parts_flat : (h : ℕ) (t : Tree h) → Shape h t → c < length t.elems
      → flat h t ≡ flat h (left_part c t) ++ (get_or t.elems c 0 ∷ flat h (right_part c k t))
  parts_flat h t S l = ap (flat h) (parts c k t l) ∙ join_flat h (left_part c t) (get_or t.elems c 0) (right_part c k t) (left_shape h t S l)

  pub parts_held : (h j : ℕ) (t : Tree h) → c < length t.elems
      → held h j t + count j (k ∷ []) ≡ held h j (left_part c t) + held h j (right_part c k t)
  parts_held h j t l =
      omega (arith, ap (held h j) (parts c k t l), join_held h j (left_part c t) (get_or t.elems c 0) (right_part c k t))

  module _ (h : ℕ) (t : Tree h) (F : Fit h t) (l : c < length t.elems) where
    pub left_fit : Fit h (left_part c t)
    left_fit = fits h (left_part c t) (left_shape h t (shape h t F) l) (omega (arith, length-take c t.elems, most h t F))

    pub right_fit : Fit h (right_part c k t)
    right_fit = fits h (right_part c k t) (right_shape h t (shape h t F) l) (omega (arith, length-drop (suc c) t.elems, most h t F))

    pub parts_size : size h t ≡ size h (left_part c t) + 1 + size h (right_part c k t)
    parts_size =
        omega (
          arith,
          flat-length h t F,
          flat-length h (left_part c t) left_fit,
          flat-length h (right_part c k t) right_fit,
          ap length (parts_flat h t (shape h t F) l),
          length-append (flat h (left_part c t)) (get_or t.elems c 0 ∷ flat h (right_part c k t)),
        )
