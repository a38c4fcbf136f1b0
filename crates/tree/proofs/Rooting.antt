-- The root of a bag that stands in the pool, as the caller knows it.
use mathlib.Core.Path.{◌≡◌, refl, sym, ap, subst, ◌∙◌}
use mathlib.Core.List.{List}
use mathlib.Core.Logic.{◌≢◌}
use Prim.Native.Nat.{ℕ, ◌<◌}
use native.Mathlib.Omega.{arith}
use lib.ListN.{length}
use Rattle.model.specs.Tree.{Tree, size, Root, bare, rooted, Bag, list_of, root_ids, levels_of}
use Rattle.model.proofs.Nodes.{flat-length}
use Rattle.pool.specs.Layout.{root_id}
use Rattle.pool.specs.Parts.{RootAt}
use Rattle.tree.specs.declared.Known.{Known}
use Rattle.tree.specs.Stands.{Owns, known_of, BagStands}

-- the list has a root, with its tree
pub record Rooted (w : List ℕ) (known : Known) (b : Bag) : Type 0 where
  pub tree : Tree known.levels
  pub is : b.root ≡ rooted known.levels tree
  pub here : tree.id ≡ known.root
  pub owns : Owns w known.levels tree b.free
  pub some : 0 < length tree.elems
  pub long : length (list_of b.root) ≡ size known.levels tree

module _ {w : List ℕ} {known : Known} {b : Bag} (S : BagStands w b) (e : known ≡ known_of b) where
  pub is_rooted : b.root ≢ bare → Rooted w known b
  unfolding root_id levels_of list_of root_ids
  is_rooted n = go b.root b.free S e n
    where
      go : (r : Root) (f : List ℕ) → BagStands w (record { root = r; free = f }) → known ≡ known_of (record { root = r; free = f })
          → r ≢ bare → Rooted w known (record { root = r; free = f })
      go bare f S e n = absurd (n refl)
      go (rooted h t) f S e n =
          let l = flat-length h t S.fit.fit in
          subst (λ (k : Known). Rooted w k (record { root = rooted h t; free = f })) (sym e) (record {
            tree = t;
            is = refl;
            here = refl;
            owns = record { at = S.tree; fit = S.fit.fit; chain = S.chain; once = S.once; small = omega (arith, S.small) };
            some = S.fit.some;
            long = l;
          })

  pub is_bare : known.root ≡ 0 → b.root ≡ bare
  unfolding root_id
  is_bare z = go b.root S.tree (sym (ap (λ (k : Known). k.root) e) ∙ z)
    where
      go : (r : Root) → RootAt w r → root_id r ≡ 0 → r ≡ bare
      go bare A z = refl
      go (rooted h t) A z = absurd (omega (arith, A.here.inside.some))

  pub not_bare : known.root ≢ 0 → b.root ≢ bare
  unfolding root_id
  not_bare n q = n (ap (λ (k : Known). k.root) e ∙ ap root_id q)
