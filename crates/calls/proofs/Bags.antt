-- A bag that a pool holds: it stands there for the tree functions; and what they leave is held again.
use mathlib.Core.Path.{◌≡◌, ◌∙◌}
use mathlib.Core.List.{List}
use Prim.Native.Nat.{ℕ, ◌*◌, ◌≤◌, ◌<◌}
use native.Mathlib.Omega.{arith}
use lib.ListN.{length, set, length-set}
use lib.Seq.{get_or-set_same, get_or-set_other}
use Rattle.model.specs.Tree.{Root, bare, rooted, Bag, list_of, root_ids}
use Rattle.model.specs.Fit.{FitRoot}
use Rattle.model.proofs.Nodes.{flat-length}
use Rattle.model.proofs.Bounds.{size_most}
use Rattle.model.proofs.Bags.{Edited}
use Rattle.pool.specs.Layout.{root_word, chain_word, root_id}
use Rattle.pool.specs.Sound.{Lawful, Holds}
use Rattle.pool.proofs.Store.{block-head}
use Rattle.pool.proofs.Whole.{unique, nodes_of, holds_parts, parts_holds}
use Rattle.pool.proofs.Frame.{root_frame, chain_frame}
use Rattle.tree.specs.declared.Known.{Known}
use Rattle.tree.specs.Stands.{BagStands, Became}

most_elements : (r : Root) → FitRoot r → length (list_of r) ≤ 31 * length (root_ids r)
unfolding list_of root_ids
most_elements bare F = omega arith
most_elements (rooted h t) F = omega (arith, flat-length h t F.fit, size_most h t F.fit)

pub holds_stands : {w : List ℕ} {b : Bag} → Holds w b → BagStands w b
holds_stands {b = b} H =
    let P = holds_parts H in
    let L = H.lawful in
    record {
      tree = P.tree;
      fit = L.fit;
      chain = P.chain;
      once = unique L;
      small = omega (arith, most_elements b.root L.fit, nodes_of L, L.few);
    }

pub root_inside : {w : List ℕ} {b : Bag} → Holds w b → root_word < length w
root_inside H = omega (arith, (holds_parts H).sized)

pub lawful_edited : {p : ℕ} {b d : Bag} {xs : List ℕ} → Lawful p b → Edited b xs d → Lawful p d
lawful_edited L E = record { few = L.few; fit = E.fit; once = λ k. E.nodes k ∙ L.once k }

-- the bag d stands there but for the root word, and now that is stored
pub became_holds : {w w' xs : List ℕ} {b d : Bag} {k : Known} → Holds w b → Edited b xs d → Became w w' b d k
    → Holds (set w' root_word (root_id d.root)) d
became_holds {w} {w'} {b = b} {d} H E B =
    let P = holds_parts H in
    let v : ℕ = root_id d.root in
    let u : List ℕ = set w' root_word v in
    let long : length u ≡ length w' = length-set w' root_word v in
    parts_holds (lawful_edited H.lawful E) (record {
      sized = long ∙ B.untouched.long ∙ P.sized;
      top = get_or-set_same w' root_word v 0 (omega (arith, P.sized, B.untouched.long));
      tree = root_frame w' u long d.root (λ k l. block-head w' k root_word v (omega arith)) B.tree;
      chain = chain_frame w' u long d.free (λ k l. block-head w' k root_word v (omega arith))
          (get_or-set_other w' root_word chain_word v 0 (omega arith)) B.chain;
    })
