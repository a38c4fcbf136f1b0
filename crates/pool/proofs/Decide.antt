-- Whether a pool is sound is decided by its words: its one candidate is the bag that is read off them.
use mathlib.Core.Path.{◌≡◌, refl, sym, subst₂, ◌∙◌}
use mathlib.Core.List.{List, ◌++◌, List-discrete}
use mathlib.Core.Bool.{Bool, true, false, true≢false}
use mathlib.Core.Logic.Dec
use mathlib.Core.Logic.{◌⊎◌, inl, inr}
use Prim.Native.Nat.{ℕ, zero, suc, ◌+◌}
use native.Mathlib.Decide.{map_dec, dec_le, ℕ_discrete}
use lib.ListN.{length}
use Rattle.lists.specs.Lists.{from}
use Rattle.lists.proofs.All.{all_dec, all_at, all_of}
use Rattle.lists.proofs.Counts.{count-append, same_counts?}
use Rattle.model.specs.Tree.{Tree, none, Root, bare, rooted, Bag, root_ids}
use Rattle.model.specs.Fit.{Child, Fit, FitRoot}
use Rattle.pool.specs.Layout.{most_nodes, words}
use Rattle.pool.specs.Sound.{Lawful, Sound, nodes_in, fits, Sized}
use Rattle.pool.specs.Parts.{bag_at}
use Rattle.pool.proofs.Whole.{holds_parts}
use Rattle.pool.proofs.Sized.{nodes_in_lem}
use Rattle.pool.proofs.Read.{bag_read}

pub sized? : (w : List ℕ) → Sized w ⊎ (Sized w → ⊥)
sized? w = go (fits (length w)) refl
  where
    go : (t : Bool) → fits (length w) ≡ t → Sized w ⊎ (Sized w → ⊥)
    go true e = inl e
    go false e = inr (λ s. true≢false (sym s ∙ e))

-- ---- whether a bag is lawful

child? : (h : ℕ) → ((k : Tree h) → Dec (Fit h k)) → (k : Tree h) → Dec (Child h (Fit h) k)
child? h d k =
    map_dec (λ p. record { least = p.0; fit = p.1 }) (λ C. (C.least, C.fit)) (Dec.and (dec_le 15 (length k.elems)) (d k))

fit? : (h : ℕ) (t : Tree h) → Dec (Fit h t)
fit? zero t = map_dec (λ m. record { most = m }) (λ F. F.most) (dec_le (length t.elems) 31)
fit? (suc h) t =
    map_dec (λ p. record { most = p.0; one_more = p.1.0; each = all_at (none h) p.1.1 })
    (λ F. (F.most, (F.one_more, all_of (none h) t.kids F.each)))
    (Dec.and (dec_le (length t.elems) 31)
    (Dec.and (ℕ_discrete (length t.kids) (length t.elems + 1)) (all_dec (child? h (fit? h)) t.kids)))

root? : (r : Root) → Dec (FitRoot r)
root? bare = yes tt
root? (rooted h t) =
    map_dec (λ p. record { some = p.0; fit = p.1 }) (λ F. (F.some, F.fit)) (Dec.and (dec_le 1 (length t.elems)) (fit? h t))

lawful? : (p : ℕ) (b : Bag) → Dec (Lawful p b)
lawful? p b =
    let ks : List ℕ = root_ids b.root in
    map_dec (λ l. record { few = l.0; fit = l.1.0; once = λ k. sym (count-append k ks b.free) ∙ l.1.1 k })
    (λ L. (L.few, (L.fit, λ k. count-append k ks b.free ∙ L.once k)))
    (Dec.and (dec_le p most_nodes) (Dec.and (root? b.root) (same_counts? (ks ++ b.free) (from 1 p))))

-- ---- whether a pool is sound

pub sound? : (w : List ℕ) → Sound w ⊎ (Sound w → ⊥)
sound? w = go (lawful? n b) (List-discrete ℕ_discrete w (words n b))
  where
    n : ℕ
    n = nodes_in (length w)

    b : Bag
    b = bag_at n w

    read : Sound w → Lawful n b × (w ≡ words n b)
    read s =
        let H = s.1 in
        let e : H.nodes ≡ n = sym (nodes_in_lem (length w) H.nodes (holds_parts H).sized) in
        subst₂ (λ p c. Lawful p c × (w ≡ words p c)) e (bag_read H) (H.lawful, H.layout)

    go : Dec (Lawful n b) → Dec (w ≡ words n b) → Sound w ⊎ (Sound w → ⊥)
    go (yes L) (yes e) = inl (b, record { nodes = n; lawful = L; layout = e })
    go (no N) d = inr (λ s. N (read s).0)
    go (yes L) (no N) = inr (λ s. N (read s).1)
