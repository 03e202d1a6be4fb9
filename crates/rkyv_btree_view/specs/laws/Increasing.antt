-- Lookups where keys strictly increase: then a cut is an ordered comparison, and no two keys are equal to one query.
use Rattle.std.specs.Prelude.{◌≡◌, zero, suc, List, [], ◌∷◌, map, Option, Some, None}
use Rattle.std.specs.List.{All, AllByRecursion}
use Rattle.std.specs.List.Sorted.{IsStrictlySortedBy}
use Rattle.std.specs.declared.cmp.Ordering.{Ordering}
use Rattle.std.specs.declared.cmp.Ordering.TheVariants.{Less, Equal, Greater}
use Rattle.std.proofs.Common.{refl, sym, ap, ◌∙◌, inl, inr, arith}
use Rattle.rkyv_btree_shape.specs.Tree.{Tree, list}
use Rattle.rkyv_btree_walk.specs.Search.{IsSearch, OrderedBy, AnyHit, IsHit}
use Rattle.rkyv_btree_view.specs.Lookup.{Only}
use Rattle.rkyv_btree_view.specs.Query.{IsCut}

module _ {Y A : Type 0} (order : A → A → Ordering) (key : Y → A) (comparison : A → Ordering) (cut : IsCut order comparison) where
  abbrev at : Y → Ordering
  at e = comparison (key e)

  -- after a key to which the query isn't past it is before all
  all_less : (x : Y) (ys : List Y) → (at x ≡ Greater → ⊥) → AllByRecursion (λ k. order (key x) k ≡ Less) (map key ys) → All (λ y. at y ≡ Less) ys
  all_less x [] low h i d less = absurd (omega arith)
  all_less x (y ∷ ys) low h zero d less = elim (cut.less (key x) (key y) h.0) [ inl past ↦ absurd (low past) | inr before ↦ before ]
  all_less x (y ∷ ys) low h (suc i) d less = all_less x ys low h.1 i d (omega arith)

  none : (P : Y → Type 0) → All P []
  none P i d less = absurd (omega arith)

  one : (P : Y → Type 0) (x : Y) → P x → All P (x ∷ [])
  one P x p zero d less = p
  one P x p (suc i) d less = absurd (omega arith)

  more : (P : Y → Type 0) (x : Y) (xs : List Y) → P x → All P xs → All P (x ∷ xs)
  more P x xs p all zero d less = p
  more P x xs p all (suc i) d less = all i d (omega arith)

  pub increasing_ordered : (m : List Y) → IsStrictlySortedBy order (map key m) → OrderedBy at m
  unfolding IsStrictlySortedBy
  increasing_ordered [] h = ([], [], [], refl, none _, none _, none _)
  increasing_ordered (x ∷ xs) h =
      elim (comparison (key x)) as (λ o. comparison (key x) ≡ o → OrderedBy at (x ∷ xs)) [
        | Less ↦ λ e. ([], [], x ∷ xs, refl, none _, none _, more (λ y. at y ≡ Less) x xs e (all_less x xs (λ g. cc) h.0))
        | Equal ↦ λ e. ([], x ∷ [], xs, refl, none _, one (λ y. at y ≡ Equal) x e, all_less x xs (λ g. cc) h.0)
        | Greater ↦ λ e. let r = increasing_ordered xs h.1 in (x ∷ r.0, r.1, r.2, ap (λ zs. x ∷ zs) r.3, more (λ y. at y ≡ Greater) x r.0 e r.4, r.5, r.6)
      ] refl

  -- two entries whose keys are equal to the query are one
  pub only_one : (m : List Y) → IsStrictlySortedBy order (map key m) → (x y : Y) → IsHit at m x → IsHit at m y → x ≡ y
  unfolding IsStrictlySortedBy
  only_one [] h x y p q = absurd (let l = p.2 in omega arith)
  only_one (z ∷ m) h x y (e, zero, l, i) (f, zero, k, j) = sym (i z) ∙ j z
  only_one (z ∷ m) h x y (e, zero, l, i) (f, suc n, k, j) =
      let same : z ≡ x = i z in
      absurd (let less = all_less z m (λ g. let d = rw same at g in cc) h.0 n z (omega arith) in let is = j z in cc)
  only_one (z ∷ m) h x y (e, suc n, l, i) (f, zero, k, j) =
      let same : z ≡ y = j z in
      absurd (let less = all_less z m (λ g. let d = rw same at g in cc) h.0 n z (omega arith) in let is = i z in cc)
  only_one (z ∷ m) h x y (e, suc n, l, i) (f, suc o, k, j) = only_one m h.1 x y (e, n, omega arith, i) (f, o, omega arith, j)

  hit_found : {X : Type 0} (means : X → Y) (t : Tree X) (found : Option Y) → IsSearch at means t found → IsStrictlySortedBy order (map key (map means (list t))) → (y : Y) → IsHit at (map means (list t)) y → found ≡ Some y
  hit_found means t None a h y hit =
      let any : AnyHit at (map means (list t)) = (hit.1, hit.2, λ d. rw (hit.3 d) hit.0) in
      absurd (let there = (a.complete (increasing_ordered (map means (list t)) h)).1 any in cc there)
  hit_found means t (Some x) a h y hit = ap Some (only_one (map means (list t)) h x y a.hit hit)

  -- so what a lookup finds is the only entry whose key is equal to the query, and where it finds nothing there is none
  pub increasing_finds : {X : Type 0} (means : X → Y) (t : Tree X) (found : Option Y) → IsSearch at means t found → IsStrictlySortedBy order (map key (map means (list t))) → Only at (map means (list t)) found
  increasing_finds means t found a h = record { hit = a.hit; alone = hit_found means t found a h }
