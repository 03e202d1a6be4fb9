-- What ascending keys mean ascends.
use Rattle.std.proofs.Common.{◌≡◌, List, [], ◌∷◌, map}
use Rattle.std.specs.List.{AllByRecursion}
use Rattle.std.specs.List.Sorted.{IsStrictlySortedBy}
use Rattle.std.specs.declared.cmp.Ordering.{Ordering}
use Rattle.std.specs.declared.cmp.Ordering.TheVariants.{Less}
use Rattle.rkyv_btree_convert.proofs.StdMaps.{ascending_meant}
use Rattle.rkyv_btree_strict.proofs.strict_laws.std_maps_are_increasing.Goals as goal

module _ {T A : Type 0} (cmp : T → T → Ordering) (order : A → A → Ordering) (key : T → A) (ordered : (x y : T) → cmp x y ≡ order (key x) (key y)) where
  below : (x : T) (ks : List T) → AllByRecursion (λ y. cmp x y ≡ Less) ks → AllByRecursion (λ y. order (key x) y ≡ Less) (map key ks)
  below x [] h = tt
  below x (k ∷ ks) h = (rw (← ordered x k) h.0, below x ks h.1)

  keys_meant : (ks : List T) → IsStrictlySortedBy cmp ks → IsStrictlySortedBy order (map key ks)
  unfolding IsStrictlySortedBy
  keys_meant [] h = tt
  keys_meant (k ∷ ks) h = (below k ks h.0, keys_meant ks h.1)

pub returns-clause-maps : goal.returns-clause-maps
returns-clause-maps g c key value m alike sorted = ascending_meant g.T.Ord.cmp g.K.Portable.kind.order key value alike m sorted

pub returns-clause-sets : goal.returns-clause-sets
returns-clause-sets g c key ks alike sorted = keys_meant g.T.Ord.cmp g.K.Portable.kind.order key alike ks sorted
