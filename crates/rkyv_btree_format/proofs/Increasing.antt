-- Lists whose keys increase, one entry more at a time.
use Rattle.std.proofs.Common.{◌≡◌, List, [], ◌∷◌, ◌++◌}
use Rattle.std.specs.Cmp.{IsTotalOrder}
use Rattle.std.specs.List.{AllByRecursion}
use Rattle.std.specs.List.Sorted.{IsStrictlySortedBy}
use Rattle.std.specs.Map.{keys_of}
use Rattle.std.specs.declared.cmp.Ordering.{Ordering}
use Rattle.std.specs.declared.cmp.Ordering.TheVariants.{Less}
use Rattle.rkyv_btree_format.specs.Increasing.{Increasing}

-- what is less than a key is less than those that are greater than it
less_than_all : {A : Type 0} {order : A → A → Ordering} (total : IsTotalOrder order) (x y : A) (ks : List A) → order x y ≡ Less → AllByRecursion (λ k. order y k ≡ Less) ks → AllByRecursion (λ k. order x k ≡ Less) ks
less_than_all total x y [] less h = tt
less_than_all total x y (k ∷ ks) less h = (total.trans x y k less h.0, less_than_all total x y ks less h.1)

-- no entry, and one
pub nothing : {A : Type 0} (B : Type 0) (order : A → A → Ordering) → Increasing {A = A} {B = B} order []
unfolding IsStrictlySortedBy
nothing B order = tt

pub alone : {A B : Type 0} (order : A → A → Ordering) (e : A × B) → Increasing order (e ∷ [])
unfolding IsStrictlySortedBy
alone order e = (tt, tt)

module _ {A B : Type 0} {order : A → A → Ordering} (total : IsTotalOrder order) where
  all_snoc : (x : A) (front : List (A × B)) (last e : A × B) → AllByRecursion (λ k. order x k ≡ Less) (keys_of (front ++ last ∷ [])) → order last.0 e.0 ≡ Less
      → AllByRecursion (λ k. order x k ≡ Less) (keys_of ((front ++ last ∷ []) ++ e ∷ []))
  all_snoc x [] last e h less = (h.0, (total.trans x last.0 e.0 h.0 less, tt))
  all_snoc x (f ∷ front) last e h less = (h.0, all_snoc x front last e h.1 less)

  -- one more entry, with a greater key
  pub increasing_snoc : (front : List (A × B)) (last e : A × B) → Increasing order (front ++ last ∷ []) → order last.0 e.0 ≡ Less → Increasing order ((front ++ last ∷ []) ++ e ∷ [])
  unfolding IsStrictlySortedBy
  increasing_snoc [] last e h less = ((less, tt), (tt, tt))
  increasing_snoc (f ∷ front) last e h less = (all_snoc f.0 front last e h.0 less, increasing_snoc front last e h.1 less)
