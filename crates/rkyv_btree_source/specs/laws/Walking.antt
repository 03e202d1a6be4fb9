-- What is known of a walk in a source is a fact and no data, so a range can keep it.
use Rattle.std.proofs.Common.{ℕ, List, [], ◌∷◌, Option, Some, None, IfSome}
use Rattle.std.specs.Coded.{le_prop}
use Rattle.rkyv_btree_portable.specs.Kind.{Kind}
use Rattle.rkyv_btree_source.specs.Known.{Known}
use Rattle.rkyv_btree_source.specs.mirror.Walking.{AreLow, AreWalks, IsPlaced}
use Rattle.rkyv_btree_unverified.specs.declared.walk.UnverifiedWalk.{UnverifiedWalk}
use Rattle.rkyv_btree_unverified.specs.laws.Walked.{counted-prop}
use Rattle.rkyv_btree_unverified.specs.mirror.Walked.{IsCounted}

module _ (K V : Kind) (E : ℕ) where
  low-prop : (at : ℕ) (fs : List (ℕ × ℕ)) → IsProp (AreLow K V E at fs)
  low-prop at [] = hlevel
  low-prop at (f ∷ fs) = let rest = low-prop at fs in hlevel (le_prop, rest)

  pub placed-prop : (at : ℕ) (walk : Option UnverifiedWalk) → IsProp (IfSome walk (IsPlaced K V E at))
  placed-prop at None = hlevel
  placed-prop at (Some w) = hlevel (le_prop, low-prop)

  walk-prop : (b : List ℕ) (at : ℕ) (walk : Option UnverifiedWalk) → IsProp (IfSome walk (IsCounted K V E b at))
  walk-prop b at None = hlevel
  walk-prop b at (Some w) = counted-prop K V E b at w

  pub walks-prop : (known : Known) (at : ℕ) (walk : Option UnverifiedWalk) → IsProp (AreWalks K V E known at walk)
  walks-prop known at walk = let one : (b : List ℕ) → IsProp (IfSome walk (IsCounted K V E b at)) = λ b. walk-prop b at walk in hlevel one
