-- What is known of a walk is a fact and no data, so an iterator can keep it.
use Rattle.std.proofs.Common.{◌≡◌, ℕ, List, [], ◌∷◌, Option}
use Rattle.std.proofs.Math.Bool.{Bool-set}
use Rattle.std.specs.Coded.{le_prop, Coded-set, coded_ℕ, coded_option, coded_list, coded×}
use Rattle.rkyv_btree_portable.specs.Kind.{Kind}
use Rattle.rkyv_btree_format.specs.Layout.{NodeLayout, layout_of}
use Rattle.rkyv_btree_format.specs.Spells.{IsNodeAt}
use Rattle.rkyv_btree_unverified.specs.Left.{left_of}
use Rattle.rkyv_btree_unverified.specs.mirror.Walked.{unverified_left, IsChain, IsWay, IsLeafRun, HasPhase, IsUnverifiedWalk, IsCounted, HasLeft}
use Rattle.rkyv_btree_unverified.specs.declared.walk.Phase.{Phase}
use Rattle.rkyv_btree_unverified.specs.declared.walk.Phase.TheVariants.{Descend, Advance, Over}
use Rattle.rkyv_btree_unverified.specs.declared.walk.UnverifiedWalk.{UnverifiedWalk}
use Rattle.rkyv_btree_unverified.specs.Walks.{IsFaultless}
use Rattle.rkyv_btree_unverified.specs.mirror.Faultless.{FaultlessLeft}
use Rattle.rkyv_btree_walk.specs.Nodes.{child_place}

leads-prop : (a b : Option ℕ) → IsProp (a ≡ b)
leads-prop a b = Coded-set (coded_option coded_ℕ) a b

number-prop : (a b : ℕ) → IsProp (a ≡ b)
number-prop a b = Coded-set coded_ℕ a b

module _ (s : NodeLayout) (b : List ℕ) where
  node-prop : (lo hi p kind size : ℕ) → IsProp (IsNodeAt s b lo hi p kind size)
  node-prop lo hi p kind size = hlevel (le_prop, number-prop)

  chain-prop : (hi : ℕ) (to : Option ℕ) (fs : List (ℕ × ℕ)) → IsProp (IsChain s b hi to fs)
  chain-prop hi to [] = hlevel
  chain-prop hi to (f ∷ fs) = let rest = chain-prop f.0 (child_place s b f.0 f.1) fs in hlevel (le_prop, leads-prop, node-prop, rest)

  way-prop : (at : ℕ) (fs : List (ℕ × ℕ)) → IsProp (IsWay s b at fs)
  way-prop at fs = hlevel (le_prop, number-prop, chain-prop)

  run-prop : (at : ℕ) (fs : List (ℕ × ℕ)) (p n : ℕ) → IsProp (IsLeafRun s b at fs p n)
  run-prop at fs p n = hlevel (le_prop, number-prop, leads-prop, node-prop)

nothing-prop : (K V : Kind) (E : ℕ) (b : List ℕ) (at : ℕ) → IsProp (IsFaultless K V E b at)
nothing-prop K V E b at = hlevel (le_prop, Bool-set)

module _ (K V : Kind) (E : ℕ) (b : List ℕ) (at : ℕ) (w : UnverifiedWalk) where
  phase-prop : (phase : Phase) → IsProp (HasPhase K V E b phase at w)
  phase-prop Descend = hlevel (le_prop, way-prop)
  phase-prop Advance = hlevel (le_prop, way-prop, run-prop)
  phase-prop Over = hlevel

  walk-prop : IsProp (IsUnverifiedWalk K V E b at w)
  walk-prop = phase-prop w.phase

  pub counted-prop : IsProp (IsCounted K V E b at w)
  counted-prop = hlevel (le_prop, walk-prop)

  pub left-prop : (all : List (ℕ × ℕ)) → IsProp (HasLeft K V E b at w all)
  left-prop all = Coded-set (coded_list (coded× coded_ℕ coded_ℕ)) (unverified_left (layout_of K V E) b at w) (left_of w all)

  pub faultless-prop : IsProp (FaultlessLeft K V E b at w → IsFaultless K V E b at)
  faultless-prop = let none = nothing-prop K V E b at in hlevel none
