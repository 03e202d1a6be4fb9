-- What the check of a map promises of its results, in a window of the bytes before the map.
use Rattle.std.specs.Prelude.{◌≡◌, ℕ, ◌+◌, List}
use Rattle.rkyv_btree_portable.specs.Kind.{Kind}
use Rattle.rkyv_btree_portable.specs.declared.check.Window.{Window}
use Rattle.rkyv_btree_portable.specs.declared.refusal.Refusal.{Refusal}
use Rattle.rkyv_btree_format.specs.Spells.{Accepted, accepted_nodes}
use Rattle.rkyv_btree_verify.specs.Refusals.{RefusesMap}

module _ (K V : Kind) (E : ℕ) (b : List ℕ) (window : Window) (at : ℕ) where
  -- the bytes at a position mean some list, and leave this of the window
  abbrev pub IsMapIn : Window → Type 0
  IsMapIn left = (left.hi ≡ window.hi) × ((m : List (K.Value × V.Value)) × Accepted K V E b window.lo window.hi at left.lo m)

  -- they are no map there, for this fact
  abbrev pub RefusesMapIn : Refusal → Type 0
  RefusesMapIn e = RefusesMap K V E b window.lo window.hi at e

  -- where they are a map, a counter went on by the nodes of its tree
  abbrev pub CountsNodes : ℕ → ℕ → Type 0
  CountsNodes before after =
      (left : ℕ) (m : List (K.Value × V.Value)) (a : Accepted K V E b window.lo window.hi at left m)
      → after ≡ before + accepted_nodes K V E b window.lo window.hi at left m a
