-- Strict maps: accepted maps whose keys increase.
use Rattle.std.specs.Prelude.{◌≡◌, ℕ, List}
use Rattle.rkyv_btree_portable.specs.Kind.{Kind}
use Rattle.rkyv_btree_portable.specs.declared.refusal.Refusal.{Refusal}
use Rattle.rkyv_btree_portable.specs.declared.refusal.Refusal.TheVariants.{OutOfOrder}
use Rattle.rkyv_btree_verify.specs.Refusals.{RefusesMap}
use Rattle.rkyv_btree_format.specs.Spells.{Accepted}
use Rattle.rkyv_btree_portable.specs.declared.check.Window.{Window}
use Rattle.rkyv_btree_format.specs.Increasing.{Increasing, IsOutOfOrder}
use Rattle.rkyv_btree_view.specs.Map.{IsMap}

module _ (K V : Kind) (E : ℕ) (b : List ℕ) where
  -- the refusal of the bytes at a position as a strict map, in the window from lo to hi: that of a map, or of an entry that is
  -- out of order in one
  pub data RefusesStrict (lo hi at : ℕ) : Refusal → Type 0 where
    no_map : {e : Refusal} → RefusesMap K V E b lo hi at e → RefusesStrict lo hi at e
    out_of_order : {left index : ℕ} (m : List (K.Value × V.Value)) → Accepted K V E b lo hi at left m → IsOutOfOrder K.order m index
        → RefusesStrict lo hi at (OutOfOrder index)

  -- in a window, the bytes at a position are a map whose keys increase, and leave this of the window
  abbrev pub IsStrictIn : Window → ℕ → Window → Type 0
  IsStrictIn window at left =
      (left.hi ≡ window.hi) × ((m : List (K.Value × V.Value)) × Accepted K V E b window.lo window.hi at left.lo m × Increasing K.order m)

  -- in the window of all that comes before it, the bytes at a position are a map of these entries, whose keys increase
  pub record IsStrictMap (at : ℕ) (m : List (K.Value × V.Value)) : Type 0 where
    pub map : IsMap K V E b at m
    pub increasing : Increasing K.order m
