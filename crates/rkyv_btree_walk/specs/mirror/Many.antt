-- Searches for many keys side by side. This mirrors the code, which takes each of them down level by level.
use Rattle.std.specs.Prelude.{◌≡◌, ℕ, suc, ◌+◌, ◌<◌, List, Option, Some, None, slice_get, slice_index_or, Bool, false, ◌≤◌}
use Rattle.std.specs.declared.cmp.Ordering.{Ordering}
use Rattle.rkyv_btree_portable.specs.Kind.{Kind}
use Rattle.rkyv_btree_format.specs.Layout.{layout_of}
use Rattle.rkyv_btree_walk.specs.declared.many.Way.{Way}
use Rattle.rkyv_btree_walk.specs.declared.many.Way.TheVariants.{On, Found, Absent}
use Rattle.rkyv_btree_walk.specs.mirror.Node.{TreeStands, RunStands}
use Rattle.rkyv_btree_walk.specs.mirror.Search.{comparison_at, searched, searched_map}

-- the way of a number, of which there are sixteen
abbrev pub way_at : List Way → ℕ → Way
way_at ways i = slice_index_or ways i (On 0)

-- what holds of each of the first sixteen keys and its number
abbrev pub EachKey : {Q : Type 0} → List Q → (ℕ → Q → Type 0) → Type 0
EachKey {Q} keys Holds = (i : ℕ) (key : Q) → i < 16 → slice_get keys i ≡ Some key → Holds i key

-- a way has ended
abbrev pub HasEnded : Way → Type 0
HasEnded way = (p : ℕ) → way ≡ On p → ⊥

module _ (K V : Kind) (E : ℕ) (b : List ℕ) where
  -- a tree of at most so many levels is left of a way, or it ended at an entry that stands
  abbrev pub WayStands : ℕ → Way → Type 0
  WayStands levels (On p) = TreeStands K V E b levels p
  WayStands levels (Found p i) = RunStands K V E b p i (i + 1)
  WayStands levels Absent = Unit {0}

  -- what the search of that tree finds, or where the way ended
  abbrev pub way_finds : (K.Value → Ordering) → ℕ → Way → Option (ℕ × ℕ)
  way_finds compare levels (On p) = (searched (layout_of K V E) b (comparison_at K V E b compare) levels p).0
  way_finds compare levels (Found p i) = Some (p, i)
  way_finds compare levels Absent = None

  -- a way goes on in `new` a level below `old`, or has ended there
  pub record Steps {Q : Type 0} (Compares : (Q → K.Value → Ordering) → Type 0) (key : Q) (old new : Way) : Type 0 where
    pub stands : (levels : ℕ) → WayStands (suc levels) old → WayStands levels new
    pub finds : (levels : ℕ) → WayStands (suc levels) old → (c : Q → K.Value → Ordering) → Compares c
        → way_finds (c key) (suc levels) old ≡ way_finds (c key) levels new

-- the way of key number i, when the first `count` ways have taken their steps, and whether any of them goes on
pub record SoFar {W : Type 0} (Ended : W → Type 0) (Step : W → W → Type 0) (i count : ℕ) (going : Bool) (old new : W) : Type 0 where
  pub taken : i < count → Step old new
  pub left : count ≤ i → new ≡ old
  pub ended : going ≡ false → i < count → Ended new

-- a way that has so many levels left leads to what the search of the map at a position finds
pub record IsUnderWay (K V : Kind) (E : ℕ) (b : List ℕ) {Q : Type 0} (Compares : (Q → K.Value → Ordering) → Type 0) (at : ℕ) (key : Q) (levels : ℕ) (way : Way) : Type 0 where
  pub stands : WayStands K V E b levels way
  pub finds : (c : Q → K.Value → Ordering) → Compares c → (searched_map (layout_of K V E) b (comparison_at K V E b (c key)) at).0 ≡ way_finds K V E b (c key) levels way
