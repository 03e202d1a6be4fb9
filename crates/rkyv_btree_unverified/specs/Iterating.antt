-- What iterators promise in bytes that nobody has validated. What one has left shows `of` the entries: themselves, or their keys.
use Rattle.std.specs.Iterator.{IsFinite}
use Rattle.std.specs.Prelude.{◌≡◌, ℕ, ◌*◌, ◌/◌, ◌≤◌, IfErr, IsOk, List, length, Result}
use Rattle.std.specs.declared.cmp.Ordering.{Ordering}
use Rattle.std.specs.declared.iter.Iterator
use Rattle.std.specs.declared.ops.Bound.{Bound}
use Rattle.std.specs.declared.ops.Bound.TheVariants.{Unbounded}
use Rattle.rkyv_btree_format.specs.Increasing.{Increasing}
use Rattle.rkyv_btree_portable.specs.Kind.{Kind}
use Rattle.rkyv_btree_format.specs.Layout.{layout_of, leaf_size}
use Rattle.rkyv_btree_format.specs.Read.{read_map}
use Rattle.rkyv_btree_portable.specs.declared.refusal.Refusal.{Refusal}
use Rattle.rkyv_btree_unverified.specs.EntriesFrom.{entries_between}
use Rattle.rkyv_btree_unverified.specs.UnverifiedIter.{Agrees, IfNoError, ShowsItems}
use Rattle.rkyv_btree_unverified.specs.Walks.{Fails, IsFaultless, WalkRefuses}
use Rattle.rkyv_btree_view.specs.Map.{IsMap}
use Rattle.rkyv_btree_view.specs.Range.{ByNativeBounds}
use Rattle.rkyv_btree_walk.specs.Bounds.{IsRun, OrderedFor, entries_within}

module _ (K V : Kind) (E : ℕ) (b : List ℕ) (at : ℕ) where
  -- an iterator is at the map at a position of these bytes
  pub record IsAtMap (bytes : List ℕ) (place entries : ℕ) : Type 0 where
    pub buffer : bytes ≡ b
    pub position : place ≡ at
    -- it lends no more entries than the leaves that fit into the bytes can have
    pub most : entries ≤ E * (length b / leaf_size (layout_of K V E))

module _ (K V : Kind) (E : ℕ) (KRefuses VRefuses : List ℕ → ℕ → ℕ → ℕ → Refusal → Type 0) (b : List ℕ) (at : ℕ) where
  -- a range begins, or it fails for a reason, and not on a map
  pub record BeginsRange {X : Type 0} (result : Result X Refusal) : Type 0 where
    pub refused : IfErr result (WalkRefuses K V E b KRefuses VRefuses at)
    pub accepts : (m : List (K.Value × V.Value)) → IsMap K V E b at m → IsOk result
    -- there the entries to which the pointers lead are those of the map
    pub reads : (m : List (K.Value × V.Value)) → IsMap K V E b at m → read_map K V E b at ≡ m

  module _ {S X Y : Type 0} (iterator : Iterator.Ghosts S (Result X Refusal)) (shows : X → Y) (of : List (K.Value × V.Value) → List Y) (start : S)
      (rest : List Y) where
    -- an iterator has all of the entries left to which the pointers lead
    pub record IteratesAll : Type 0 where
      -- on all bytes it ends
      pub ends : IsFinite (iterator.remaining start)
      -- its items are these entries, in order, to their end or up to an error
      pub whole : rest ≡ of (read_map K V E b at)
      pub agrees : Agrees iterator.next_gives (Fails K V E b KRefuses VRefuses at) shows start (of (read_map K V E b at))
      -- if no item is an error, nothing to which the pointers lead is at fault
      pub faultless : IfNoError iterator.next_gives start (IsFaultless K V E b at)
      -- on a map they are its entries, and no error
      pub yields : (m : List (K.Value × V.Value)) → IsMap K V E b at m → ShowsItems iterator.next_gives shows start (of m)
      pub entries : (m : List (K.Value × V.Value)) → IsMap K V E b at m → rest ≡ of m

    -- a range has those left that are between two bounds, if these are known
    pub record IteratesBetween {T : Type 0} (compared_at : T → List ℕ → ℕ → Ordering) (Known : Type 0) (low high : Bound T) : Type 0 where
      -- on all bytes it ends
      pub ends : IsFinite (iterator.remaining start)
      -- its items are these entries, in any order of their keys, to their end or up to an error
      pub left : Known → rest ≡ of (entries_between K V E compared_at b low high at)
      pub agrees : Known → Agrees iterator.next_gives (Fails K V E b KRefuses VRefuses at) shows start (of (entries_between K V E compared_at b low high at))
      -- they are a contiguous run of all
      pub run : IsRun rest (of (read_map K V E b at))
      -- between no bounds they are all
      pub whole : Known → low ≡ Unbounded → high ≡ Unbounded → rest ≡ of (read_map K V E b at)
      -- if the keys increase, they are all that are within the bounds
      pub sorted : Known → ByNativeBounds K compared_at low high (λ lo hi. Increasing K.order (read_map K V E b at)
          → rest ≡ of (entries_within lo hi (read_map K V E b at)))
      -- so they are if the entries are ordered for both bounds
      pub within : Known → ByNativeBounds K compared_at low high (λ lo hi. OrderedFor lo (read_map K V E b at) → OrderedFor hi (read_map K V E b at)
          → rest ≡ of (entries_within lo hi (read_map K V E b at)))
      -- on a map no item is an error
      pub yields : (m : List (K.Value × V.Value)) → IsMap K V E b at m → Known → ShowsItems iterator.next_gives shows start rest
