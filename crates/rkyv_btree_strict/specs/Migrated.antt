-- Migration: the map of a view, made native and archived again.
use Rattle.std.specs.Prelude.{◌≡◌, ℕ, ◌≤◌, ◌⊎◌, List, ◌++◌, length, map, Result, Ok, Err}
use Rattle.std.specs.List.Sorted.{IsStrictlySortedBy}
use Rattle.std.specs.Map.{keys_of}
use Rattle.std.specs.Map.Iter.{TakesFirst, deref_pair}
use Rattle.std.specs.declared.cmp.Ordering.{Ordering}
use Rattle.rkyv_btree_writer.specs.Archiving.{Archival, Matches}
use Rattle.rkyv_btree_writing_laws.specs.Entries.{now_of}
use Rattle.rkyv_btree_writer.specs.declared.fault.EntryFault.{EntryFault}
use Rattle.rkyv_btree_writer.specs.declared.fault.Fault.{Fault}
use Rattle.rkyv_btree_writer.specs.declared.fault.Fault.TheVariants.{Memory, Entry}
use Rattle.rkyv_btree_writing_laws.specs.Image.{root_image}
use Rattle.rkyv_btree_writing_laws.specs.Kept.{OnlyAppended}
use Rattle.rkyv_btree_portable.specs.Kind.{Kind}
use Rattle.rkyv_btree_format.specs.Layout.{layout_of}
use Rattle.rkyv_btree_portable.specs.Rounding.{round_up}
use Rattle.rkyv_btree_writing_laws.specs.Serialising.{Built, BuildFault, RootFault}
use Rattle.rkyv_btree_writing_laws.specs.SmallestMaps.{IsSmallestArchive, entry_value}
use Rattle.rkyv_btree_writer.specs.Writing.{Writing, position, Wrote, last_end}
use Rattle.rkyv_btree_convert.specs.StdMaps.{OrdersAlike}
use Rattle.rkyv_btree_strict.specs.Strict.{IsStrictMap}

module _ {T U A B R S : Type 0} (cmp : T → T → Ordering) (K V : Kind) (KA : Archival T R) (VA : Archival U S)
    (model : List (T × U) → List (A × B)) (native : Result (List (A × B)) EntryFault) where
  -- these are the entries of the native map
  pub record AreNative (entries : List (T × U)) : Type 0 where
    pub made : native ≡ Ok (model entries)
    pub increase : IsStrictlySortedBy cmp (keys_of entries)

  -- between two states of a writer the tree of the native map was written, and then the map, at a position
  pub record Migrates (from : Writing) (at : ℕ) (to : Writing) : Type 0 where
    pub entries : List (T × U)
    pub are : AreNative entries
    pub root : ℕ
    pub mid : Writing
    pub built : Built (layout_of K V 5) KA VA from entries root mid
    pub smallest : IsSmallestArchive K V 5 KA VA from entries root mid
    pub went : OnlyAppended from mid
    pub wrote : Wrote mid (root_image (position mid) root (length entries)) to
    pub place : at ≡ round_up (position mid) 4
    pub few : length entries ≤ last_end
    pub end : position to ≤ last_end

  -- a buffer has a strict map at a position, which means the entries of the native map
  abbrev pub IsNativeStrict : Matches KA.kind K → Matches VA.kind V → List ℕ → ℕ → Type 0
  IsNativeStrict key value b at =
      (entries : List (T × U)) × AreNative entries × IsStrictMap K V 5 b at (map (entry_value K V 5 KA VA key value) entries)

  -- where native keys are ordered as what they mean, the bytes of the writer, after as many bytes as its base, are such a buffer
  abbrev pub MigratesToStrict : Writing → ℕ → Writing → Type 0
  MigratesToStrict from at to =
      (key : Matches KA.kind K) (value : Matches VA.kind V) → OrdersAlike cmp K.order (λ x. key.to (KA.meaning x))
      → (front : List ℕ) → length front ≡ from.base → IsNativeStrict key value (front ++ to.contents) at

  -- why no native map is made
  abbrev pub IsUnmade : {X : Type 0} → Fault X → Type 0
  IsUnmade (Entry fault) = native ≡ Err fault
  IsUnmade (Memory error) = Unit {0}
  IsUnmade _ = ⊥

  -- each fault's cause, and what it leaves: no native map is made; or its tree isn't built; or the map isn't written after it
  abbrev pub FailsToMigrate : {X : Type 0} → Writing → Fault X → Writing → Type 0
  FailsToMigrate {X} from fault to =
      (IsUnmade fault × (to ≡ from))
      ⊎ ((entries : List (T × U)) × AreNative entries
      × (BuildFault K V 5 KA VA now_of (TakesFirst deref_pair) {X = X} entries (length entries) from fault to
      ⊎ ((root : ℕ) × (mid : Writing) × Built (layout_of K V 5) KA VA from entries root mid × RootFault root (length entries) mid fault to)))
