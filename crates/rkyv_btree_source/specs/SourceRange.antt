-- What a range of a source yields, by the entries that it has left where the source has the bytes b.
use Rattle.std.specs.Prelude.{◌≡◌, ℕ, ◌*◌, ◌<◌, List, [], ◌∷◌, map, Option, Some, None, Result, Ok, Err}
use Rattle.std.specs.declared.cmp.Ordering.{Ordering}
use Rattle.std.specs.declared.ops.Bound.{Bound}
use Rattle.std.specs.declared.ops.Bound.TheVariants.{Unbounded}
use Rattle.rkyv_btree_format.specs.Increasing.{Increasing}
use Rattle.rkyv_btree_format.specs.Read.{entry_at, read_map}
use Rattle.rkyv_btree_portable.specs.Kind.{Kind}
use Rattle.rkyv_btree_portable.specs.declared.check.Portable
use Rattle.rkyv_btree_portable.specs.declared.refusal.Refusal.{Refusal}
use Rattle.rkyv_btree_source.specs.Reading.{IfRefused, IfUnread}
use Rattle.rkyv_btree_source.specs.declared.fault.SourceFault.{SourceFault}
use Rattle.rkyv_btree_source.specs.declared.range.SourceRange.{SourceRange}
use Rattle.rkyv_btree_source.specs.declared.source.ReadAt
use Rattle.rkyv_btree_source.specs.declared.unverified_source.UnverifiedSource.{UnverifiedSource}
use Rattle.rkyv_btree_source.specs.declared.walk.Brought.{Brought}
use Rattle.rkyv_btree_source.specs.mirror.Walking.{ReadsAs}
use Rattle.rkyv_btree_unverified.specs.EntriesFrom.{entries_between, past_place, places_from, until}
use Rattle.rkyv_btree_unverified.specs.Left.{most_entries, most_of}
use Rattle.rkyv_btree_unverified.specs.Walks.{Fails}
use Rattle.rkyv_btree_unverified.specs.Ways.{places_left}
use Rattle.rkyv_btree_unverified.specs.declared.walk.UnverifiedWalk.{UnverifiedWalk}
use Rattle.rkyv_btree_unverified.specs.mirror.Walked.{walk_most}
use Rattle.rkyv_btree_view.specs.Map.{IsMap}
use Rattle.rkyv_btree_view.specs.Range.{ByNativeBounds}
use Rattle.rkyv_btree_view.specs.View.{view_entry}
use Rattle.rkyv_btree_view.specs.declared.view.View.{View}
use Rattle.rkyv_btree_walk.specs.Bounds.{IsRun, OrderedFor, entries_within}
use Rattle.rkyv_btree_walk.specs.declared.archived_map.ArchivedMap

-- an upper bound of the entries that a walk still yields, whatever the bytes of its source are
abbrev pub turns_to_come : ℕ → Option UnverifiedWalk → ℕ
turns_to_come E None = E * 18446744073709551615
turns_to_come E (Some w) = walk_most E w

module _ (K V : Kind) (E : ℕ) (b : List ℕ) (at : ℕ) where
  module _ {T : Type 0} (compared : T → List ℕ → ℕ → Ordering) (low high : Bound T) where
    -- the places that a walk has left, or all from the low bound on before it has begun
    abbrev pub places_to_come : Option UnverifiedWalk → List (ℕ × ℕ)
    places_to_come None = places_from K V E compared b low at
    places_to_come (Some w) = places_left K V E b at w

    -- and the entries there, up to the first that is past the high bound
    abbrev pub entries_to_come : Option UnverifiedWalk → List (K.Value × V.Value)
    entries_to_come walk = map (entry_at K V E b) (until (past_place K V E compared b high) (places_to_come walk))

    -- these entries are those of a map at a position whose keys are between two bounds
    pub record AreBetween (entries : List (K.Value × V.Value)) : Type 0 where
      -- in any order of the keys, they go from the first that isn't before the low bound to the first past the high one
      pub between : entries ≡ entries_between K V E compared b low high at
      -- they are a contiguous run of all
      pub run : IsRun entries (read_map K V E b at)
      -- which are those of the map
      pub reads : (m : List (K.Value × V.Value)) → IsMap K V E b at m → read_map K V E b at ≡ m
      -- between no bounds they are all
      pub whole : low ≡ Unbounded → high ≡ Unbounded → entries ≡ read_map K V E b at
      -- if the keys increase, they are all that are within the bounds
      pub sorted : ByNativeBounds K compared low high (λ lo hi. Increasing K.order (read_map K V E b at) → entries ≡ entries_within lo hi (read_map K V E b at))
      -- so they are if the entries are ordered for both bounds
      pub within : ByNativeBounds K compared low high (λ lo hi. OrderedFor lo (read_map K V E b at) → OrderedFor hi (read_map K V E b at)
          → entries ≡ entries_within lo hi (read_map K V E b at))

  -- an upper bound of the entries that a walk still yields
  abbrev pub most_to_come : Option UnverifiedWalk → ℕ
  most_to_come None = most_entries K V E b
  most_to_come (Some w) = most_of K V E b w

  module _ {T : Type 0} (compared : T → List ℕ → ℕ → Ordering) (low high : Bound T) (KR VR : List ℕ → ℕ → ℕ → ℕ → Refusal → Type 0) (old new : Option UnverifiedWalk) (room : List ℕ) where
    -- an entry that is brought is the first that is to come, and fewer are
    pub record BringsFirst (e : Brought) : Type 0 where
      pub place : ℕ × ℕ
      pub places : places_to_come compared low high old ≡ place ∷ places_to_come compared low high new
      pub reads : ReadsAs K V E b room e place
      pub less : most_to_come new < most_to_come old

    -- what bringing the next entry gives
    abbrev pub BringsNext : {X : Type 0} → Result (Option Brought) (SourceFault X) → Type 0
    BringsNext (Ok None) = (places_to_come compared low high old ≡ []) × (places_to_come compared low high new ≡ [])
    BringsNext (Ok (Some e)) = BringsFirst e
    BringsNext (Err fault) = IfRefused (Fails K V E b KR VR at) fault × IfUnread (places_to_come compared low high new ≡ places_to_come compared low high old) fault

module _ {S M T R F K V : Type 0} {s : ReadAt.Ghosts S F} {g : ArchivedMap.Ghosts M K V} {m : Portable.Ghosts M} {k : Portable.Ghosts K} {v : Portable.Ghosts V} where
  -- the map of a range, with its source, and the range of keys
  abbrev pub source_of : SourceRange S M T R F K V s g m k v → UnverifiedSource S M K V g m k v
  source_of r = r.map

  abbrev pub bounds_of : SourceRange S M T R F K V s g m k v → R
  bounds_of r = r.range

  -- an upper bound of the entries that it still yields, on all sources
  abbrev pub turns_left : SourceRange S M T R F K V s g m k v → ℕ
  turns_left r = turns_to_come g.E r.walk

  module _ (b : List ℕ) where
    -- and on one of these bytes, as many as its leaves can have
    abbrev pub most_source_left : SourceRange S M T R F K V s g m k v → ℕ
    most_source_left r = most_to_come k.kind v.kind g.E b r.map.pos r.walk

    module _ (compared : T → List ℕ → ℕ → Ordering) (start_bound end_bound : R → Bound T) where
      -- the entries that it has left, in order
      abbrev pub source_left : SourceRange S M T R F K V s g m k v → List (k.kind.Value × v.kind.Value)
      source_left r = entries_to_come k.kind v.kind g.E b r.map.pos compared (start_bound r.range) (end_bound r.range) r.walk

      -- an entry that it yields is the first that is left, and fewer are left
      pub record YieldsFirst (r t : SourceRange S M T R F K V s g m k v) (e : View K k × View V v) : Type 0 where
        pub entries : source_left r ≡ view_entry e ∷ source_left t
        pub less : most_source_left t < most_source_left r

      module _ (KR VR : List ℕ → ℕ → ℕ → ℕ → Refusal → Type 0) (r t : SourceRange S M T R F K V s g m k v) where
        -- what is refused has a reason, the bytes are no map, and nothing is left
        pub record RefusesLast (e : Refusal) : Type 0 where
          pub fails : Fails k.kind v.kind g.E b KR VR r.map.pos e
          pub over : source_left t ≡ []

        -- a call of `next`: `None` if none was left, and none is left then. After a fault of reading all entries are left that were
        abbrev pub YieldsNext : {X : Type 0} → Result (Option (View K k × View V v)) (SourceFault X) → Type 0
        YieldsNext (Ok None) = (source_left r ≡ []) × (source_left t ≡ [])
        YieldsNext (Ok (Some e)) = YieldsFirst r t e
        YieldsNext (Err fault) = IfRefused RefusesLast fault × IfUnread (source_left t ≡ source_left r) fault
