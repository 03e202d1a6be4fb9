-- What an iterator over a range of the entries of bytes that nobody has validated lends.
use Rattle.std.specs.Prelude.{◌≡◌, ℕ, ◌<◌, List, [], ◌∷◌, map, false, Option, Some, None, Result, Ok, Err}
use Rattle.std.specs.declared.cmp.Ordering.{Ordering}
use Rattle.std.specs.declared.ops.Bound.{Bound}
use Rattle.rkyv_btree_format.specs.Read.{entry_at}
use Rattle.rkyv_btree_portable.specs.declared.refusal.Refusal.{Refusal}
use Rattle.rkyv_btree_portable.specs.declared.check.Portable
use Rattle.rkyv_btree_walk.specs.declared.archived_map.ArchivedMap
use Rattle.rkyv_btree_unverified.specs.EntriesFrom.{is_past_place, past_place, until}
use Rattle.rkyv_btree_unverified.specs.Left.{most_of, turns_of}
use Rattle.rkyv_btree_unverified.specs.Steps.{entry_places, places}
use Rattle.rkyv_btree_unverified.specs.Walks.{IsReachedEntry, WalkRefuses, NoMap}
use Rattle.rkyv_btree_unverified.specs.Ways.{places_left}
use Rattle.rkyv_btree_unverified.specs.declared.range.UnverifiedRange.{UnverifiedRange}
use Rattle.rkyv_btree_unverified.specs.declared.walk.Phase.TheVariants.{Over}
use Rattle.rkyv_btree_view.specs.View.{view_entry}
use Rattle.rkyv_btree_view.specs.declared.view.View.{View}

module _ {M T R K V : Type 0} {g : ArchivedMap.Ghosts M K V} {m : Portable.Ghosts M} {k : Portable.Ghosts K} {v : Portable.Ghosts V} where
  -- the buffer along which an iterator goes, and the position of the map in it
  abbrev pub range_buffer_of : UnverifiedRange M T R K V g m k v → List ℕ
  range_buffer_of s = s.buf.now

  abbrev pub range_position_of : UnverifiedRange M T R K V g m k v → ℕ
  range_position_of s = s.pos

  -- the range of keys that it lends
  abbrev pub key_range : UnverifiedRange M T R K V g m k v → R
  key_range s = s.range

  -- an upper bound of the entries that it still lends, and of the items
  abbrev pub most_range_left : UnverifiedRange M T R K V g m k v → ℕ
  most_range_left s = most_of k.kind v.kind g.E s.buf.now s.walk

  abbrev pub range_turns_left : UnverifiedRange M T R K V g m k v → ℕ
  range_turns_left s = turns_of k.kind v.kind g.E s.buf.now s.walk

  -- it is over: only `None` follows
  abbrev pub IsRangeOver : UnverifiedRange M T R K V g m k v → Type 0
  IsRangeOver s = s.walk.phase ≡ Over

  module _ (compared : T → List ℕ → ℕ → Ordering) (end_bound : R → Bound T) where
    -- of the entries to which the pointers lead, those of the range that an iterator has left, in order
    abbrev pub unverified_range_left : UnverifiedRange M T R K V g m k v → List (k.kind.Value × v.kind.Value)
    unverified_range_left s = map (entry_at k.kind v.kind g.E s.buf.now)
        (until (past_place k.kind v.kind g.E compared s.buf.now (end_bound s.range)) (places_left k.kind v.kind g.E s.buf.now s.pos s.walk))

    module _ (has_bounds : R → Type 0) where
      -- an entry that it lends is the first that is left, at the places of an entry that is reached, and not past the end of the
      -- range; less is left
      pub record RangeLends (s : UnverifiedRange M T R K V g m k v) (e : View K k × View V v) (t : UnverifiedRange M T R K V g m k v) : Type 0 where
        pub buffer : (e.0.buf.now ≡ s.buf.now) × (e.1.buf.now ≡ s.buf.now)
        pub entries : has_bounds s.range → unverified_range_left s ≡ view_entry e ∷ unverified_range_left t
        pub place : ℕ × ℕ
        pub reached : IsReachedEntry k.kind v.kind g.E s.buf.now s.pos place
        pub places : places e ≡ entry_places k.kind v.kind g.E place
        pub within : has_bounds s.range → is_past_place compared e.0.buf.now (end_bound s.range) e.0.pos ≡ false
        pub less : most_range_left t < most_range_left s

      -- at the end of a range nothing is left
      pub record RangeEnds (s t : UnverifiedRange M T R K V g m k v) : Type 0 where
        pub entries : has_bounds s.range → unverified_range_left s ≡ []
        pub over : IsRangeOver t

      module _ (KR VR : List ℕ → ℕ → ℕ → ℕ → Refusal → Type 0) where
        -- an error has its reason, the bytes are no map, and it is the last item
        pub record RangeFails (s : UnverifiedRange M T R K V g m k v) (e : Refusal) (t : UnverifiedRange M T R K V g m k v) : Type 0 where
          pub refuses : WalkRefuses k.kind v.kind g.E s.buf.now KR VR s.pos e
          pub no_map : NoMap k.kind v.kind g.E s.buf.now s.pos
          pub over : IsRangeOver t

        abbrev pub RangeItemGives : UnverifiedRange M T R K V g m k v → Option (Result (View K k × View V v) Refusal) → UnverifiedRange M T R K V g m k v → Type 0
        RangeItemGives s None t = RangeEnds s t
        RangeItemGives s (Some (Err e)) t = RangeFails s e t
        RangeItemGives s (Some (Ok e)) t = RangeLends s e t

        -- a call of `next`, with its item
        pub record StepsRange (s : UnverifiedRange M T R K V g m k v) (item : Option (Result (View K k × View V v) Refusal)) (t : UnverifiedRange M T R K V g m k v) : Type 0 where
          pub buffer : t.buf.now ≡ s.buf.now
          pub position : t.pos ≡ s.pos
          pub range : t.range ≡ s.range
          pub gives : RangeItemGives s item t
          pub stays_over : IsRangeOver s → (item ≡ None) × IsRangeOver t
