-- What many lookups have left in bytes that nobody has validated.
use Rattle.std.specs.List.{AllZip}
use Rattle.std.specs.Prelude.{◌≡◌, ℕ, ◌+◌, List, ◌++◌, drop, length, map, take, Option, Result}
use Rattle.std.specs.declared.cmp.Ordering.{Ordering}
use Rattle.rkyv_btree_portable.specs.declared.refusal.Refusal.{Refusal}
use Rattle.rkyv_btree_portable.specs.declared.check.Portable
use Rattle.rkyv_btree_walk.specs.declared.archived_map.ArchivedMap
use Rattle.rkyv_btree_unverified.specs.Ends.{result_of}
use Rattle.rkyv_btree_unverified.specs.Lookups.{LookupGives}
use Rattle.rkyv_btree_unverified.specs.UnverifiedLookups.{Shows}
use Rattle.rkyv_btree_unverified.specs.Steps.{key_place, value_place}
use Rattle.rkyv_btree_unverified.specs.declared.get_many.UnverifiedEntryLookups.{UnverifiedEntryLookups}
use Rattle.rkyv_btree_unverified.specs.declared.get_many.UnverifiedKeyLookups.{UnverifiedKeyLookups}
use Rattle.rkyv_btree_unverified.specs.declared.get_many.UnverifiedLookups.{UnverifiedLookups}
use Rattle.rkyv_btree_view.specs.Lookup.{ByNative}
use Rattle.rkyv_btree_view.specs.declared.view.View.{View}

module _ {M T K V : Type 0} {g : ArchivedMap.Ghosts M K V} {m : Portable.Ghosts M} {k : Portable.Ghosts K} {v : Portable.Ghosts V} where
  -- of so many keys an iterator has the results left
  abbrev pub count_left : UnverifiedEntryLookups M T K V g m k v → ℕ
  count_left s = s.left + length s.keys.now

  abbrev pub lookups_left : UnverifiedLookups M T K V g m k v → ℕ
  lookups_left s = count_left s.entries

  abbrev pub key_lookups_left : UnverifiedKeyLookups M T K V g m k v → ℕ
  key_lookups_left s = count_left s.entries

  -- what the searches found that an iterator holds, in order
  abbrev pub found_held : UnverifiedEntryLookups M T K V g m k v → List (Result (Option (ℕ × ℕ)) Refusal)
  found_held s = map result_of (take s.left (drop s.next s.ways))

  module _ (compared_at : T → List ℕ → ℕ → Ordering) (KRefuses VRefuses : List ℕ → ℕ → ℕ → ℕ → Refusal → Type 0) where
    -- these are left: what it holds, and what lookups give of the keys that aren't searched yet
    abbrev pub AreFound : UnverifiedEntryLookups M T K V g m k v → List (Result (Option (ℕ × ℕ)) Refusal) → Type 0
    AreFound s found =
        (later : List (Result (Option (ℕ × ℕ)) Refusal)) × (found ≡ found_held s ++ later)
        × AllZip (λ key end. ByNative k.kind compared_at key (λ comparison. LookupGives k.kind v.kind g.E s.map.buf.now comparison KRefuses VRefuses s.map.pos end)) s.keys.now later

    -- the items that are left show this
    abbrev pub AreLookups : UnverifiedLookups M T K V g m k v → List (Result (Option (View V v)) Refusal) → Type 0
    AreLookups s items =
        (found : List (Result (Option (ℕ × ℕ)) Refusal)) × AreFound s.entries found
        × AllZip (Shows k.kind v.kind g.E s.entries.map.buf.now (value_place k.kind v.kind g.E) (λ e. e.1)) found items

    abbrev pub AreKeyLookups : UnverifiedKeyLookups M T K V g m k v → List (Result (Option (View K k)) Refusal) → Type 0
    AreKeyLookups s items =
        (found : List (Result (Option (ℕ × ℕ)) Refusal)) × AreFound s.entries found
        × AllZip (Shows k.kind v.kind g.E s.entries.map.buf.now (key_place k.kind v.kind g.E) (λ e. e.0)) found items
