-- What an iterator over a range of keys lends in bytes that nobody has validated: the keys of the entries that one over entries lends.
use Rattle.std.specs.Prelude.{◌≡◌, ℕ, List, map, Option, Result}
use Rattle.std.specs.declared.cmp.Ordering.{Ordering}
use Rattle.std.specs.declared.ops.Bound.{Bound}
use Rattle.rkyv_btree_portable.specs.declared.refusal.Refusal.{Refusal}
use Rattle.rkyv_btree_portable.specs.declared.check.Portable
use Rattle.rkyv_btree_walk.specs.declared.archived_map.ArchivedMap
use Rattle.rkyv_btree_unverified.specs.UnverifiedKeys.{key_item}
use Rattle.rkyv_btree_unverified.specs.UnverifiedRange.{range_buffer_of, range_position_of, key_range, unverified_range_left, most_range_left, range_turns_left, StepsRange}
use Rattle.rkyv_btree_unverified.specs.declared.range_keys.UnverifiedRangeKeys.{UnverifiedRangeKeys}
use Rattle.rkyv_btree_view.specs.declared.view.View.{View}

module _ {M T R K V : Type 0} {g : ArchivedMap.Ghosts M K V} {m : Portable.Ghosts M} {k : Portable.Ghosts K} {v : Portable.Ghosts V} where
  -- the buffer along which an iterator goes, and the position of the map in it
  abbrev pub range_key_buffer_of : UnverifiedRangeKeys M T R K V g m k v → List ℕ
  range_key_buffer_of s = range_buffer_of s.entries

  abbrev pub range_key_position_of : UnverifiedRangeKeys M T R K V g m k v → ℕ
  range_key_position_of s = range_position_of s.entries

  -- an upper bound of the keys that it still lends, and of the items
  abbrev pub most_range_keys_left : UnverifiedRangeKeys M T R K V g m k v → ℕ
  most_range_keys_left s = most_range_left s.entries

  abbrev pub range_key_turns_left : UnverifiedRangeKeys M T R K V g m k v → ℕ
  range_key_turns_left s = range_turns_left s.entries

  -- the range of keys that it lends
  abbrev pub set_key_range : UnverifiedRangeKeys M T R K V g m k v → R
  set_key_range s = key_range s.entries

  -- of the keys to which the pointers lead, those of the range that an iterator has left, in order
  abbrev pub unverified_range_keys_left : (T → List ℕ → ℕ → Ordering) → (R → Bound T) → UnverifiedRangeKeys M T R K V g m k v → List k.kind.Value
  unverified_range_keys_left compared end_bound s = map (λ e. e.0) (unverified_range_left compared end_bound s.entries)

  -- a call of `next`, with its item
  pub record StepsRangeKeys (compared : T → List ℕ → ℕ → Ordering) (end_bound : R → Bound T) (has_bounds : R → Type 0) (KR VR : List ℕ → ℕ → ℕ → ℕ → Refusal → Type 0) (s : UnverifiedRangeKeys M T R K V g m k v) (item : Option (Result (View K k) Refusal)) (t : UnverifiedRangeKeys M T R K V g m k v) : Type 0 where
    pub entry : Option (Result (View K k × View V v) Refusal)
    pub steps : StepsRange compared end_bound has_bounds KR VR s.entries entry t.entries
    pub key : item ≡ key_item entry
