-- What an iterator over keys lends in bytes that nobody has validated: the keys of the entries that one over entries lends.
use Rattle.std.specs.Prelude.{◌≡◌, ℕ, List, map, Option, Result}
use Rattle.std.specs.Option.{option_map}
use Rattle.std.specs.Result.{result_map_both}
use Rattle.rkyv_btree_portable.specs.declared.refusal.Refusal.{Refusal}
use Rattle.rkyv_btree_portable.specs.declared.check.Portable
use Rattle.rkyv_btree_walk.specs.declared.archived_map.ArchivedMap
use Rattle.rkyv_btree_unverified.specs.UnverifiedIter.{buffer_of, position_of, entries_left, most_left, turns_left, StepsUnverified}
use Rattle.rkyv_btree_unverified.specs.declared.keys.UnverifiedKeys.{UnverifiedKeys}
use Rattle.rkyv_btree_view.specs.declared.view.View.{View}

-- the key of an item of an iterator over entries
abbrev pub key_item : {X Y : Type 0} → Option (Result (X × Y) Refusal) → Option (Result X Refusal)
key_item item = option_map (result_map_both (λ e. e.0) (λ r. r)) item

module _ {M K V : Type 0} {g : ArchivedMap.Ghosts M K V} {m : Portable.Ghosts M} {k : Portable.Ghosts K} {v : Portable.Ghosts V} where
  -- the buffer along which an iterator goes, and the position of the map in it
  abbrev pub key_buffer_of : UnverifiedKeys M K V g m k v → List ℕ
  key_buffer_of s = buffer_of s.entries

  abbrev pub key_position_of : UnverifiedKeys M K V g m k v → ℕ
  key_position_of s = position_of s.entries

  -- of the keys to which the pointers lead, those that an iterator has left, in order
  abbrev pub unverified_keys_left : UnverifiedKeys M K V g m k v → List k.kind.Value
  unverified_keys_left s = map (λ e. e.0) (entries_left s.entries)

  -- an upper bound of the keys that it still lends, and of the items
  abbrev pub most_keys_left : UnverifiedKeys M K V g m k v → ℕ
  most_keys_left s = most_left s.entries

  abbrev pub key_turns_left : UnverifiedKeys M K V g m k v → ℕ
  key_turns_left s = turns_left s.entries

  -- a call of `next`, with its item
  pub record StepsKeys (KR VR : List ℕ → ℕ → ℕ → ℕ → Refusal → Type 0) (s : UnverifiedKeys M K V g m k v) (item : Option (Result (View K k) Refusal)) (t : UnverifiedKeys M K V g m k v) : Type 0 where
    pub entry : Option (Result (View K k × View V v) Refusal)
    pub steps : StepsUnverified KR VR s.entries entry t.entries
    pub key : item ≡ key_item entry
