-- The current entry of a cursor along the entries of a map, and the entries that remain. Entries are given by their places.
use Rattle.std.specs.Prelude.{◌≡◌, ℕ, ◌+◌, ◌-◌, List, [], ◌∷◌, map, Option, Some, None, Bool, true, false}
use Rattle.std.specs.Borrow.{MutBor}
use Rattle.std.specs.Option.{option_map}
use Rattle.rkyv_btree_format.specs.Read.{entry_at}
use Rattle.rkyv_btree_portable.specs.declared.check.Portable
use Rattle.rkyv_btree_view.specs.Iter.{last_of}
use Rattle.rkyv_btree_walk.specs.EntryPlaces.{entry_places, place_of}
use Rattle.rkyv_btree_walk.specs.Remaining.{places_between}
use Rattle.rkyv_btree_seal.specs.declared.cursor.IterSeal.{IterSeal}
use Rattle.rkyv_btree_seal.specs.declared.range_cursor.RangeSeal.{RangeSeal}
use Rattle.rkyv_btree_walk.specs.declared.archived_map.ArchivedMap

-- a cursor keeps its buffer with all its bytes, and the position of its map
pub record SameBuffer (old : MutBor (List ℕ)) (from : ℕ) (new : MutBor (List ℕ)) (to : ℕ) : Type 0 where
  pub same_reference : new.ghost_name ≡ old.ghost_name
  pub bytes : new.now ≡ old.now
  pub position : to ≡ from

-- the first entry that remained is the current one; or none remained, and there is none
abbrev pub Advances : List (ℕ × ℕ) → List (ℕ × ℕ) → Option (ℕ × ℕ) → Bool → Type 0
Advances old new lent true = (e : ℕ × ℕ) × (old ≡ e ∷ new) × (lent ≡ Some e)
Advances old new lent false = (old ≡ []) × (new ≡ []) × (lent ≡ None)

module _ {M K V : Type 0} {g : ArchivedMap.Ghosts M K V} {m : Portable.Ghosts M} {k : Portable.Ghosts K} {v : Portable.Ghosts V} where
  -- the entries that remain of a cursor: as many of the map's last ones as it counts
  abbrev pub remaining_places : IterSeal M K V g m k v → List (ℕ × ℕ)
  remaining_places s = last_of (s.walk.behind + (s.walk.end - s.walk.next)) (entry_places k.kind v.kind g.E s.buf.now s.pos)

  -- its current entry, if it has one
  abbrev pub current_place : IterSeal M K V g m k v → Option (ℕ × ℕ)
  current_place s = option_map place_of s.lent

  -- the entries that remain of a cursor within bounds, and what they mean: those of the map from the first that its walk notes on, up to
  -- its stop
  abbrev pub range_remaining_places : RangeSeal M K V g m k v → List (ℕ × ℕ)
  range_remaining_places s = places_between k.kind v.kind g.E s.buf.now s.pos s.walk

  abbrev pub range_remaining_entries : RangeSeal M K V g m k v → List (k.kind.Value × v.kind.Value)
  range_remaining_entries s = map (entry_at k.kind v.kind g.E s.buf.now) (range_remaining_places s)

  -- its current entry, if it has one
  abbrev pub range_current_place : RangeSeal M K V g m k v → Option (ℕ × ℕ)
  range_current_place s = option_map place_of s.lent
