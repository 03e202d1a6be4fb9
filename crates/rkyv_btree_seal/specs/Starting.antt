-- What a cursor is before its first entry: along all entries of a map, and along a contiguous run of them.
use Rattle.std.specs.Prelude.{◌≡◌, ℕ, List, None}
use Rattle.rkyv_btree_portable.specs.declared.check.Portable
use Rattle.rkyv_btree_walk.specs.Bounds.{IsRun}
use Rattle.rkyv_btree_walk.specs.EntryPlaces.{entry_places}
use Rattle.rkyv_btree_walk.specs.declared.archived_map.ArchivedMap
use Rattle.rkyv_btree_seal.specs.Cursor.{current_place, range_current_place, range_remaining_places, remaining_places}
use Rattle.rkyv_btree_seal.specs.declared.cursor.IterSeal.{IterSeal}
use Rattle.rkyv_btree_seal.specs.declared.range_cursor.RangeSeal.{RangeSeal}

module _ {M K V : Type 0} {g : ArchivedMap.Ghosts M K V} {m : Portable.Ghosts M} {k : Portable.Ghosts K} {v : Portable.Ghosts V} (b : List ℕ) (at : ℕ) where
  -- a cursor along the map at a position of these bytes, before its first entry
  pub record IsBeforeFirst (cursor : IterSeal M K V g m k v) : Type 0 where
    pub buffer : cursor.buf.now ≡ b
    pub position : cursor.pos ≡ at
    -- all entries remain, and none is lent
    pub remaining : remaining_places cursor ≡ entry_places k.kind v.kind g.E b at
    pub current : current_place cursor ≡ None

  -- the same along a contiguous run of its entries
  pub record IsBeforeRun (cursor : RangeSeal M K V g m k v) : Type 0 where
    pub buffer : cursor.buf.now ≡ b
    pub position : cursor.pos ≡ at
    -- what remains is a contiguous run of the map's entries, and none is lent
    pub run : IsRun (range_remaining_places cursor) (entry_places k.kind v.kind g.E b at)
    pub current : range_current_place cursor ≡ None
