-- The entries that a cursor leaves, by its numbers: those of its leaf, and those of the path above it up to its stop.
use Rattle.std.specs.Prelude.{ℕ, List, map}
use Rattle.rkyv_btree_format.specs.Layout.{layout_of}
use Rattle.rkyv_btree_format.specs.Read.{entry_at}
use Rattle.rkyv_btree_walk.specs.Paths.{range_rest}
use Rattle.rkyv_btree_ffi.specs.MapTypes.{key_kind, value_kind}
use Rattle.rkyv_btree_ffi.specs.Cursors.{path_of, stop_of}
use Rattle.rkyv_btree_ffi.specs.declared.cursor.BtreeCursor.{BtreeCursor}
use Rattle.rkyv_btree_ffi.specs.declared.map_type.MapType.{MapType}
use Rattle.rkyv_btree_portable.specs.Kind.{Kind}

module _ (K V : Kind) (b : List ℕ) where
  -- the places that are left
  abbrev pub cursor_places : BtreeCursor → List (ℕ × ℕ)
  cursor_places c = range_rest (layout_of K V 5) b (stop_of c) c.node c.next c.end (path_of c)

  -- the entries there
  abbrev pub cursor_entries : BtreeCursor → List (K.Value × V.Value)
  cursor_entries c = map (entry_at K V 5 b) (cursor_places c)

abbrev pub entries_left : (t : MapType) → List ℕ → BtreeCursor → List ((key_kind t).Value × (value_kind t).Value)
entries_left t b c = cursor_entries (key_kind t) (value_kind t) b c
