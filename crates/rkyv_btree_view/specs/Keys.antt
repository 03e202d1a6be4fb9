-- What iterators over keys and over values have left.
use Rattle.std.specs.Prelude.{List, map}
use Rattle.rkyv_btree_portable.specs.declared.check.Portable
use Rattle.rkyv_btree_walk.specs.declared.archived_map.ArchivedMap
use Rattle.rkyv_btree_view.specs.Iter.{entries_left}
use Rattle.rkyv_btree_view.specs.Range.{range_left}
use Rattle.rkyv_btree_view.specs.declared.keys.Keys.{Keys}
use Rattle.rkyv_btree_view.specs.declared.range_keys.RangeKeys.{RangeKeys}
use Rattle.rkyv_btree_view.specs.declared.keys.Values.{Values}

-- the keys that are left, in order
abbrev pub keys_left : {M K V : Type 0} {g : ArchivedMap.Ghosts M K V} {m : Portable.Ghosts M} {k : Portable.Ghosts K}
    {v : Portable.Ghosts V} → Keys M K V g m k v → List k.kind.Value
keys_left s = map (λ e. e.0) (entries_left s.entries)

-- the values that are left, in order
abbrev pub values_left : {M K V : Type 0} {g : ArchivedMap.Ghosts M K V} {m : Portable.Ghosts M} {k : Portable.Ghosts K}
    {v : Portable.Ghosts V} → Values M K V g m k v → List v.kind.Value
values_left s = map (λ e. e.1) (entries_left s.entries)

-- the keys that a range has left, in order
abbrev pub range_keys_left : {M K V : Type 0} {g : ArchivedMap.Ghosts M K V} {m : Portable.Ghosts M} {k : Portable.Ghosts K}
    {v : Portable.Ghosts V} → RangeKeys M K V g m k v → List k.kind.Value
range_keys_left s = map (λ e. e.0) (range_left s.entries)
