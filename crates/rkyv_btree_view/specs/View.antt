-- What views read.
use Rattle.std.specs.Prelude.{ℕ, List}
use Rattle.rkyv_btree_portable.specs.Kind.{Kind}
use Rattle.rkyv_btree_format.specs.Read.{read_map}
use Rattle.rkyv_btree_portable.specs.declared.check.Portable
use Rattle.rkyv_btree_view.specs.declared.view.View.{View}

-- the value that stands at a view's position
abbrev pub view_value : {T : Type 0} {t : Portable.Ghosts T} → View T t → t.kind.Value
view_value {t} view = t.kind.read view.buf.now view.pos

-- what a view of a key and a view of a value read
abbrev pub view_entry : {K V : Type 0} {k : Portable.Ghosts K} {v : Portable.Ghosts V} → View K k × View V v → k.kind.Value × v.kind.Value
view_entry e = (view_value e.0, view_value e.1)

-- the entries of a view's map, of these keys, these values and E, in order
abbrev pub entries_of : (K V : Kind) → ℕ → {M : Type 0} {m : Portable.Ghosts M} → View M m → List (K.Value × V.Value)
entries_of K V E map = read_map K V E map.buf.now map.pos
