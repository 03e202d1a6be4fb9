-- The entries of a map by their places: the node of an entry, and its number there.
use Rattle.std.specs.Prelude.{ℕ, List, slice_index, nat_eq, if◌then◌else◌}
use Rattle.rkyv_btree_portable.specs.Kind.{Kind}
use Rattle.rkyv_btree_format.specs.Layout.{NodeLayout, layout_of, leaf_size, inner_size}
use Rattle.rkyv_btree_format.specs.Read.{map_tree}
use Rattle.rkyv_btree_shape.specs.Tree.{list}
use Rattle.rkyv_btree_walk.specs.declared.entry_place.EntryPlace.{EntryPlace}

-- the node of an entry, and its number there
abbrev pub place_of : EntryPlace → ℕ × ℕ
place_of p = (p.node, p.index)

-- the entries of the map at a position, in order
abbrev pub entry_places : Kind → Kind → ℕ → List ℕ → ℕ → List (ℕ × ℕ)
entry_places K V E b at = list (map_tree (layout_of K V E) b at)

-- the size of the node at a position
abbrev pub size_at : NodeLayout → List ℕ → ℕ → ℕ
size_at s b p = if nat_eq (slice_index b p) 0 then leaf_size s else inner_size s
