-- The entries that remain of an iterator.
use Rattle.std.specs.Prelude.{ℕ, ◌+◌, ◌-◌, List, length, drop}
use Rattle.rkyv_btree_format.specs.Read.{read_map}
use Rattle.rkyv_btree_portable.specs.declared.check.Portable
use Rattle.rkyv_btree_walk.specs.declared.archived_map.ArchivedMap
use Rattle.rkyv_btree_view.specs.declared.iter.Iter.{Iter}

-- the last n elements of a list
abbrev pub last_of : {X : Type 0} → ℕ → List X → List X
last_of n xs = drop (length xs - n) xs

-- the entries that remain: as many of the map's last ones as the iterator counts
abbrev pub entries_left : {M K V : Type 0} {g : ArchivedMap.Ghosts M K V} {m : Portable.Ghosts M} {k : Portable.Ghosts K}
    {v : Portable.Ghosts V} → Iter M K V g m k v → List (k.kind.Value × v.kind.Value)
entries_left {g} {k} {v} s = last_of (s.walk.behind + (s.walk.end - s.walk.next)) (read_map k.kind v.kind g.E s.buf.now s.pos)

-- how many of them the iterator takes from the node that it is in
abbrev pub at_hand : {M K V : Type 0} {g : ArchivedMap.Ghosts M K V} {m : Portable.Ghosts M} {k : Portable.Ghosts K} {v : Portable.Ghosts V}
    → Iter M K V g m k v → ℕ
at_hand s = s.walk.end - s.walk.next
