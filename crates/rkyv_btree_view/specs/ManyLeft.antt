-- What many lookups have left.
use Rattle.std.specs.Prelude.{ℕ, List, ◌++◌, drop, map, take, Option}
use Rattle.std.specs.Option.{option_map}
use Rattle.std.specs.declared.cmp.Ordering.{Ordering}
use Rattle.rkyv_btree_format.specs.Read.{entry_at}
use Rattle.rkyv_btree_portable.specs.declared.check.Portable
use Rattle.rkyv_btree_walk.specs.Ends.{end_of}
use Rattle.rkyv_btree_walk.specs.declared.archived_map.ArchivedMap
use Rattle.rkyv_btree_view.specs.ManyLookups.{entry_looked_up}
use Rattle.rkyv_btree_view.specs.declared.get_many.EntryLookups.{EntryLookups}
use Rattle.rkyv_btree_view.specs.declared.get_many.KeyLookups.{KeyLookups}
use Rattle.rkyv_btree_view.specs.declared.get_many.Lookups.{Lookups}

module _ {M T K V : Type 0} {g : ArchivedMap.Ghosts M K V} {m : Portable.Ghosts M} {k : Portable.Ghosts K} {v : Portable.Ghosts V} where
  -- the entries at which the searches ended that an iterator holds, in order
  abbrev pub entries_held : EntryLookups M T K V g m k v → List (Option (k.kind.Value × v.kind.Value))
  entries_held s = map (λ way. option_map (entry_at k.kind v.kind g.E s.map.buf.now) (end_of way)) (take s.left (drop s.next s.ways))

  module _ (compared_at : T → List ℕ → ℕ → Ordering) where
    -- these, and what lookups of the keys find that aren't searched yet
    abbrev pub entry_lookups_left : EntryLookups M T K V g m k v → List (Option (k.kind.Value × v.kind.Value))
    entry_lookups_left s = entries_held s ++ map (entry_looked_up k.kind v.kind g.E compared_at s.map.buf.now s.map.pos) s.keys.now

    -- their values, and their keys
    abbrev pub lookups_left : Lookups M T K V g m k v → List (Option v.kind.Value)
    lookups_left s = map (option_map (λ e. e.1)) (entry_lookups_left s.entries)

    abbrev pub key_lookups_left : KeyLookups M T K V g m k v → List (Option k.kind.Value)
    key_lookups_left s = map (option_map (λ e. e.0)) (entry_lookups_left s.entries)
