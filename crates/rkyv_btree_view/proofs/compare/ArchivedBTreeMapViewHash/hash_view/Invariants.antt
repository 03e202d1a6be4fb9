-- With what is left the hasher comes to where the whole list takes it.
use Rattle.std.proofs.Common.{◌≡◌, length}
use Rattle.std.specs.List.{flat_map, fold}
use Rattle.rkyv_btree_portable.specs.Entry.{entry_kind}
use Rattle.rkyv_btree_view.specs.Iter.{entries_left}
use Rattle.rkyv_btree_view.proofs.compare.ArchivedBTreeMapViewHash.hash_view.Given as goal

abbrev pub invariant-loop-key : goal.invariant-loop-key
invariant-loop-key g l =
    let input = flat_map (entry_kind g.K.Portable.kind g.V.Portable.kind).hash_input in
    fold g.H.Hasher.write l.state (input (entries_left l.entries)) ≡ fold g.H.Hasher.write l.initial.state (input (entries_left l.initial.entries))

abbrev pub decreases-loop-key : goal.decreases-loop-key
decreases-loop-key g l = length (entries_left l.entries)
