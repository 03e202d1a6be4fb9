use Rattle.std.proofs.Common.{◌≡◌}
use Rattle.std.specs.Hash as fed
use Rattle.std.specs.List.{fold, flat_map}
use Rattle.rkyv_btree_compound.specs.Elements.{elements_read}
use Rattle.rkyv_btree_compound.proofs.ArrayElements.{rest_read}
use Rattle.rkyv_btree_compound.proofs.array_view.ArchivedArrayViewHash.hash_view.Given as goal

abbrev pub invariant-loop-i : goal.invariant-loop-i
invariant-loop-i g l =
    let T = g.T.Portable.kind in
    fold g.H.Hasher.write l.fn.state (fed.slice T.hash_input (elements_read T l.view.buf.now g.row.N l.view.pos))
    ≡ fold g.H.Hasher.write l.state (flat_map T.hash_input (rest_read T l.view.buf.now g.row.N l.view.pos l.i))
