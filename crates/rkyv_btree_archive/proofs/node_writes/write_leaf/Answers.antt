use Rattle.std.proofs.Common.{◌≡◌, ◌+◌, ◌≤◌, List, ℕ, true, length, map, take, refl, sym, subst}
use Rattle.std.proofs.lemmas.Result.{err_from_is_err_and}
use Rattle.rkyv_btree_writing_laws.specs.Image.{leaf_bytes, leaf_image}
use Rattle.rkyv_btree_portable.specs.InPlace.{OwnBytes}
use Rattle.rkyv_btree_format.specs.Layout.{layout_of, leaf_size, inner_size}
use Rattle.rkyv_btree_writing_laws.specs.Entries.{EntriesUnresolved, both_borrowed}
use Rattle.rkyv_btree_writing_laws.specs.Written.{NodeStopped, in_own_bytes}
use Rattle.rkyv_btree_writer.specs.Writing.{Write, Appended, Refused}
use Rattle.rkyv_btree_format.proofs.Sizes.{room_of}
use Rattle.rkyv_btree_writing_laws.proofs.NodesWritten.{node_written, node_refused}
use Rattle.rkyv_btree_archive.proofs.Pieces.{own_long, front_is}
use Rattle.rkyv_btree_archive.proofs.Numbers.{no_less, no_less_twice}
use Rattle.rkyv_btree_archive.proofs.node_writes.write_leaf.Goals as goal

pub put_leaf-requires-clause-room : goal.put_leaf-requires-clause-room
put_leaf-requires-clause-room g c =
    let room = room_of _ _ g.row.E g.met.K.Portable.laws g.met.V.Portable.laws c.requires.fitting in
    no_less _ _ _ room.parts.leaf c.requires.free.node_room

pub returns-in_err-root-clause-err : goal.returns-in_err-root-clause-err
returns-in_err-root-clause-err g c =
    let nodes = layout_of g.K.Portable.kind g.V.Portable.kind g.row.E in
    let xs = map (both_borrowed g.BKU.Borrow.borrowed g.BVU.Borrow.borrowed) c.args.entries.now in
    let image : ℕ → List OwnBytes → List Write = leaf_image nodes in
    let p = err_from_is_err_and c.from_residual.result c.from_residual.ensures.1 in
    rw (p.1, p.2) (subst (λ (n : ℕ). NodeStopped nodes g.KU.Archive.archival g.VU.Archive.archival image n (g.W.Writer.state c.args.writer.now) xs c.in_err-root.field-0.0 (g.W.Writer.state c.begin_node.new.writer)) c.leaf_size-size.ensures.value (c.in_err-root.ensures.err image))

pub returns-in-Err-clause-err : goal.returns-in-Err-clause-err
returns-in-Err-clause-err g c =
    let nodes = layout_of g.K.Portable.kind g.V.Portable.kind g.row.E in
    let keys = c.begin_node.new.keys.items in
    let values = c.begin_node.new.values.items in
    let fault = c.in-Err.fault in
    in_own_bytes keys values c.in_ok-root.ensures.ok fault c.fault_of.ensures (subst (λ (n : ℕ). EntriesUnresolved nodes g.KU.Archive.archival g.VU.Archive.archival n (map (both_borrowed g.BKU.Borrow.borrowed g.BVU.Borrow.borrowed) c.args.entries.now) keys values fault) c.in_ok-root.ensures.place c.in-Err.ensures.err)

pub returns-clause-ok : goal.returns-clause-ok
returns-clause-ok g c =
    let nodes = layout_of g.K.Portable.kind g.V.Portable.kind g.row.E in
    let from = g.W.Writer.state c.args.writer.now in
    let to = g.W.Writer.state c.begin_node.new.writer in
    let t = g.W.Writer.state c.put.new.writer in
    let made = c.in-Ok.ensures.ok in
    let own = leaf_bytes nodes made.0 in
    let all : take c.leaf_size-size.result c.as_slice.result.now ≡ own = front_is c.leaf_size-size.result (leaf_size nodes) (inner_size nodes) own c.as_slice.result.now c.put_leaf.new.node.items c.args.scratch.now.node.items c.leaf_size-size.ensures.value (room_of _ _ g.row.E g.met.K.Portable.laws g.met.V.Portable.laws c.requires.fitting).parts.leaf c.requires.free.node_room c.as_slice.ensures.value made.2 c.put_leaf.ensures.len in
    let long : length own ≡ leaf_size nodes = own_long own c.put_leaf.new.node.items c.args.scratch.now.node.items (leaf_size nodes) (inner_size nodes) (room_of _ _ g.row.E g.met.K.Portable.laws g.met.V.Portable.laws c.requires.fitting).parts.leaf c.requires.free.node_room made.2 c.put_leaf.ensures.len in
    node_written nodes g.KU.Archive.archival g.VU.Archive.archival from to (map (both_borrowed g.BKU.Borrow.borrowed g.BVU.Borrow.borrowed) c.args.entries.now) c.begin_node.new.keys.items c.begin_node.new.values.items c.in_ok-root.ensures.ok c.in_ok-root.root made.0 c.in_ok-root.ensures.place made.1 (leaf_image nodes) (leaf_size nodes) (record { bytes = own; reaches = true }) refl
    t refl long (subst (λ (bytes : List ℕ). Appended to bytes t) all c.in_ok-put.ensures.ok)

pub returns-in_err-put-clause-err : goal.returns-in_err-put-clause-err
returns-in_err-put-clause-err g c =
    let nodes = layout_of g.K.Portable.kind g.V.Portable.kind g.row.E in
    let from = g.W.Writer.state c.args.writer.now in
    let to = g.W.Writer.state c.begin_node.new.writer in
    let t = g.W.Writer.state c.put.new.writer in
    let made = c.in-Ok.ensures.ok in
    let fault = c.in_err-put.field-0.0 in
    let own = leaf_bytes nodes made.0 in
    let all : take c.leaf_size-size.result c.as_slice.result.now ≡ own = front_is c.leaf_size-size.result (leaf_size nodes) (inner_size nodes) own c.as_slice.result.now c.put_leaf.new.node.items c.args.scratch.now.node.items c.leaf_size-size.ensures.value (room_of _ _ g.row.E g.met.K.Portable.laws g.met.V.Portable.laws c.requires.fitting).parts.leaf c.requires.free.node_room c.as_slice.ensures.value made.2 c.put_leaf.ensures.len in
    let long : length own ≡ leaf_size nodes = own_long own c.put_leaf.new.node.items c.args.scratch.now.node.items (leaf_size nodes) (inner_size nodes) (room_of _ _ g.row.E g.met.K.Portable.laws g.met.V.Portable.laws c.requires.fitting).parts.leaf c.requires.free.node_room made.2 c.put_leaf.ensures.len in
    let p = err_from_is_err_and c.from_residual-in_err-put.result c.from_residual-in_err-put.ensures.1 in
    rw (p.1, p.2) (node_refused nodes g.KU.Archive.archival g.VU.Archive.archival from to (map (both_borrowed g.BKU.Borrow.borrowed g.BVU.Borrow.borrowed) c.args.entries.now) c.begin_node.new.keys.items c.begin_node.new.values.items c.in_ok-root.ensures.ok c.in_ok-root.root made.0 c.in_ok-root.ensures.place made.1 (leaf_image nodes) (leaf_size nodes) (record { bytes = leaf_bytes nodes made.0; reaches = true }) refl
    fault t (subst (λ (bytes : List ℕ). Refused fault to (record { bytes = bytes; reaches = true }) t) all (c.in_err-put.ensures.err true)))

pub returns-clause-free : goal.returns-clause-free
returns-clause-free g c = record {
  no_keys = c.in-Ok.ensures.spent.0;
  no_values = c.in-Ok.ensures.spent.1;
  key_room = no_less_twice _ _ _ _ c.requires.free.key_room c.begin_node.ensures.key_room c.put_leaf.ensures.key_room;
  value_room = no_less_twice _ _ _ _ c.requires.free.value_room c.begin_node.ensures.value_room c.put_leaf.ensures.value_room;
  node_room = subst (λ n. inner_size (layout_of g.K.Portable.kind g.V.Portable.kind g.row.E) ≤ n) (sym c.put_leaf.ensures.len) c.requires.free.node_room;
}

pub begin_node-requires-clause-no_keys : goal.begin_node-requires-clause-no_keys
begin_node-requires-clause-no_keys g c = c.requires.free.no_keys

pub begin_node-requires-clause-no_values : goal.begin_node-requires-clause-no_values
begin_node-requires-clause-no_values g c = c.requires.free.no_values

pub begin_node-requires-clause-key_room : goal.begin_node-requires-clause-key_room
begin_node-requires-clause-key_room g c = no_less _ _ _ c.requires.count c.requires.free.key_room

pub begin_node-requires-clause-value_room : goal.begin_node-requires-clause-value_room
begin_node-requires-clause-value_room g c = no_less _ _ _ c.requires.count c.requires.free.value_room

pub put_leaf-requires-clause-count : goal.put_leaf-requires-clause-count
put_leaf-requires-clause-count g c = c.requires.count

pub put_leaf-requires-clause-keys : goal.put_leaf-requires-clause-keys
put_leaf-requires-clause-keys g c = c.in_ok-root.ensures.keys

pub put_leaf-requires-clause-values : goal.put_leaf-requires-clause-values
put_leaf-requires-clause-values g c = c.in_ok-root.ensures.values

pub put_leaf-requires-clause-end : goal.put_leaf-requires-clause-end
put_leaf-requires-clause-end g c = subst (λ n. c.in_ok-root.root + n ≤ 4294967295) c.leaf_size-size.ensures.value c.in_ok-root.ensures.end

pub returns-clause-last : goal.returns-clause-last
returns-clause-last g c = c.in_ok-put.ensures.end
