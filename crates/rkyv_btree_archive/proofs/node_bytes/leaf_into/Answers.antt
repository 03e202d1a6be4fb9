use Rattle.std.proofs.Common.{◌≡◌, ◌∙◌, length, map, sym, arith}
use Rattle.std.proofs.lemmas.List.{length-map}
use Rattle.std.proofs.lemmas.Result.{err_from_is_err_and}
use Rattle.rkyv_btree_format.specs.Layout.{layout_of}
use Rattle.rkyv_btree_writing_laws.specs.Entries.{both_borrowed}
use Rattle.rkyv_btree_format.proofs.Sizes.{room_of}
use Rattle.rkyv_btree_writing_laws.proofs.Resolving.{entries_length}
use Rattle.rkyv_btree_archive.proofs.Pieces.{leaf_put}
use Rattle.rkyv_btree_archive.proofs.node_bytes.leaf_into.Goals as goal

pub overflow_cast-entries : goal.overflow_cast-entries
overflow_cast-entries g c =
    let room = room_of _ _ g.row.E g.met.K.Portable.laws g.met.V.Portable.laws c.requires.fitting in
    omega (arith, room.entries, c.requires.count)

pub returns-clause-ok : goal.returns-clause-ok
returns-clause-ok g c =
    let nodes = layout_of g.K.Portable.kind g.V.Portable.kind g.row.E in
    let made = c.in_ok-place_entries.ensures.ok in
    let room = room_of _ _ g.row.E g.met.K.Portable.laws g.met.V.Portable.laws c.requires.fitting in
    let size = c.requires.size in
    let count : length made.0 ≡ length c.args.entries.now = entries_length nodes g.KU.Archive.archival g.VU.Archive.archival c.args.pos (map (both_borrowed g.BKU.Borrow.borrowed g.BVU.Borrow.borrowed) c.args.entries.now) c.args.keys.now.items c.args.values.now.items made.0 made.1 ∙ length-map c.args.entries.now (both_borrowed g.BKU.Borrow.borrowed g.BVU.Borrow.borrowed) in (
      made.0,
      made.1,
      leaf_put nodes made.0 (length c.args.entries.now) c.len_at-start.result (length c.args.node.now) c.to_le_bytes.result c.place_entries.new.node c.place_bytes.new.node (sym count) (omega arith) size c.to_le_bytes.ensures made.3 (omega (arith, room.parts, size, c.len_at-start.ensures)) made.2 c.place_bytes.ensures,
    )

pub place_entries-requires-clause-count : goal.place_entries-requires-clause-count
place_entries-requires-clause-count g c = c.requires.count

pub place_entries-requires-clause-keys : goal.place_entries-requires-clause-keys
place_entries-requires-clause-keys g c = c.requires.keys

pub place_entries-requires-clause-values : goal.place_entries-requires-clause-values
place_entries-requires-clause-values g c = c.requires.values

pub place_entries-requires-clause-end : goal.place_entries-requires-clause-end
place_entries-requires-clause-end g c = c.requires.end

pub returns-in_err-place_entries-clause-err : goal.returns-in_err-place_entries-clause-err
returns-in_err-place_entries-clause-err g c =
    let p = err_from_is_err_and c.from_residual.result c.from_residual.ensures.1 in
    rw (p.1, p.2) c.in_err-place_entries.ensures.err

pub returns-in_err-place_entries-clause-key_room : goal.returns-in_err-place_entries-clause-key_room
returns-in_err-place_entries-clause-key_room g c = c.place_entries.ensures.key_room

pub returns-in_err-place_entries-clause-value_room : goal.returns-in_err-place_entries-clause-value_room
returns-in_err-place_entries-clause-value_room g c = c.place_entries.ensures.value_room

pub returns-clause-key_room : goal.returns-clause-key_room
returns-clause-key_room g c = c.place_entries.ensures.key_room

pub returns-clause-value_room : goal.returns-clause-value_room
returns-clause-value_room g c = c.place_entries.ensures.value_room

pub returns-clause-spent : goal.returns-clause-spent
returns-clause-spent g c = c.in_ok-place_entries.ensures.spent

pub place_entries-requires-clause-room : goal.place_entries-requires-clause-room
place_entries-requires-clause-room g c =
    let room = room_of _ _ g.row.E g.met.K.Portable.laws g.met.V.Portable.laws c.requires.fitting in
    omega (arith, room.parts, c.requires.size)
