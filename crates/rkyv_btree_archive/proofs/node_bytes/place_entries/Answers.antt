use Rattle.std.proofs.Common.{◌≡◌, ◌∙◌, ◌+◌, length, map, set, refl, sym, arith}
use Rattle.std.proofs.lemmas.List.{length-map, length-set}
use Rattle.std.proofs.lemmas.Result.{err_from_is_err_and, on_ok_weaker, IfErr-weaker}
use Rattle.rkyv_btree_format.specs.Layout.{layout_of, len_at}
use Rattle.rkyv_btree_archive.proofs.Pieces.{columns_put, columns_length}
use Rattle.rkyv_btree_format.proofs.Sizes.{room_of}
use Rattle.rkyv_btree_writing_laws.specs.Entries.{both_borrowed}
use Rattle.rkyv_btree_writing_laws.proofs.Resolving.{paired, resolved_length, both_resolved, key_unresolved, value_unresolved}
use Rattle.rkyv_btree_archive.proofs.node_bytes.place_entries.Goals as goal

pub bounds-node-0 : goal.bounds-node-0
bounds-node-0 g c =
    let room = room_of _ _ g.row.E g.met.K.Portable.laws g.met.V.Portable.laws c.requires.fitting in
    omega (arith, room.parts, c.requires.room)

pub overflow_add-pos : goal.overflow_add-pos
overflow_add-pos g c =
    let room = room_of _ _ g.row.E g.met.K.Portable.laws g.met.V.Portable.laws c.requires.fitting in
    omega (arith, room.parts)

pub place_halves-requires-clause-fitting : goal.place_halves-requires-clause-fitting
place_halves-requires-clause-fitting g c =
    let room = room_of _ _ g.row.E g.met.K.Portable.laws g.met.V.Portable.laws c.requires.fitting in
    room.key

pub place_halves-requires-clause-room : goal.place_halves-requires-clause-room
place_halves-requires-clause-room g c =
    let room = room_of _ _ g.row.E g.met.K.Portable.laws g.met.V.Portable.laws c.requires.fitting in
    omega (arith, room.parts, room.key_at _ c.requires.count, c.requires.room, c.fill.ensures.len, length-set c.fill.new.self 0 c.args.kind)

pub place_halves-requires-clause-end : goal.place_halves-requires-clause-end
place_halves-requires-clause-end g c =
    let room = room_of _ _ g.row.E g.met.K.Portable.laws g.met.V.Portable.laws c.requires.fitting in
    omega (arith, room.parts, room.key_at _ c.requires.count)

pub returns-in_err-place_halves-clause-err : goal.returns-in_err-place_halves-clause-err
returns-in_err-place_halves-clause-err g c =
    let p = err_from_is_err_and c.from_residual.result c.from_residual.ensures.1 in
    rw (p.1, p.2) (key_unresolved (layout_of g.K.Portable.kind g.V.Portable.kind g.row.E) g.KU.Archive.archival g.VU.Archive.archival (both_borrowed g.BKU.Borrow.borrowed g.BVU.Borrow.borrowed) c.args.pos (c.args.pos + c.key_at-keys_at.result) c.args.entries.now c.args.keys.now.items c.args.values.now.items c.in_err-place_halves.field-0.0 (omega arith) c.in_err-place_halves.ensures.err)

pub overflow_add-pos-2 : goal.overflow_add-pos-2
overflow_add-pos-2 g c =
    let room = room_of _ _ g.row.E g.met.K.Portable.laws g.met.V.Portable.laws c.requires.fitting in
    omega (arith, room.parts)

pub place_halves-requires-2-clause-fitting : goal.place_halves-requires-2-clause-fitting
place_halves-requires-2-clause-fitting g c =
    let room = room_of _ _ g.row.E g.met.K.Portable.laws g.met.V.Portable.laws c.requires.fitting in
    room.value

pub place_halves-requires-2-clause-room : goal.place_halves-requires-2-clause-room
place_halves-requires-2-clause-room g c =
    let room = room_of _ _ g.row.E g.met.K.Portable.laws g.met.V.Portable.laws c.requires.fitting in
    omega (arith, room.parts, room.value_at _ c.requires.count, c.requires.room, c.place_halves.auto.node, c.fill.ensures.len, length-set c.fill.new.self 0 c.args.kind)

pub place_halves-requires-2-clause-end : goal.place_halves-requires-2-clause-end
place_halves-requires-2-clause-end g c =
    let room = room_of _ _ g.row.E g.met.K.Portable.laws g.met.V.Portable.laws c.requires.fitting in
    omega (arith, room.parts, room.value_at _ c.requires.count)

pub returns-clause-ok : goal.returns-clause-ok
returns-clause-ok g c =
    let nodes = layout_of g.K.Portable.kind g.V.Portable.kind g.row.E in
    let room = room_of _ _ g.row.E g.met.K.Portable.laws g.met.V.Portable.laws c.requires.fitting in
    let keys = c.in_ok-place_halves.ensures.ok in
    on_ok_weaker c.place_halves-2.result (λ values.
    let same : length keys.0 ≡ length values.0 = resolved_length g.KU.Archive.archival (c.args.pos + c.key_at-keys_at.result) (map (λ x. g.BKU.Borrow.borrowed x.0) c.args.entries.now) c.args.keys.now.items keys.0 keys.1 ∙ (length-map c.args.entries.now (λ x. g.BKU.Borrow.borrowed x.0) ∙ sym (resolved_length g.VU.Archive.archival (c.args.pos + c.value_at-values_at.result) (map (λ x. g.BVU.Borrow.borrowed x.1) c.args.entries.now) c.args.values.now.items values.0 values.1 ∙ length-map c.args.entries.now (λ x. g.BVU.Borrow.borrowed x.1))) in (
      paired keys.0 values.0,
      both_resolved nodes g.KU.Archive.archival g.VU.Archive.archival (both_borrowed g.BKU.Borrow.borrowed g.BVU.Borrow.borrowed) c.args.pos (c.args.pos + c.key_at-keys_at.result) (c.args.pos + c.value_at-values_at.result) c.args.entries.now c.args.keys.now.items c.args.values.now.items keys.0 values.0 (omega arith) (omega arith) keys.1 values.1,
      columns_put nodes c.args.kind c.key_at-keys_at.result c.value_at-values_at.result (length c.args.node.now) keys.0 values.0 c.fill.new.self (set c.fill.new.self 0 c.args.kind) c.place_halves.new.node c.place_halves-2.new.node same (omega arith) (omega arith) (omega (arith, room.parts)) (omega (arith, room.parts, room.key_at _ c.requires.count, keys.2)) (omega (arith, room.parts, room.value_at _ c.requires.count, values.2, c.requires.room)) (c.fill.ensures.after (λ y same. same)) refl keys.3 values.3,
      columns_length nodes c.args.kind c.key_at-keys_at.result c.value_at-values_at.result (len_at nodes) keys.0 values.0 same (omega arith) (omega arith) (omega (arith, room.parts)) (omega (arith, room.parts, room.key_at _ c.requires.count, keys.2)) (omega (arith, room.parts, room.value_at _ c.requires.count, values.2)),
    )) c.place_halves-2.ensures.ok

pub returns-clause-err : goal.returns-clause-err
returns-clause-err g c =
    IfErr-weaker c.place_halves-2.result _ _ (λ fault h. value_unresolved (layout_of g.K.Portable.kind g.V.Portable.kind g.row.E) g.KU.Archive.archival g.VU.Archive.archival (both_borrowed g.BKU.Borrow.borrowed g.BVU.Borrow.borrowed) c.args.pos (c.args.pos + c.value_at-values_at.result) c.args.entries.now c.args.keys.now.items c.args.values.now.items fault (omega arith) h) c.place_halves-2.ensures.err
