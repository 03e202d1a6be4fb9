-- A buffer with room for the longest archive is enough.
use Rattle.std.proofs.Common.{◌∙◌}
use Rattle.rkyv_btree_ffi.proofs.Room.{room_of_columns, room_of_buffers}
use Rattle.rkyv_btree_ffi.specs.declared.order.Order.TheVariants.{Increasing}
use Rattle.rkyv_btree_ffi.proofs.building.rkyv_btree_build_arrays_strict.Goals as goal

pub returns-clause-room : goal.returns-clause-room
returns-clause-room c = λ t is enough.
    room_of_columns c.in-Some.at t (c.in-Some.ensures ∙ is) Increasing c.args.out.now c.put.new.out c.args.archive_len.now c.put.new.archive_len c.args.refusal.now c.put.new.refusal c.put.result c.args.keys.now c.args.values.now c.args.len c.archive_columns_at.result c.archive_columns_at.ensures c.put.ensures enough

pub returns-clause-room_of_buffers : goal.returns-clause-room_of_buffers
returns-clause-room_of_buffers c = λ t is enough.
    room_of_buffers c.in-Some.at t (c.in-Some.ensures ∙ is) Increasing c.args.out.now c.put.new.out c.args.archive_len.now c.put.new.archive_len c.args.refusal.now c.put.new.refusal c.put.result c.args.keys.now c.args.values.now c.args.len c.archive_columns_at.result c.archive_columns_at.ensures c.put.ensures enough
