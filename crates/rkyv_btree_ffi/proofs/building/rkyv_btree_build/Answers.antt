-- A buffer with room for the longest archive is enough.
use Rattle.std.proofs.Common.{◌∙◌}
use Rattle.rkyv_btree_ffi.proofs.Room.{room}
use Rattle.rkyv_btree_ffi.specs.declared.order.Order.TheVariants.{Any}
use Rattle.rkyv_btree_ffi.proofs.building.rkyv_btree_build.Goals as goal

pub returns-clause-room : goal.returns-clause-room
returns-clause-room c = λ t is enough.
    room c.in-Some.at t (c.in-Some.ensures ∙ is) Any c.args.out.now c.put.new.out c.args.archive_len.now c.put.new.archive_len c.args.refusal.now c.put.new.refusal c.put.result c.args.texts.now c.args.entries.now c.archive_at.result c.archive_at.ensures c.put.ensures enough
