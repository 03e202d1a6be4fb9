-- The cursor is a place before and after.
use Rattle.rkyv_btree_ffi.proofs.Places.{good_of}
use Rattle.rkyv_btree_ffi.proofs.reading.batch.Goals as goal

pub returns-clause-place : goal.returns-clause-place
returns-clause-place g c =
    (c.in_ok-walk.ensures.good, good_of g.K.Portable.kind g.V.Portable.kind c.args.buf.now c.args.pos c.fill-written.new.walk c.kept.result c.fill-written.ensures.walks c.kept.ensures.kept c.kept.ensures.deep)
