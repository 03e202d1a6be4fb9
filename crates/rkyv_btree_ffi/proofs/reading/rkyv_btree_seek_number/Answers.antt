-- The map has one type.
use Rattle.std.proofs.Common.{subst}
use Rattle.rkyv_btree_ffi.specs.Entries.{IsFrom}
use Rattle.rkyv_btree_ffi.specs.CursorEntries.{entries_left}
use Rattle.rkyv_btree_ffi.proofs.Types.{number_is}
use Rattle.rkyv_btree_ffi.proofs.reading.rkyv_btree_seek_number.Goals as goal

pub returns-clause-from : goal.returns-clause-from
returns-clause-from c = λ t is.
    let r = c.seek.ensures.from t is in
    (r.0, subst (λ comparison. IsFrom t c.args.map.now.buf.now c.args.map.now.pos comparison (entries_left t c.args.map.now.buf.now c.seek.new.cursor)) (number_is t c.args.key) r.1)
