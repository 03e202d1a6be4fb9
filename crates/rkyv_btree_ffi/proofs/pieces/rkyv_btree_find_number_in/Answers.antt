-- A part that is missing is written, and the cause of an error of the lookup.
use Rattle.std.proofs.Common.{◌≡◌, length}
use Rattle.rkyv_btree_source.specs.Known.{AreOf, pieces}
use Rattle.rkyv_btree_ffi.specs.Entries.{by_number}
use Rattle.rkyv_btree_ffi.proofs.Stepped.{missing_part, refused_by}
use Rattle.rkyv_btree_ffi.proofs.pieces.rkyv_btree_find_number_in.Goals as goal

pub returns-clause-missing : goal.returns-clause-missing
returns-clause-missing c = missing_part (pieces c.args.size c.args.pieces.now c.args.buf.now) (length c.args.buffer.now) c.step_number.result c.args.value.now c.put.new.value c.args.refusal.now c.put.new.refusal c.put.result c.put.ensures c.step_number.ensures.lacks

pub returns-clause-refused : goal.returns-clause-refused
returns-clause-refused c = λ t is b of some low.
    let same : t ≡ c.in-Some.at = cc in
    let known = pieces c.args.size c.args.pieces.now c.args.buf.now in
    rw same (refused_by c.in-Some.at b c.step_number.new.buffer (by_number c.in-Some.at c.args.key) c.step_number.result c.args.value.now c.put.new.value c.args.refusal.now c.put.new.refusal c.put.result c.put.ensures (AreOf known) c.step_number.ensures.gives of some low)
