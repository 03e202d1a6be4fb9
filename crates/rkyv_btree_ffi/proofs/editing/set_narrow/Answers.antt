-- What is written is the value.
use Rattle.std.proofs.Common.{◌≡◌, ◌<◌, arith}
use Rattle.rkyv_btree_ffi.proofs.Types.{narrow_is}
use Rattle.rkyv_btree_ffi.proofs.editing.set_narrow.Goals as goal

pub returns-in-Ok-clause-sets : goal.returns-in-Ok-clause-sets
returns-in-Ok-clause-sets g c = λ compared same.
    let is : c.in-Ok.value ≡ c.args.value = omega arith in
    let low : c.args.value < 4294967296 = omega arith in
    rw (narrow_is c.args.value low, ← is) (c.set.result, c.set.ensures.sets compared same, c.written.ensures)
