-- Three parts are written over zeros.
use Rattle.std.proofs.Common.{◌∙◌}
use Rattle.rkyv_btree_ffi.proofs.Headers.{header_made}
use Rattle.rkyv_btree_ffi.proofs.typed.header_of.Goals as goal

pub returns-clause-header : goal.returns-clause-header
returns-clause-header c = header_made c.args.name.now c.copy_from_slice.new.self c.copy_from_slice-2.new.self c.copy_from_slice-3.new.self
    (c.copy_from_slice.ensures.after ∙ c.as_bytes.ensures.value)
    (c.copy_from_slice-2.ensures.after ∙ c.to_le_bytes.ensures)
    (c.copy_from_slice-3.ensures.after ∙ c.as_bytes-2.ensures.value)
    c.requires.some c.requires.few
