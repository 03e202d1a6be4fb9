-- There is room for the header.
use Rattle.std.proofs.Common.{◌∙◌, arith, sym}
use Rattle.std.proofs.lemmas.List.{length-take-le}
use Rattle.rkyv_btree_ffi.proofs.typed.rkyv_btree_write_header.Goals as goal

pub copy_from_slice-requires : goal.copy_from_slice-requires
copy_from_slice-requires c = length-take-le 32 c.args.out.now (omega arith) ∙ sym c.header_of-header.ensures.len
