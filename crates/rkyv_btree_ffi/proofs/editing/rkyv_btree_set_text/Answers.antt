-- The map has one type.
use Rattle.std.proofs.Common.{subst}
use Rattle.rkyv_btree_ffi.specs.Editing.{SetsValue}
use Rattle.rkyv_btree_ffi.proofs.Types.{text_is}
use Rattle.rkyv_btree_ffi.proofs.editing.rkyv_btree_set_text.Goals as goal

pub returns-clause-sets : goal.returns-clause-sets
returns-clause-sets c = λ t is. subst (λ comparison. SetsValue t c.args.edit.now.buf.now c.args.edit.now.pos comparison c.args.value c.set_value.new.edit.buf.now c.set_value.result) (text_is t _) (c.set_value.ensures.sets t is)
