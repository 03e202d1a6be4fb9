-- The map has one type.
use Rattle.std.proofs.Common.{subst}
use Rattle.rkyv_btree_ffi.specs.Entries.{LooksUp}
use Rattle.rkyv_btree_ffi.proofs.Types.{text_is}
use Rattle.rkyv_btree_ffi.proofs.reading.rkyv_btree_get_text.Goals as goal

pub returns-clause-found : goal.returns-clause-found
returns-clause-found c = λ t is. subst (λ comparison. LooksUp t c.args.map.now.buf.now c.args.map.now.pos comparison c.get.result c.get.new.entry) (text_is t _) (c.get.ensures.found t is)
