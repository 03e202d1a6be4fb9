use Rattle.rkyv_btree_typed.proofs.Names.{names_apart}
use Rattle.rkyv_btree_typed.proofs.type_laws.names_are_apart.Goals as goal

pub returns : goal.returns
returns c = names_apart
