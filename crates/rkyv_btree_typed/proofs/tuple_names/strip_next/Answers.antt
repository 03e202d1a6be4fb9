-- A comma, and then a name.
use Rattle.std.proofs.Common.{codes}
use Rattle.rkyv_btree_typed.proofs.Stripped.{then_strips}
use Rattle.rkyv_btree_typed.specs.TypeNames.{name_of}
use Rattle.rkyv_btree_typed.proofs.tuple_names.strip_next.Goals as goal

pub returns : goal.returns
returns g c = then_strips (codes ", ") (name_of g.T.TypeName.term) c.args.bytes.now c.in_ok-name.name c.strip_name.result c.in_ok-name.ensures c.strip_name.ensures
