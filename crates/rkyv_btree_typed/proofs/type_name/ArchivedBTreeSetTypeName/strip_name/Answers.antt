use Rattle.std.proofs.Common.{◌++◌, codes, decimal}
use Rattle.rkyv_btree_typed.proofs.Stripped.{then_strips}
use Rattle.rkyv_btree_typed.specs.TypeNames.{name_of}
use Rattle.rkyv_btree_typed.proofs.type_name.ArchivedBTreeSetTypeName.strip_name.Goals as goal

pub returns : goal.returns
returns g c =
    let key = name_of g.K.TypeName.term in
    let entries = codes " / " ++ (decimal g.row.E ++ codes "]") in
    let result = c.strip_numbered.result in
    then_strips (codes "[") (key ++ entries) c.args.bytes.now c.in_ok-key.key result c.in_ok-key.ensures
    (then_strips key entries c.in_ok-key.key.now c.in_ok-slash.slash result c.in_ok-slash.ensures c.strip_numbered.ensures)
