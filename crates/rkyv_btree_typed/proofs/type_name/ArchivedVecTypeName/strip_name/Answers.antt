use Rattle.std.proofs.Common.{◌++◌, codes}
use Rattle.rkyv_btree_typed.proofs.Stripped.{then_strips}
use Rattle.rkyv_btree_typed.specs.TypeNames.{name_of}
use Rattle.rkyv_btree_typed.proofs.type_name.ArchivedVecTypeName.strip_name.Goals as goal

pub returns : goal.returns
returns g c =
    let value = name_of g.T.TypeName.term in
    let result = c.strip-2.result in
    then_strips (codes "vec(") (value ++ codes ")") c.args.bytes.now c.in_ok-element.element result c.in_ok-element.ensures
    (then_strips value (codes ")") c.in_ok-element.element.now c.in_ok-end.end result c.in_ok-end.ensures c.strip-2.ensures)
