use Rattle.std.proofs.Common.{◌++◌, codes, decimal}
use Rattle.rkyv_btree_typed.proofs.Stripped.{then_strips}
use Rattle.rkyv_btree_typed.specs.TypeNames.{name_of}
use Rattle.rkyv_btree_typed.proofs.type_name.ArchivedArrayTypeName.strip_name.Goals as goal

pub returns : goal.returns
returns g c =
    let element = name_of g.T.TypeName.term in
    let count = codes "; " ++ (decimal g.row.N ++ codes "]") in
    let result = c.strip_numbered.result in
    then_strips (codes "[") (element ++ count) c.args.bytes.now c.in_ok-element.element result c.in_ok-element.ensures
    (then_strips element count c.in_ok-element.element.now c.in_ok-semicolon.semicolon result c.in_ok-semicolon.ensures c.strip_numbered.ensures)
