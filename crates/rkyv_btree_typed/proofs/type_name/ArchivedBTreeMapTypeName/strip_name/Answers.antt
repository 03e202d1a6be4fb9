use Rattle.std.proofs.Common.{◌++◌, codes, decimal, None}
use Rattle.rkyv_btree_typed.proofs.Stripped.{as_none, never_strips, then_strips}
use Rattle.rkyv_btree_typed.specs.TypeNames.{name_of}
use Rattle.rkyv_btree_typed.specs.TypeNames as term
use Rattle.rkyv_btree_typed.proofs.type_name.ArchivedBTreeMapTypeName.strip_name.Goals as goal

pub returns-in_err-value : goal.returns-in_err-value
returns-in_err-value g c =
    let key = name_of g.K.TypeName.term in
    let after = name_of g.V.TypeName.term ++ (codes " / " ++ (decimal g.row.E ++ codes "]")) in
    as_none (name_of (term.map g.K.TypeName.term g.V.TypeName.term g.row.E)) c.args.bytes.now _ c.from_residual-in_err-value.ensures
    (then_strips (codes "[") (key ++ (codes " -> " ++ after)) c.args.bytes.now c.in_ok-key.key None c.in_ok-key.ensures
    (then_strips key (codes " -> " ++ after) c.in_ok-key.key.now c.in_ok-arrow.arrow None c.in_ok-arrow.ensures
    (never_strips (codes " -> ") after c.in_ok-arrow.arrow.now c.in_err-value.ensures)))

pub returns-in_err-slash : goal.returns-in_err-slash
returns-in_err-slash g c =
    let key = name_of g.K.TypeName.term in
    let value = name_of g.V.TypeName.term in
    let entries = codes " / " ++ (decimal g.row.E ++ codes "]") in
    as_none (name_of (term.map g.K.TypeName.term g.V.TypeName.term g.row.E)) c.args.bytes.now _ c.from_residual-in_err-slash.ensures
    (then_strips (codes "[") (key ++ (codes " -> " ++ (value ++ entries))) c.args.bytes.now c.in_ok-key.key None c.in_ok-key.ensures
    (then_strips key (codes " -> " ++ (value ++ entries)) c.in_ok-key.key.now c.in_ok-arrow.arrow None c.in_ok-arrow.ensures
    (then_strips (codes " -> ") (value ++ entries) c.in_ok-arrow.arrow.now c.in_ok-value.value None c.in_ok-value.ensures
    (never_strips value entries c.in_ok-value.value.now c.in_err-slash.ensures))))

pub returns : goal.returns
returns g c =
    let key = name_of g.K.TypeName.term in
    let value = name_of g.V.TypeName.term in
    let entries = codes " / " ++ (decimal g.row.E ++ codes "]") in
    let result = c.strip_numbered.result in
    then_strips (codes "[") (key ++ (codes " -> " ++ (value ++ entries))) c.args.bytes.now c.in_ok-key.key result c.in_ok-key.ensures
    (then_strips key (codes " -> " ++ (value ++ entries)) c.in_ok-key.key.now c.in_ok-arrow.arrow result c.in_ok-arrow.ensures
    (then_strips (codes " -> ") (value ++ entries) c.in_ok-arrow.arrow.now c.in_ok-value.value result c.in_ok-value.ensures
    (then_strips value entries c.in_ok-value.value.now c.in_ok-slash.slash result c.in_ok-slash.ensures c.strip_numbered.ensures)))
