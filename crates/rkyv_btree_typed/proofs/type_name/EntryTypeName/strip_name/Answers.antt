use Rattle.std.proofs.Common.{◌++◌, codes, None}
use Rattle.rkyv_btree_typed.proofs.Stripped.{as_none, never_strips, then_strips}
use Rattle.rkyv_btree_typed.specs.TypeNames.{name_of}
use Rattle.rkyv_btree_typed.specs.TypeNames as term
use Rattle.rkyv_btree_typed.proofs.type_name.EntryTypeName.strip_name.Goals as goal

pub returns-in_err-second : goal.returns-in_err-second
returns-in_err-second g c =
    let first = name_of g.A.TypeName.term in
    let after = name_of g.B.TypeName.term ++ codes ")" in
    as_none (name_of (term.pair g.A.TypeName.term g.B.TypeName.term)) c.args.bytes.now _ c.from_residual-in_err-second.ensures
    (then_strips (codes "(") (first ++ (codes ", " ++ after)) c.args.bytes.now c.in_ok-first.first None c.in_ok-first.ensures
    (then_strips first (codes ", " ++ after) c.in_ok-first.first.now c.in_ok-comma.comma None c.in_ok-comma.ensures
    (never_strips (codes ", ") after c.in_ok-comma.comma.now c.in_err-second.ensures)))

pub returns-in_err-end : goal.returns-in_err-end
returns-in_err-end g c =
    let first = name_of g.A.TypeName.term in
    let second = name_of g.B.TypeName.term in
    as_none (name_of (term.pair g.A.TypeName.term g.B.TypeName.term)) c.args.bytes.now _ c.from_residual-in_err-end.ensures
    (then_strips (codes "(") (first ++ (codes ", " ++ (second ++ codes ")"))) c.args.bytes.now c.in_ok-first.first None c.in_ok-first.ensures
    (then_strips first (codes ", " ++ (second ++ codes ")")) c.in_ok-first.first.now c.in_ok-comma.comma None c.in_ok-comma.ensures
    (then_strips (codes ", ") (second ++ codes ")") c.in_ok-comma.comma.now c.in_ok-second.second None c.in_ok-second.ensures
    (never_strips second (codes ")") c.in_ok-second.second.now c.in_err-end.ensures))))

pub returns : goal.returns
returns g c =
    let first = name_of g.A.TypeName.term in
    let second = name_of g.B.TypeName.term in
    let result = c.strip-3.result in
    then_strips (codes "(") (first ++ (codes ", " ++ (second ++ codes ")"))) c.args.bytes.now c.in_ok-first.first result c.in_ok-first.ensures
    (then_strips first (codes ", " ++ (second ++ codes ")")) c.in_ok-first.first.now c.in_ok-comma.comma result c.in_ok-comma.ensures
    (then_strips (codes ", ") (second ++ codes ")") c.in_ok-comma.comma.now c.in_ok-second.second result c.in_ok-second.ensures
    (then_strips second (codes ")") c.in_ok-second.second.now c.in_ok-end.end result c.in_ok-end.ensures c.strip-3.ensures)))
