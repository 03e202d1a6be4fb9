use Rattle.std.proofs.Common.{◌++◌, codes, None}
use Rattle.rkyv_btree_typed.proofs.Stripped.{as_none, never_strips, then_strips}
use Rattle.rkyv_btree_typed.specs.TypeNames.{name_of}
use Rattle.rkyv_btree_typed.specs.TypeNames as term
use Rattle.rkyv_btree_typed.proofs.type_name.ArchivedTuple3TypeName.strip_name.Goals as goal

pub returns-in_err-second : goal.returns-in_err-second
returns-in_err-second g c =
    let first = name_of g.A.TypeName.term in
    let second = name_of g.B.TypeName.term in
    let third = name_of g.C.TypeName.term in
    let end = third ++ codes ")" in
    let comma2 = codes ", " ++ end in
    let rest = second ++ comma2 in
    let comma = codes ", " ++ rest in
    as_none (name_of (term.triple g.A.TypeName.term g.B.TypeName.term g.C.TypeName.term)) c.args.bytes.now _ c.from_residual-in_err-second.ensures
    (then_strips (codes "(") (first ++ comma) c.args.bytes.now c.in_ok-first.first None c.in_ok-first.ensures
    (then_strips first comma c.in_ok-first.first.now c.in_ok-first_comma.first_comma None c.in_ok-first_comma.ensures
    (never_strips (codes ", ") rest c.in_ok-first_comma.first_comma.now c.in_err-second.ensures)))

pub returns-in_err-second_comma : goal.returns-in_err-second_comma
returns-in_err-second_comma g c =
    let first = name_of g.A.TypeName.term in
    let second = name_of g.B.TypeName.term in
    let third = name_of g.C.TypeName.term in
    let end = third ++ codes ")" in
    let comma2 = codes ", " ++ end in
    let rest = second ++ comma2 in
    let comma = codes ", " ++ rest in
    as_none (name_of (term.triple g.A.TypeName.term g.B.TypeName.term g.C.TypeName.term)) c.args.bytes.now _ c.from_residual-in_err-second_comma.ensures
    (then_strips (codes "(") (first ++ comma) c.args.bytes.now c.in_ok-first.first None c.in_ok-first.ensures
    (then_strips first comma c.in_ok-first.first.now c.in_ok-first_comma.first_comma None c.in_ok-first_comma.ensures
    (then_strips (codes ", ") rest c.in_ok-first_comma.first_comma.now c.in_ok-second.second None c.in_ok-second.ensures
    (never_strips second comma2 c.in_ok-second.second.now c.in_err-second_comma.ensures))))

pub returns-in_err-third : goal.returns-in_err-third
returns-in_err-third g c =
    let first = name_of g.A.TypeName.term in
    let second = name_of g.B.TypeName.term in
    let third = name_of g.C.TypeName.term in
    let end = third ++ codes ")" in
    let comma2 = codes ", " ++ end in
    let rest = second ++ comma2 in
    let comma = codes ", " ++ rest in
    as_none (name_of (term.triple g.A.TypeName.term g.B.TypeName.term g.C.TypeName.term)) c.args.bytes.now _ c.from_residual-in_err-third.ensures
    (then_strips (codes "(") (first ++ comma) c.args.bytes.now c.in_ok-first.first None c.in_ok-first.ensures
    (then_strips first comma c.in_ok-first.first.now c.in_ok-first_comma.first_comma None c.in_ok-first_comma.ensures
    (then_strips (codes ", ") rest c.in_ok-first_comma.first_comma.now c.in_ok-second.second None c.in_ok-second.ensures
    (then_strips second comma2 c.in_ok-second.second.now c.in_ok-second_comma.second_comma None c.in_ok-second_comma.ensures
    (never_strips (codes ", ") end c.in_ok-second_comma.second_comma.now c.in_err-third.ensures)))))

pub returns-in_err-end : goal.returns-in_err-end
returns-in_err-end g c =
    let first = name_of g.A.TypeName.term in
    let second = name_of g.B.TypeName.term in
    let third = name_of g.C.TypeName.term in
    let end = third ++ codes ")" in
    let comma2 = codes ", " ++ end in
    let rest = second ++ comma2 in
    let comma = codes ", " ++ rest in
    as_none (name_of (term.triple g.A.TypeName.term g.B.TypeName.term g.C.TypeName.term)) c.args.bytes.now _ c.from_residual-in_err-end.ensures
    (then_strips (codes "(") (first ++ comma) c.args.bytes.now c.in_ok-first.first None c.in_ok-first.ensures
    (then_strips first comma c.in_ok-first.first.now c.in_ok-first_comma.first_comma None c.in_ok-first_comma.ensures
    (then_strips (codes ", ") rest c.in_ok-first_comma.first_comma.now c.in_ok-second.second None c.in_ok-second.ensures
    (then_strips second comma2 c.in_ok-second.second.now c.in_ok-second_comma.second_comma None c.in_ok-second_comma.ensures
    (then_strips (codes ", ") end c.in_ok-second_comma.second_comma.now c.in_ok-third.third None c.in_ok-third.ensures
    (never_strips third (codes ")") c.in_ok-third.third.now c.in_err-end.ensures))))))

pub returns : goal.returns
returns g c =
    let first = name_of g.A.TypeName.term in
    let second = name_of g.B.TypeName.term in
    let third = name_of g.C.TypeName.term in
    let end = third ++ codes ")" in
    let comma2 = codes ", " ++ end in
    let rest = second ++ comma2 in
    let comma = codes ", " ++ rest in
    let result = c.strip-4.result in
    then_strips (codes "(") (first ++ comma) c.args.bytes.now c.in_ok-first.first result c.in_ok-first.ensures
    (then_strips first comma c.in_ok-first.first.now c.in_ok-first_comma.first_comma result c.in_ok-first_comma.ensures
    (then_strips (codes ", ") rest c.in_ok-first_comma.first_comma.now c.in_ok-second.second result c.in_ok-second.ensures
    (then_strips second comma2 c.in_ok-second.second.now c.in_ok-second_comma.second_comma result c.in_ok-second_comma.ensures
    (then_strips (codes ", ") end c.in_ok-second_comma.second_comma.now c.in_ok-third.third result c.in_ok-third.ensures
    (then_strips third (codes ")") c.in_ok-third.third.now c.in_ok-end.end result c.in_ok-end.ensures
    c.strip-4.ensures)))))
