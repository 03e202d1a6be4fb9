-- Each name is stripped after the one before it.
use Rattle.std.proofs.Common.{◌++◌, codes, None}
use Rattle.rkyv_btree_typed.proofs.Stripped.{as_none, never_strips, then_strips}
use Rattle.rkyv_btree_typed.specs.TypeNames.{name_of}
use Rattle.rkyv_btree_typed.specs.TypeNames as term
use Rattle.rkyv_btree_typed.proofs.tuple_names.ArchivedTuple4TypeName.strip_name.Goals as goal

pub returns-in_err-third : goal.returns-in_err-third
returns-in_err-third g c =
    let rest4 = codes ")" in
    let rest3 = (codes ", " ++ name_of g.D.TypeName.term) ++ rest4 in
    let rest2 = (codes ", " ++ name_of g.C.TypeName.term) ++ rest3 in
    let rest1 = (codes ", " ++ name_of g.B.TypeName.term) ++ rest2 in
    let rest0 = (name_of g.A.TypeName.term) ++ rest1 in
    as_none (name_of (term.quadruple g.A.TypeName.term g.B.TypeName.term g.C.TypeName.term g.D.TypeName.term)) c.args.bytes.now _ c.from_residual-in_err-third.ensures
    (then_strips (codes "(") rest0 c.args.bytes.now c.in_ok-first.first None c.in_ok-first.ensures
    (then_strips (name_of g.A.TypeName.term) rest1 c.in_ok-first.first.now c.in_ok-second.second None c.in_ok-second.ensures
    (never_strips (codes ", " ++ name_of g.B.TypeName.term) rest2 c.in_ok-second.second.now c.in_err-third.ensures)))

pub returns-in_err-fourth : goal.returns-in_err-fourth
returns-in_err-fourth g c =
    let rest4 = codes ")" in
    let rest3 = (codes ", " ++ name_of g.D.TypeName.term) ++ rest4 in
    let rest2 = (codes ", " ++ name_of g.C.TypeName.term) ++ rest3 in
    let rest1 = (codes ", " ++ name_of g.B.TypeName.term) ++ rest2 in
    let rest0 = (name_of g.A.TypeName.term) ++ rest1 in
    as_none (name_of (term.quadruple g.A.TypeName.term g.B.TypeName.term g.C.TypeName.term g.D.TypeName.term)) c.args.bytes.now _ c.from_residual-in_err-fourth.ensures
    (then_strips (codes "(") rest0 c.args.bytes.now c.in_ok-first.first None c.in_ok-first.ensures
    (then_strips (name_of g.A.TypeName.term) rest1 c.in_ok-first.first.now c.in_ok-second.second None c.in_ok-second.ensures
    (then_strips (codes ", " ++ name_of g.B.TypeName.term) rest2 c.in_ok-second.second.now c.in_ok-third.third None c.in_ok-third.ensures
    (never_strips (codes ", " ++ name_of g.C.TypeName.term) rest3 c.in_ok-third.third.now c.in_err-fourth.ensures))))

pub returns-in_err-end_of_four : goal.returns-in_err-end_of_four
returns-in_err-end_of_four g c =
    let rest4 = codes ")" in
    let rest3 = (codes ", " ++ name_of g.D.TypeName.term) ++ rest4 in
    let rest2 = (codes ", " ++ name_of g.C.TypeName.term) ++ rest3 in
    let rest1 = (codes ", " ++ name_of g.B.TypeName.term) ++ rest2 in
    let rest0 = (name_of g.A.TypeName.term) ++ rest1 in
    as_none (name_of (term.quadruple g.A.TypeName.term g.B.TypeName.term g.C.TypeName.term g.D.TypeName.term)) c.args.bytes.now _ c.from_residual-in_err-end_of_four.ensures
    (then_strips (codes "(") rest0 c.args.bytes.now c.in_ok-first.first None c.in_ok-first.ensures
    (then_strips (name_of g.A.TypeName.term) rest1 c.in_ok-first.first.now c.in_ok-second.second None c.in_ok-second.ensures
    (then_strips (codes ", " ++ name_of g.B.TypeName.term) rest2 c.in_ok-second.second.now c.in_ok-third.third None c.in_ok-third.ensures
    (then_strips (codes ", " ++ name_of g.C.TypeName.term) rest3 c.in_ok-third.third.now c.in_ok-fourth.fourth None c.in_ok-fourth.ensures
    (never_strips (codes ", " ++ name_of g.D.TypeName.term) rest4 c.in_ok-fourth.fourth.now c.in_err-end_of_four.ensures)))))

pub returns : goal.returns
returns g c =
    let rest4 = codes ")" in
    let rest3 = (codes ", " ++ name_of g.D.TypeName.term) ++ rest4 in
    let rest2 = (codes ", " ++ name_of g.C.TypeName.term) ++ rest3 in
    let rest1 = (codes ", " ++ name_of g.B.TypeName.term) ++ rest2 in
    let rest0 = (name_of g.A.TypeName.term) ++ rest1 in
    let result = c.strip-2.result in
    then_strips (codes "(") rest0 c.args.bytes.now c.in_ok-first.first result c.in_ok-first.ensures
    (then_strips (name_of g.A.TypeName.term) rest1 c.in_ok-first.first.now c.in_ok-second.second result c.in_ok-second.ensures
    (then_strips (codes ", " ++ name_of g.B.TypeName.term) rest2 c.in_ok-second.second.now c.in_ok-third.third result c.in_ok-third.ensures
    (then_strips (codes ", " ++ name_of g.C.TypeName.term) rest3 c.in_ok-third.third.now c.in_ok-fourth.fourth result c.in_ok-fourth.ensures
    (then_strips (codes ", " ++ name_of g.D.TypeName.term) rest4 c.in_ok-fourth.fourth.now c.in_ok-end_of_four.end_of_four result c.in_ok-end_of_four.ensures
    c.strip-2.ensures))))
