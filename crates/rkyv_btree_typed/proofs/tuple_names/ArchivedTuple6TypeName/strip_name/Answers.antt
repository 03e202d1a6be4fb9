-- Each name is stripped after the one before it.
use Rattle.std.proofs.Common.{◌++◌, codes, None}
use Rattle.rkyv_btree_typed.proofs.Stripped.{as_none, never_strips, then_strips}
use Rattle.rkyv_btree_typed.specs.TypeNames.{name_of}
use Rattle.rkyv_btree_typed.specs.TypeNames as term
use Rattle.rkyv_btree_typed.proofs.tuple_names.ArchivedTuple6TypeName.strip_name.Goals as goal

pub returns-in_err-third : goal.returns-in_err-third
returns-in_err-third g c =
    let rest6 = codes ")" in
    let rest5 = (codes ", " ++ name_of g.F.TypeName.term) ++ rest6 in
    let rest4 = (codes ", " ++ name_of g.E.TypeName.term) ++ rest5 in
    let rest3 = (codes ", " ++ name_of g.D.TypeName.term) ++ rest4 in
    let rest2 = (codes ", " ++ name_of g.C.TypeName.term) ++ rest3 in
    let rest1 = (codes ", " ++ name_of g.B.TypeName.term) ++ rest2 in
    let rest0 = (name_of g.A.TypeName.term) ++ rest1 in
    as_none (name_of (term.sextuple g.A.TypeName.term g.B.TypeName.term g.C.TypeName.term g.D.TypeName.term g.E.TypeName.term g.F.TypeName.term)) c.args.bytes.now _ c.from_residual-in_err-third.ensures
    (then_strips (codes "(") rest0 c.args.bytes.now c.in_ok-first.first None c.in_ok-first.ensures
    (then_strips (name_of g.A.TypeName.term) rest1 c.in_ok-first.first.now c.in_ok-second.second None c.in_ok-second.ensures
    (never_strips (codes ", " ++ name_of g.B.TypeName.term) rest2 c.in_ok-second.second.now c.in_err-third.ensures)))

pub returns-in_err-fourth : goal.returns-in_err-fourth
returns-in_err-fourth g c =
    let rest6 = codes ")" in
    let rest5 = (codes ", " ++ name_of g.F.TypeName.term) ++ rest6 in
    let rest4 = (codes ", " ++ name_of g.E.TypeName.term) ++ rest5 in
    let rest3 = (codes ", " ++ name_of g.D.TypeName.term) ++ rest4 in
    let rest2 = (codes ", " ++ name_of g.C.TypeName.term) ++ rest3 in
    let rest1 = (codes ", " ++ name_of g.B.TypeName.term) ++ rest2 in
    let rest0 = (name_of g.A.TypeName.term) ++ rest1 in
    as_none (name_of (term.sextuple g.A.TypeName.term g.B.TypeName.term g.C.TypeName.term g.D.TypeName.term g.E.TypeName.term g.F.TypeName.term)) c.args.bytes.now _ c.from_residual-in_err-fourth.ensures
    (then_strips (codes "(") rest0 c.args.bytes.now c.in_ok-first.first None c.in_ok-first.ensures
    (then_strips (name_of g.A.TypeName.term) rest1 c.in_ok-first.first.now c.in_ok-second.second None c.in_ok-second.ensures
    (then_strips (codes ", " ++ name_of g.B.TypeName.term) rest2 c.in_ok-second.second.now c.in_ok-third.third None c.in_ok-third.ensures
    (never_strips (codes ", " ++ name_of g.C.TypeName.term) rest3 c.in_ok-third.third.now c.in_err-fourth.ensures))))

pub returns-in_err-fifth : goal.returns-in_err-fifth
returns-in_err-fifth g c =
    let rest6 = codes ")" in
    let rest5 = (codes ", " ++ name_of g.F.TypeName.term) ++ rest6 in
    let rest4 = (codes ", " ++ name_of g.E.TypeName.term) ++ rest5 in
    let rest3 = (codes ", " ++ name_of g.D.TypeName.term) ++ rest4 in
    let rest2 = (codes ", " ++ name_of g.C.TypeName.term) ++ rest3 in
    let rest1 = (codes ", " ++ name_of g.B.TypeName.term) ++ rest2 in
    let rest0 = (name_of g.A.TypeName.term) ++ rest1 in
    as_none (name_of (term.sextuple g.A.TypeName.term g.B.TypeName.term g.C.TypeName.term g.D.TypeName.term g.E.TypeName.term g.F.TypeName.term)) c.args.bytes.now _ c.from_residual-in_err-fifth.ensures
    (then_strips (codes "(") rest0 c.args.bytes.now c.in_ok-first.first None c.in_ok-first.ensures
    (then_strips (name_of g.A.TypeName.term) rest1 c.in_ok-first.first.now c.in_ok-second.second None c.in_ok-second.ensures
    (then_strips (codes ", " ++ name_of g.B.TypeName.term) rest2 c.in_ok-second.second.now c.in_ok-third.third None c.in_ok-third.ensures
    (then_strips (codes ", " ++ name_of g.C.TypeName.term) rest3 c.in_ok-third.third.now c.in_ok-fourth.fourth None c.in_ok-fourth.ensures
    (never_strips (codes ", " ++ name_of g.D.TypeName.term) rest4 c.in_ok-fourth.fourth.now c.in_err-fifth.ensures)))))

pub returns-in_err-sixth : goal.returns-in_err-sixth
returns-in_err-sixth g c =
    let rest6 = codes ")" in
    let rest5 = (codes ", " ++ name_of g.F.TypeName.term) ++ rest6 in
    let rest4 = (codes ", " ++ name_of g.E.TypeName.term) ++ rest5 in
    let rest3 = (codes ", " ++ name_of g.D.TypeName.term) ++ rest4 in
    let rest2 = (codes ", " ++ name_of g.C.TypeName.term) ++ rest3 in
    let rest1 = (codes ", " ++ name_of g.B.TypeName.term) ++ rest2 in
    let rest0 = (name_of g.A.TypeName.term) ++ rest1 in
    as_none (name_of (term.sextuple g.A.TypeName.term g.B.TypeName.term g.C.TypeName.term g.D.TypeName.term g.E.TypeName.term g.F.TypeName.term)) c.args.bytes.now _ c.from_residual-in_err-sixth.ensures
    (then_strips (codes "(") rest0 c.args.bytes.now c.in_ok-first.first None c.in_ok-first.ensures
    (then_strips (name_of g.A.TypeName.term) rest1 c.in_ok-first.first.now c.in_ok-second.second None c.in_ok-second.ensures
    (then_strips (codes ", " ++ name_of g.B.TypeName.term) rest2 c.in_ok-second.second.now c.in_ok-third.third None c.in_ok-third.ensures
    (then_strips (codes ", " ++ name_of g.C.TypeName.term) rest3 c.in_ok-third.third.now c.in_ok-fourth.fourth None c.in_ok-fourth.ensures
    (then_strips (codes ", " ++ name_of g.D.TypeName.term) rest4 c.in_ok-fourth.fourth.now c.in_ok-fifth.fifth None c.in_ok-fifth.ensures
    (never_strips (codes ", " ++ name_of g.E.TypeName.term) rest5 c.in_ok-fifth.fifth.now c.in_err-sixth.ensures))))))

pub returns-in_err-end_of_six : goal.returns-in_err-end_of_six
returns-in_err-end_of_six g c =
    let rest6 = codes ")" in
    let rest5 = (codes ", " ++ name_of g.F.TypeName.term) ++ rest6 in
    let rest4 = (codes ", " ++ name_of g.E.TypeName.term) ++ rest5 in
    let rest3 = (codes ", " ++ name_of g.D.TypeName.term) ++ rest4 in
    let rest2 = (codes ", " ++ name_of g.C.TypeName.term) ++ rest3 in
    let rest1 = (codes ", " ++ name_of g.B.TypeName.term) ++ rest2 in
    let rest0 = (name_of g.A.TypeName.term) ++ rest1 in
    as_none (name_of (term.sextuple g.A.TypeName.term g.B.TypeName.term g.C.TypeName.term g.D.TypeName.term g.E.TypeName.term g.F.TypeName.term)) c.args.bytes.now _ c.from_residual-in_err-end_of_six.ensures
    (then_strips (codes "(") rest0 c.args.bytes.now c.in_ok-first.first None c.in_ok-first.ensures
    (then_strips (name_of g.A.TypeName.term) rest1 c.in_ok-first.first.now c.in_ok-second.second None c.in_ok-second.ensures
    (then_strips (codes ", " ++ name_of g.B.TypeName.term) rest2 c.in_ok-second.second.now c.in_ok-third.third None c.in_ok-third.ensures
    (then_strips (codes ", " ++ name_of g.C.TypeName.term) rest3 c.in_ok-third.third.now c.in_ok-fourth.fourth None c.in_ok-fourth.ensures
    (then_strips (codes ", " ++ name_of g.D.TypeName.term) rest4 c.in_ok-fourth.fourth.now c.in_ok-fifth.fifth None c.in_ok-fifth.ensures
    (then_strips (codes ", " ++ name_of g.E.TypeName.term) rest5 c.in_ok-fifth.fifth.now c.in_ok-sixth.sixth None c.in_ok-sixth.ensures
    (never_strips (codes ", " ++ name_of g.F.TypeName.term) rest6 c.in_ok-sixth.sixth.now c.in_err-end_of_six.ensures)))))))

pub returns : goal.returns
returns g c =
    let rest6 = codes ")" in
    let rest5 = (codes ", " ++ name_of g.F.TypeName.term) ++ rest6 in
    let rest4 = (codes ", " ++ name_of g.E.TypeName.term) ++ rest5 in
    let rest3 = (codes ", " ++ name_of g.D.TypeName.term) ++ rest4 in
    let rest2 = (codes ", " ++ name_of g.C.TypeName.term) ++ rest3 in
    let rest1 = (codes ", " ++ name_of g.B.TypeName.term) ++ rest2 in
    let rest0 = (name_of g.A.TypeName.term) ++ rest1 in
    let result = c.strip-2.result in
    then_strips (codes "(") rest0 c.args.bytes.now c.in_ok-first.first result c.in_ok-first.ensures
    (then_strips (name_of g.A.TypeName.term) rest1 c.in_ok-first.first.now c.in_ok-second.second result c.in_ok-second.ensures
    (then_strips (codes ", " ++ name_of g.B.TypeName.term) rest2 c.in_ok-second.second.now c.in_ok-third.third result c.in_ok-third.ensures
    (then_strips (codes ", " ++ name_of g.C.TypeName.term) rest3 c.in_ok-third.third.now c.in_ok-fourth.fourth result c.in_ok-fourth.ensures
    (then_strips (codes ", " ++ name_of g.D.TypeName.term) rest4 c.in_ok-fourth.fourth.now c.in_ok-fifth.fifth result c.in_ok-fifth.ensures
    (then_strips (codes ", " ++ name_of g.E.TypeName.term) rest5 c.in_ok-fifth.fifth.now c.in_ok-sixth.sixth result c.in_ok-sixth.ensures
    (then_strips (codes ", " ++ name_of g.F.TypeName.term) rest6 c.in_ok-sixth.sixth.now c.in_ok-end_of_six.end_of_six result c.in_ok-end_of_six.ensures
    c.strip-2.ensures))))))
