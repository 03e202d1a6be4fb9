-- No two causes hold of the same bytes.
use Rattle.std.proofs.Common.{List, ℕ, refl, subst}
use Rattle.rkyv_btree_ffi.proofs.Headers.{AreExact, headed, misheaded, named_is}
use Rattle.rkyv_btree_ffi.specs.MapTypes.{type_of}
use Rattle.rkyv_btree_ffi.proofs.typed.rkyv_btree_check_header.Goals as goal

pub returns-in-Ok-clause-other_version : goal.returns-in-Ok-clause-other_version
returns-in-Ok-clause-other_version c = λ t is.
    let exact = headed c.in-Some.name.now c.args.buf.now (c.in-Ok.ensures.accepts.0 refl) in
    exact.other_version

pub returns-in-Ok-clause-other_type : goal.returns-in-Ok-clause-other_type
returns-in-Ok-clause-other_type c = λ t is.
    let exact = headed c.in-Some.name.now c.args.buf.now (c.in-Ok.ensures.accepts.0 refl) in
    let same = named_is c.in-Some.name.now (type_of c.args.map_type) t c.in-Some.ensures.name is in
    (subst (λ (n : List ℕ). AreExact n c.args.buf.now 0) same exact).other_type

pub returns-in-Err-clause-untyped : goal.returns-in-Err-clause-untyped
returns-in-Err-clause-untyped c = λ t is. (misheaded c.in-Some.name.now c.args.buf.now c.in-Err.why c.in-Err.ensures.refuses).untyped

pub returns-in-Err-clause-other_version : goal.returns-in-Err-clause-other_version
returns-in-Err-clause-other_version c = λ t is. (misheaded c.in-Some.name.now c.args.buf.now c.in-Err.why c.in-Err.ensures.refuses).other_version

pub returns-in-Err-clause-other_type : goal.returns-in-Err-clause-other_type
returns-in-Err-clause-other_type c = λ t is.
    let exact = misheaded c.in-Some.name.now c.args.buf.now c.in-Err.why c.in-Err.ensures.refuses in
    let same = named_is c.in-Some.name.now (type_of c.args.map_type) t c.in-Some.ensures.name is in
    (subst (λ (n : List ℕ). AreExact n c.args.buf.now c.in-Err.why.code) same exact).other_type
