use Rattle.std.specs.Prelude.{IfErr}
use Rattle.std.proofs.lemmas.Result.{IfErr-weaker}
use Rattle.rkyv_btree_portable.specs.Refusing.{Misplaced, misplaced}
use Rattle.rkyv_btree_portable.proofs.check.check_place.Goals as goal

pub returns-clause-whole : goal.returns-clause-whole
returns-clause-whole g c =
    let kind = g.T.Portable.kind in
    let err : IfErr c.check_own_bytes.result (λ refusal. Misplaced c.args.buf.now kind.size kind.align c.args.pos refusal) = rw (← c.size.ensures, ← c.align.ensures.value) c.check_own_bytes.ensures.err in
    IfErr-weaker c.check_own_bytes.result _ _ (λ refusal h lo hi. misplaced h) err
