-- The tag is written into cleared bytes, and the value resolves after it.
use Rattle.std.proofs.Common.{◌∙◌, length, sym, arith}
use Rattle.std.proofs.lemmas.Result.{on_ok_weaker}
use Rattle.rkyv_btree_archive.proofs.OptionResolved.{some_resolved}
use Rattle.rkyv_btree_archive.proofs.option.OptionArchive.resolve.Goals as goal

pub returns-clause-ok : goal.returns-clause-ok
returns-clause-ok g c =
    let align = c.align-align.ensures in
    let same = align.value ∙ sym g.met.T.Archive.same_kind.align in
    on_ok_weaker c.resolve_into.result (λ done. rw (c.in-Some.is, c.in-Some-resolver.is)
    (some_resolved g.T.Archive.archival c.in-Some.value c.in-Some-resolver.resolver c.args.out.pos c.resolve_into.new.bytes c.fill.new.self c.split_at_mut-front.result.0.now c.align-align.result (length c.args.out.bytes.now)
    same align.positive (omega (arith, align.value, c.requires.size)) (c.fill.ensures.after (λ y e. e)) c.split_at_mut-front.ensures.front done)) c.resolve_into.ensures.ok
