-- The first fields serialised, and then the next one.
use Rattle.std.proofs.lemmas.Result.{err_from_is_err_and}
use Rattle.rkyv_btree_writing_laws.proofs.Kept.{then_begins, went_begins, went_on}
use Rattle.rkyv_btree_archive.proofs.Both.{key_refused, value_refused, both_serialised}
use Rattle.rkyv_btree_archive.proofs.front_serialize.serialize_next.Goals as goal

pub returns-in_err-key-clause-err : goal.returns-in_err-key-clause-err
returns-in_err-key-clause-err g c =
    let p = err_from_is_err_and c.from_residual.result c.from_residual.ensures.1 in
    rw (p.1, p.2) (key_refused g.row.W-Error.Denot g.P.ArchiveFront.archival g.L.Archive.archival (λ x. x) (g.P.ArchiveFront.held c.args.front, c.args.last.now) (g.W.Writer.state c.args.writer.now) c.in_err-key.field-0.0 (g.W.Writer.state c.serialize_front.new.writer) c.in_err-key.ensures.err)

pub returns-in_err-value-clause-err : goal.returns-in_err-value-clause-err
returns-in_err-value-clause-err g c =
    let done = c.in_ok-key.ensures.ok in
    let p = err_from_is_err_and c.from_residual-in_err-value.result c.from_residual-in_err-value.ensures.1 in
    rw (p.1, p.2) (value_refused g.row.W-Error.Denot g.P.ArchiveFront.archival g.L.Archive.archival (λ x. x) (g.P.ArchiveFront.held c.args.front, c.args.last.now) (g.W.Writer.state c.args.writer.now) done.0 (g.W.Writer.state c.serialize_front.new.writer) c.in_ok-key.key done.1 done.2 c.in_err-value.field-0.0 (g.W.Writer.state c.serialize.new.writer) c.in_err-value.ensures.err)

pub returns-clause-ok : goal.returns-clause-ok
returns-clause-ok g c =
    let key = c.in_ok-key.ensures.ok in
    let value = c.in_ok-value.ensures.ok in
    both_serialised g.row.W-Error.Denot g.P.ArchiveFront.archival g.L.Archive.archival (λ x. x) (g.P.ArchiveFront.held c.args.front, c.args.last.now) (g.W.Writer.state c.args.writer.now) key.0 (g.W.Writer.state c.serialize_front.new.writer) c.in_ok-key.key key.1 key.2 value.0 (g.W.Writer.state c.serialize.new.writer) c.in_ok-value.value value.1 value.2 key.3 value.3 key.4 value.4

pub returns-in_err-key-clause-kept : goal.returns-in_err-key-clause-kept
returns-in_err-key-clause-kept g c =
    let p = err_from_is_err_and c.from_residual.result c.from_residual.ensures.1 in
    rw p.1 c.in_err-key.ensures.kept

pub returns-in_err-value-clause-kept : goal.returns-in_err-value-clause-kept
returns-in_err-value-clause-kept g c =
    let s = g.W.Writer.state c.args.writer.now in
    let m = g.W.Writer.state c.serialize_front.new.writer in
    let p = err_from_is_err_and c.from_residual-in_err-value.result c.from_residual-in_err-value.ensures.1 in
    rw p.1 (then_begins s m (g.W.Writer.state c.serialize.new.writer) (went_begins s m c.in_ok-key.ensures.went) c.in_err-value.ensures.kept)

pub returns-clause-went : goal.returns-clause-went
returns-clause-went g c = went_on (g.W.Writer.state c.args.writer.now) (g.W.Writer.state c.serialize_front.new.writer) (g.W.Writer.state c.serialize.new.writer) c.in_ok-key.ensures.went c.in_ok-value.ensures.went
