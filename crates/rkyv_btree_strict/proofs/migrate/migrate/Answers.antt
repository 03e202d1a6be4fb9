-- The native map is written, and what is written of it is strict.
use Rattle.std.proofs.lemmas.Result.{IfOk-weaker, IfErr-weaker, err_from_is_err_and}
use Rattle.rkyv_btree_convert.specs.Maps.{model_both}
use Rattle.rkyv_btree_strict.proofs.Migrated.{migrated_by, strict_of, then_appended, then_begins, unbuilt, unrooted}
use Rattle.rkyv_btree_strict.proofs.migrate.migrate.Goals as goal

pub returns-in_err-root-clause-err : goal.returns-in_err-root-clause-err
returns-in_err-root-clause-err g c =
    let p = err_from_is_err_and c.from_residual.result c.from_residual.ensures.1 in
    rw (p.1, p.2)
    (unbuilt g.T.Ord.cmp g.K.Portable.kind g.V.Portable.kind g.T.Archive.archival g.U.Archive.archival (model_both g.K.Deserialize.model g.V.Deserialize.model) _ c.in-Ok.map.entries (record { made = c.in-Ok.ensures.ok; increase = c.len-len.ensures.ordered }) c.len-len.result c.len-len.ensures.len (g.W.Writer.state c.args.writer.now) c.in_err-root.field-0.0 (g.W.Writer.state c.serialize_from_ordered_iter.new.writer)
    (rw (← c.iter.ensures.rest) c.in_err-root.ensures.err.cause))

pub returns-clause-ok : goal.returns-clause-ok
returns-clause-ok g c =
    migrated_by g.T.Ord.cmp g.K.Portable.kind g.V.Portable.kind g.T.Archive.archival g.U.Archive.archival (model_both g.K.Deserialize.model g.V.Deserialize.model) _ c.in-Ok.map.entries (record { made = c.in-Ok.ensures.ok; increase = c.len-len.ensures.ordered }) c.len-len.result c.len-len.ensures.len (g.W.Writer.state c.args.writer.now) _ c.iter.ensures.rest c.in_ok-root.root (g.W.Writer.state c.serialize_from_ordered_iter.new.writer) (g.W.Writer.state c.write_root.new.writer) c.write_root.result
    c.in_ok-root.ensures.ok.smallest c.in_ok-root.ensures.ok.went c.write_root.ensures.ok

pub returns-clause-strict : goal.returns-clause-strict
returns-clause-strict g c =
    IfOk-weaker c.write_root.result _ _ (λ at done.
    strict_of g.T.Ord.cmp g.K.Portable.kind g.V.Portable.kind g.T.Archive.archival g.U.Archive.archival (model_both g.K.Deserialize.model g.V.Deserialize.model) _ (g.W.Writer.state c.args.writer.now) at (g.W.Writer.state c.write_root.new.writer) done) (returns-clause-ok g c)

pub returns-clause-err : goal.returns-clause-err
returns-clause-err g c =
    unrooted g.T.Ord.cmp g.K.Portable.kind g.V.Portable.kind g.T.Archive.archival g.U.Archive.archival (model_both g.K.Deserialize.model g.V.Deserialize.model) _ c.in-Ok.map.entries (record { made = c.in-Ok.ensures.ok; increase = c.len-len.ensures.ordered }) c.len-len.result c.len-len.ensures.len (g.W.Writer.state c.args.writer.now) c.in_ok-root.root (g.W.Writer.state c.serialize_from_ordered_iter.new.writer) (g.W.Writer.state c.write_root.new.writer) c.write_root.result
    (rw (← c.iter.ensures.rest) c.in_ok-root.ensures.ok.written) c.write_root.ensures.err

pub returns-clause-went : goal.returns-clause-went
returns-clause-went g c = IfOk-weaker c.write_root.result _ _ (λ at done. then_appended (g.W.Writer.state c.args.writer.now) (g.W.Writer.state c.serialize_from_ordered_iter.new.writer) (g.W.Writer.state c.write_root.new.writer) c.in_ok-root.ensures.ok.went done.went) c.write_root.ensures.ok

pub returns-clause-kept : goal.returns-clause-kept
returns-clause-kept g c = IfErr-weaker c.write_root.result _ _ (λ fault failed. then_begins (g.W.Writer.state c.args.writer.now) (g.W.Writer.state c.serialize_from_ordered_iter.new.writer) (g.W.Writer.state c.write_root.new.writer) c.in_ok-root.ensures.ok.went failed.kept) c.write_root.ensures.err
