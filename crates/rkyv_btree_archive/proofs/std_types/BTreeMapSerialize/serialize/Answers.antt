use Rattle.rkyv_btree_writing_laws.specs.Entries.{now_of}
use Rattle.std.specs.Map.Iter.{TakesFirst, deref_pair}
use Rattle.rkyv_btree_writing_laws.proofs.Built.{list_built}
use Rattle.rkyv_btree_writing_laws.proofs.OneTree.{list_one_tree}
use Rattle.rkyv_btree_writing_laws.proofs.SmallestMaps.{list_smallest}
use Rattle.rkyv_btree_writing_laws.proofs.TreeSerialised.{entries_begun, entries_drained, list_serialised, list_unserialised}
use Rattle.std.proofs.lemmas.Result.{IfOk-weaker, IfErr-weaker}
use Rattle.rkyv_btree_archive.proofs.std_types.BTreeMapSerialize.serialize.Goals as goal

pub returns-clause-ok : goal.returns-clause-ok
returns-clause-ok g c =
    list_serialised 5 g.KU.Archived.Portable.kind g.VU.Archived.Portable.kind g.KU.Archive.archival g.VU.Archive.archival g.met.KU.Archive.same_kind g.met.VU.Archive.same_kind g.met.KU.Archive.lawful g.met.VU.Archive.lawful c.requires.fitting (λ map. map.entries) c.args.self.now (g.W.Writer.state c.args.writer.now) _ now_of (TakesFirst deref_pair) c.args.self.now.entries c.len-count.result (entries_drained c.args.self.now.entries)
    c.serialize_from_ordered_iter.result (rw (← c.iter.ensures.rest) (IfOk-weaker c.serialize_from_ordered_iter.result _ _ (λ root built. built.written) c.serialize_from_ordered_iter.ensures.ok))

pub returns-clause-err : goal.returns-clause-err
returns-clause-err g c =
    list_unserialised 5 g.KU.Archived.Portable.kind g.VU.Archived.Portable.kind g.KU.Archive.archival g.VU.Archive.archival g.met.KU.Archive.same_kind g.met.VU.Archive.same_kind g.met.KU.Archive.lawful g.met.VU.Archive.lawful c.requires.fitting (λ map. map.entries) c.args.self.now (g.W.Writer.state c.args.writer.now) _ now_of (TakesFirst deref_pair) c.args.self.now.entries c.len-count.result (entries_drained c.args.self.now.entries)
    g.met.KU.Archive.archived g.met.VU.Archive.archived g.met.KU.Archive.causes g.met.VU.Archive.causes (entries_begun c.args.self.now.entries) c.len-count.ensures.len c.serialize_from_ordered_iter.result (λ none. (c.serialize_from_ordered_iter.ensures.limits.none none).0) (rw (← c.iter.ensures.rest) (IfErr-weaker c.serialize_from_ordered_iter.result _ _ (λ fault failed. failed.cause) c.serialize_from_ordered_iter.ensures.err))

pub returns-clause-built : goal.returns-clause-built
returns-clause-built g c =
    list_built g.KU.Archived.Portable.kind g.VU.Archived.Portable.kind 5 g.KU.Archive.archival g.VU.Archive.archival (g.W.Writer.state c.args.writer.now) c.args.self.now.entries (g.W.Writer.state c.serialize_from_ordered_iter.new.writer) c.serialize_from_ordered_iter.result
    (list_smallest g.KU.Archived.Portable.kind g.VU.Archived.Portable.kind 5 g.KU.Archive.archival g.VU.Archive.archival c.args.self.now.entries now_of (TakesFirst deref_pair) c.args.self.now.entries c.len-count.result g.W.Writer.state _ _ (entries_drained c.args.self.now.entries)
    c.serialize_from_ordered_iter.result (rw (← c.iter.ensures.rest) (IfOk-weaker c.serialize_from_ordered_iter.result _ _ (λ root built. built.smallest) c.serialize_from_ordered_iter.ensures.ok)))
    (list_one_tree g.KU.Archived.Portable.kind g.VU.Archived.Portable.kind 5 g.KU.Archive.archival g.VU.Archive.archival c.args.self.now.entries now_of (TakesFirst deref_pair) c.args.self.now.entries c.len-count.result g.W.Writer.state _ _ (entries_drained c.args.self.now.entries) c.len-count.ensures.len
    c.serialize_from_ordered_iter.result (rw (← c.iter.ensures.rest) (IfOk-weaker c.serialize_from_ordered_iter.result _ _ (λ root built. built.one_tree) c.serialize_from_ordered_iter.ensures.ok)))
