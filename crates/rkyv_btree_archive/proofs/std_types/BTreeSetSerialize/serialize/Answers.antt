use Rattle.rkyv_btree_writing_laws.specs.Entries.{now_of_key}
use Rattle.std.proofs.Common.{ℕ, ◌<◌, ◌∙◌, subst, sym}
use Rattle.std.specs.Map.Iter.{TakesFirst, deref}
use Rattle.rkyv_btree_writing_laws.proofs.Built.{list_built}
use Rattle.rkyv_btree_writing_laws.proofs.OneTree.{keys_one_tree}
use Rattle.rkyv_btree_writing_laws.proofs.SmallestMaps.{keys_smallest}
use Rattle.rkyv_btree_writing_laws.proofs.TreeSerialised.{keys_begun, keys_drained, list_unserialised, set_serialised, units_count}
use Rattle.rkyv_btree_writing_laws.specs.Sets.{entries_by, entry_borrowed, unit_archival}
use Rattle.rkyv_btree_format.specs.Units.{with_units}
use Rattle.rkyv_btree_portable.specs.Natives.{unit_form}
use Rattle.rkyv_btree_portable.specs.Scalars.{unit_kind}
use Rattle.rkyv_btree_portable.specs.laws.Natives.{unit_faithful}
use Rattle.rkyv_btree_portable.specs.laws.Scalars.{unit_laws}
use Rattle.rkyv_btree_writer.proofs.Archiving.{native_archived, native_causes}
use Rattle.rkyv_btree_writer.specs.Archiving.{itself}
use Rattle.std.proofs.lemmas.Result.{IfOk-weaker, IfErr-weaker}
use Rattle.rkyv_btree_archive.proofs.std_types.BTreeSetSerialize.serialize.Goals as goal

pub returns-clause-ok : goal.returns-clause-ok
returns-clause-ok g c =
    set_serialised 5 g.KU.Archived.Portable.kind g.KU.Archive.archival g.met.KU.Archive.same_kind g.met.KU.Archive.lawful c.requires.fitting (λ set. set.keys) c.args.self.now g.W.Writer.state _ _ c.len.result c.serialize_from_ordered_iter.result (rw (← c.iter.ensures.rest) (IfOk-weaker c.serialize_from_ordered_iter.result _ _ (λ root built. built.written) c.serialize_from_ordered_iter.ensures.ok))

pub returns-clause-err : goal.returns-clause-err
returns-clause-err g c =
    list_unserialised 5 g.KU.Archived.Portable.kind unit_kind g.KU.Archive.archival unit_archival g.met.KU.Archive.same_kind (itself unit_kind) g.met.KU.Archive.lawful unit_laws c.requires.fitting (λ set. with_units set.keys) c.args.self.now (g.W.Writer.state c.args.writer.now) _ (entry_borrowed now_of_key) (entries_by (TakesFirst deref)) c.args.self.now.keys c.len.result (keys_drained c.args.self.now.keys)
    g.met.KU.Archive.archived (native_archived unit_form unit_faithful) g.met.KU.Archive.causes (native_causes unit_form) (keys_begun c.args.self.now.keys) (c.len.ensures.len ∙ sym (units_count c.args.self.now.keys)) c.serialize_from_ordered_iter.result (λ none. (c.serialize_from_ordered_iter.ensures.limits.none none).0) (rw (← c.iter.ensures.rest) (IfErr-weaker c.serialize_from_ordered_iter.result _ _ (λ fault failed. failed.cause) c.serialize_from_ordered_iter.ensures.err))

pub returns-clause-built : goal.returns-clause-built
returns-clause-built g c =
    list_built g.KU.Archived.Portable.kind unit_kind 5 g.KU.Archive.archival unit_archival (g.W.Writer.state c.args.writer.now) (with_units c.args.self.now.keys) (g.W.Writer.state c.serialize_from_ordered_iter.new.writer) c.serialize_from_ordered_iter.result
    (keys_smallest g.KU.Archived.Portable.kind 5 g.KU.Archive.archival c.args.self.now.keys c.len.result g.W.Writer.state _ _ c.serialize_from_ordered_iter.result (rw (← c.iter.ensures.rest) (IfOk-weaker c.serialize_from_ordered_iter.result _ _ (λ root built. built.smallest) c.serialize_from_ordered_iter.ensures.ok)))
    (IfOk-weaker c.serialize_from_ordered_iter.result _ _ (λ root one some. one (subst (λ (n : ℕ). 0 < n) (units_count c.args.self.now.keys) some))
    (keys_one_tree g.KU.Archived.Portable.kind 5 g.KU.Archive.archival c.args.self.now.keys c.len.result g.W.Writer.state _ _ c.len.ensures.len c.serialize_from_ordered_iter.result (rw (← c.iter.ensures.rest) (IfOk-weaker c.serialize_from_ordered_iter.result _ _ (λ root built. built.one_tree) c.serialize_from_ordered_iter.ensures.ok))))
