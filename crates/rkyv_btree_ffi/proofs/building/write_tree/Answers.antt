-- Both calls write the tree of all entries, or stop for a cause.
use Rattle.std.proofs.Common.{length, refl}
use Rattle.std.proofs.lemmas.Result.{IfOk-weaker, IfErr-weaker}
use Rattle.rkyv_btree_writing_laws.specs.Entries.{now_of}
use Rattle.rkyv_btree_writing_laws.proofs.TreeSerialised.{list_serialised}
use Rattle.rkyv_btree_ffi.proofs.Built.{drained, any_fault, strict_fault, archived_all, built_all, increasing_all, if_err}
use Rattle.rkyv_btree_ffi.proofs.building.write_tree.Goals as goal

pub returns-in-Any-clause-serialised : goal.returns-in-Any-clause-serialised
returns-in-Any-clause-serialised g c =
    list_serialised 5 g.K.Portable.kind g.V.Portable.kind g.K.Native.Archive.archival g.V.Native.Archive.archival g.met.K.Native.Archive.same_kind g.met.V.Native.Archive.same_kind g.met.K.Native.Archive.lawful g.met.V.Native.Archive.lawful c.requires (λ xs. xs) c.args.natives.now c.args.writer.now c.serialize_from_ordered_iter.new.writer now_of _ _ (length c.args.natives.now) (drained (λ e. e.rest.now) _)
    c.serialize_from_ordered_iter.result (IfOk-weaker c.serialize_from_ordered_iter.result _ _ (λ root built. built.written) c.serialize_from_ordered_iter.ensures.ok)

pub returns-in-Any-clause-archive : goal.returns-in-Any-clause-archive
returns-in-Any-clause-archive g c =
    archived_all g.K.Portable.kind g.V.Portable.kind g.K.Native.Archive.archival g.V.Native.Archive.archival c.args.natives.now (λ e. e.rest.now) _ refl (length c.args.natives.now) (λ w. w) c.args.writer.now c.serialize_from_ordered_iter.new.writer c.serialize_from_ordered_iter.result (IfOk-weaker c.serialize_from_ordered_iter.result _ _ (λ root built. built.archived) c.serialize_from_ordered_iter.ensures.ok)

pub returns-in-Any-clause-err : goal.returns-in-Any-clause-err
returns-in-Any-clause-err g c =
    rw c.in-Any.is (if_err c.serialize_from_ordered_iter.result (λ none. (c.serialize_from_ordered_iter.ensures.limits.none none).0) (IfErr-weaker c.serialize_from_ordered_iter.result _ _ (λ fault failed. failed.cause) c.serialize_from_ordered_iter.ensures.err)
    (λ fault none h. any_fault g.K.Portable.kind g.V.Portable.kind g.K.Native.Archive.archival g.V.Native.Archive.archival g.met.K.Native.Archive.same_kind g.met.V.Native.Archive.same_kind g.met.K.Native.Archive.lawful g.met.V.Native.Archive.lawful c.requires g.met.K.Native.Archive.archived g.met.V.Native.Archive.archived g.met.K.Native.Archive.causes g.met.V.Native.Archive.causes g.K.Native.Ord.cmp c.args.natives.now (λ e. e.rest.now) _ refl c.args.writer.now c.serialize_from_ordered_iter.new.writer fault none h))

pub returns-in-Increasing-clause-serialised : goal.returns-in-Increasing-clause-serialised
returns-in-Increasing-clause-serialised g c =
    list_serialised 5 g.K.Portable.kind g.V.Portable.kind g.K.Native.Archive.archival g.V.Native.Archive.archival g.met.K.Native.Archive.same_kind g.met.V.Native.Archive.same_kind g.met.K.Native.Archive.lawful g.met.V.Native.Archive.lawful c.requires (λ xs. xs) c.args.natives.now c.args.writer.now c.serialize_strict_from_ordered_iter.new.writer now_of _ _ (length c.args.natives.now) (drained (λ e. e.rest.now) _)
    c.serialize_strict_from_ordered_iter.result (IfOk-weaker c.serialize_strict_from_ordered_iter.result _ _ (λ root built. built.written) c.serialize_strict_from_ordered_iter.ensures.ok)

pub returns-in-Increasing-clause-archive : goal.returns-in-Increasing-clause-archive
returns-in-Increasing-clause-archive g c =
    archived_all g.K.Portable.kind g.V.Portable.kind g.K.Native.Archive.archival g.V.Native.Archive.archival c.args.natives.now (λ e. e.rest.now) _ refl (length c.args.natives.now) (λ w. w) c.args.writer.now c.serialize_strict_from_ordered_iter.new.writer c.serialize_strict_from_ordered_iter.result (IfOk-weaker c.serialize_strict_from_ordered_iter.result _ _ (λ root built. built.archived) c.serialize_strict_from_ordered_iter.ensures.ok)

pub returns-in-Increasing-clause-err : goal.returns-in-Increasing-clause-err
returns-in-Increasing-clause-err g c =
    rw c.in-Increasing.is (if_err c.serialize_strict_from_ordered_iter.result (λ none. (c.serialize_strict_from_ordered_iter.ensures.limits.none none).0) (IfErr-weaker c.serialize_strict_from_ordered_iter.result _ _ (λ fault failed. failed.cause) c.serialize_strict_from_ordered_iter.ensures.err)
    (λ fault none h. strict_fault g.K.Portable.kind g.V.Portable.kind g.K.Native.Archive.archival g.V.Native.Archive.archival g.met.K.Native.Archive.same_kind g.met.V.Native.Archive.same_kind g.met.K.Native.Archive.lawful g.met.V.Native.Archive.lawful c.requires g.met.K.Native.Archive.archived g.met.V.Native.Archive.archived g.met.K.Native.Archive.causes g.met.V.Native.Archive.causes g.K.Native.Ord.cmp c.args.natives.now (λ e. e.rest.now) _ refl c.args.writer.now c.serialize_strict_from_ordered_iter.new.writer fault none h))

pub returns-in-Increasing-clause-increasing : goal.returns-in-Increasing-clause-increasing
returns-in-Increasing-clause-increasing g c = λ up.
    increasing_all g.K.Portable.kind g.V.Portable.kind g.K.Native.Archive.archival g.V.Native.Archive.archival c.args.natives.now (λ e. e.rest.now) _ refl (length c.args.natives.now) (λ w. w) c.args.writer.now c.serialize_strict_from_ordered_iter.new.writer g.K.Native.Ord.cmp c.serialize_strict_from_ordered_iter.result c.serialize_strict_from_ordered_iter.ensures.in_order

pub returns-in-Any-clause-tree : goal.returns-in-Any-clause-tree
returns-in-Any-clause-tree g c =
    built_all g.K.Portable.kind g.V.Portable.kind g.K.Native.Archive.archival g.V.Native.Archive.archival c.args.natives.now (λ e. e.rest.now) _ refl (length c.args.natives.now) (λ w. w) c.args.writer.now c.serialize_from_ordered_iter.new.writer c.serialize_from_ordered_iter.result (IfOk-weaker c.serialize_from_ordered_iter.result _ _ (λ root built. built.written) c.serialize_from_ordered_iter.ensures.ok)

pub returns-in-Increasing-clause-tree : goal.returns-in-Increasing-clause-tree
returns-in-Increasing-clause-tree g c =
    built_all g.K.Portable.kind g.V.Portable.kind g.K.Native.Archive.archival g.V.Native.Archive.archival c.args.natives.now (λ e. e.rest.now) _ refl (length c.args.natives.now) (λ w. w) c.args.writer.now c.serialize_strict_from_ordered_iter.new.writer c.serialize_strict_from_ordered_iter.result (IfOk-weaker c.serialize_strict_from_ordered_iter.result _ _ (λ root built. built.written) c.serialize_strict_from_ordered_iter.ensures.ok)
