use Rattle.std.proofs.Common.{List, ℕ, subst, sym}
use Rattle.rkyv_btree_writing_laws.proofs.Whole.{archive_of_placed}
use Rattle.rkyv_btree_format.specs.OwnBytes.{IsArchiveOf}
use Rattle.rkyv_btree_writer.specs.Archiving.{Serialises}
use Rattle.rkyv_btree_writer.specs.Writing.{Writing}
use Rattle.rkyv_btree_archive.proofs.to_archive.to_archive.Goals as goal

pub returns-clause-ok : goal.returns-clause-ok
returns-clause-ok g c same =
    let T = g.T.Archive.archival in
    let kind = g.T.Archived.Portable.kind in
    subst (λ (bytes : List ℕ). IsArchiveOf kind bytes (same.to (T.meaning c.args.value.now))) (sym c.into_vec.ensures) (archive_of_placed T kind g.met.T.Archived.Portable.laws same g.met.T.Archive.archived c.requires c.args.value.now _ _ _ _ (subst (λ (s : Writing). Serialises T c.args.value.now s c.serialize.new.writer c.in_ok-resolver.resolver) c.new-writer.ensures c.in_ok-resolver.ensures.ok) c.in_ok-write_value.ensures.ok)
