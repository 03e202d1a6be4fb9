-- The library writes the file, with the header or without.
use Rattle.std.proofs.lemmas.Result.{IfErr-weaker}
use Rattle.rkyv_btree_typed.specs.TypeNames.{name_of}
use Rattle.rkyv_btree_typed.specs.TypeNames as term
use Rattle.btreekv_types.proofs.Built.{typed_unmade, untyped_unmade}
use Rattle.btreekv_types.proofs.building.map_file.Goals as goal

pub returns-in-Typed-clause-ok : goal.returns-in-Typed-clause-ok
returns-in-Typed-clause-ok g c = rw c.in-Typed.is c.to_typed_archive.ensures.ok

pub returns-in-Typed-clause-err : goal.returns-in-Typed-clause-err
returns-in-Typed-clause-err g c =
    rw c.in-Typed.is (IfErr-weaker c.to_typed_archive.result _ _ (λ fault h.
    typed_unmade g.K.Native.Archive.archival g.V.Native.Archive.archival g.K.Portable.kind g.V.Portable.kind (name_of (term.map g.K.TypeName.term g.V.TypeName.term 5)) (λ m. m.entries) c.args.sorted.now fault h) c.to_typed_archive.ensures.err)

pub returns-in-Untyped-clause-ok : goal.returns-in-Untyped-clause-ok
returns-in-Untyped-clause-ok g c = rw c.in-Untyped.is c.to_archive.ensures.ok

pub returns-in-Untyped-clause-err : goal.returns-in-Untyped-clause-err
returns-in-Untyped-clause-err g c =
    rw c.in-Untyped.is (IfErr-weaker c.to_archive.result _ _ (λ fault h.
    untyped_unmade g.K.Native.Archive.archival g.V.Native.Archive.archival g.K.Portable.kind g.V.Portable.kind (name_of (term.map g.K.TypeName.term g.V.TypeName.term 5)) (λ m. m.entries) c.args.sorted.now fault h) c.to_archive.ensures.err)
