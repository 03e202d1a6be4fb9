use Rattle.std.proofs.Common.{rules}
use Rattle.rkyv_btree_typed.proofs.Built.{typed_of_built}
use Rattle.rkyv_btree_typed.specs.TypeNames.{name_of}
use Rattle.rkyv_btree_typed.specs.TypedWriting.{IsBuiltAfter}
use Rattle.rkyv_btree_typed.proofs.to_typed.to_typed_archive.Goals as goal

pub returns-clause-ok : goal.returns-clause-ok
returns-clause-ok g c same =
    let T = g.T.Archive.archival in
    let kind = g.T.Archived.Portable.kind in
    let name = name_of g.T.Archived.TypeName.term in
    let built : IsBuiltAfter T kind name c.args.value.now c.into_vec.result.items = search rules in
    typed_of_built T kind g.met.T.Archived.Portable.laws same g.met.T.Archive.archived c.requires name c.args.value.now c.into_vec.result.items c.in_ok-write_header.ensures.named.0 c.in_ok-write_header.ensures.named.1 built
