use Rattle.std.proofs.Common.{length}
use Rattle.rkyv_btree_writing_laws.proofs.TreeCauses.{root_is}
use Rattle.rkyv_btree_archive.proofs.std_types.BTreeMapArchive.resolve.Goals as goal

pub returns-clause-ok : goal.returns-clause-ok
returns-clause-ok g c =
    root_is c.args.out.pos c.args.resolver (length c.args.self.now.entries) _ c.fill_root.result
    (rw (← c.len-entries.ensures.len) (rw (← c.resolver.view_is) c.fill_root.ensures.filled.ok))
    (rw (← c.len-entries.ensures.len) (rw (← c.resolver.view_is) c.fill_root.ensures.filled.fits))
