use Rattle.std.proofs.Common.{length, ◌∙◌, sym}
use Rattle.rkyv_btree_writing_laws.proofs.TreeCauses.{root_is}
use Rattle.rkyv_btree_writing_laws.proofs.TreeSerialised.{units_count}
use Rattle.rkyv_btree_format.specs.Units.{with_units}
use Rattle.rkyv_btree_archive.proofs.std_types.BTreeSetArchive.resolve.Goals as goal

pub returns-clause-ok : goal.returns-clause-ok
returns-clause-ok g c =
    let count = c.len-keys.ensures.len ∙ sym (units_count c.args.self.now.keys) in
    root_is c.args.out.pos c.args.resolver (length (with_units c.args.self.now.keys)) _ c.fill_root.result
    (rw (← count) (rw (← c.resolver.view_is) c.fill_root.ensures.filled.ok))
    (rw (← count) (rw (← c.resolver.view_is) c.fill_root.ensures.filled.fits))
