-- All entries remain.
use Rattle.rkyv_btree_update.proofs.Lent.{whole}
use Rattle.rkyv_btree_update.proofs.updates.Updates.new.Goals as goal

pub returns-clause-old : goal.returns-clause-old
returns-clause-old g c =
    let key = c.is_lent.ensures in
    let value = c.is_lent-2.ensures in
    whole {g = g.M.ArchivedMap} g.KU.CompareArchived.lent g.VU.CompareArchived.lent key.of_value value.of_value key.reads value.reads c.iter.result c.args.view.view.buf.now c.args.view.view.pos c.iter.ensures.entries
