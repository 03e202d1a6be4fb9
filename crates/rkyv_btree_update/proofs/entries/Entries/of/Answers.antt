-- The first entry and those that remain are all.
use Rattle.std.proofs.Common.{◌∙◌}
use Rattle.std.specs.Option.{option_map}
use Rattle.rkyv_btree_update.proofs.Lent.{ahead_of, whole}
use Rattle.rkyv_btree_update.specs.Natives.{both}
use Rattle.rkyv_btree_update.specs.mirror.Merged.{shown_left}
use Rattle.rkyv_btree_update.proofs.entries.Entries.of.Goals as goal

pub returns : goal.returns
returns g c =
    let key = c.is_lent.ensures in
    let value = c.is_lent-2.ensures in
    ahead_of (shown_left {g = g.M.ArchivedMap} {m = g.M.Portable} {k = g.K.Portable} {v = g.V.Portable} g.KU.CompareArchived.lent g.VU.CompareArchived.lent) c.iter-later.result (option_map (both g.KU.CompareArchived.shown g.VU.CompareArchived.shown) c.next_native.result) c.next_native.new.entries c.next_native.ensures
    ∙ whole {g = g.M.ArchivedMap} g.KU.CompareArchived.lent g.VU.CompareArchived.lent key.of_value value.of_value key.reads value.reads c.iter-later.result c.args.map.view.buf.now c.args.map.view.pos c.iter-later.ensures.entries
