-- The last entry is what stands at the last place.
use Rattle.std.proofs.Common.{sym, ap, ◌∙◌}
use Rattle.std.specs.Option.{option_map}
use Rattle.rkyv_btree_format.specs.Read.{entry_at}
use Rattle.rkyv_btree_walk.specs.EntryPlaces.{entry_places}
use Rattle.rkyv_btree_view.proofs.Lasts.{last_mapped}
use Rattle.rkyv_btree_view.proofs.view.View.last.Goals as goal

pub returns-in-None : goal.returns-in-None
returns-in-None g c =
    let places = entry_places g.K.Portable.kind g.V.Portable.kind g.M.ArchivedMap.E c.args.self.buf.now c.args.self.pos in
    let entry = entry_at g.K.Portable.kind g.V.Portable.kind g.M.ArchivedMap.E c.args.self.buf.now in
    ap (option_map entry) (rw c.in-None.is at c.last.ensures.last) ∙ last_mapped entry places

pub returns-in-Some : goal.returns-in-Some
returns-in-Some g c =
    let places = entry_places g.K.Portable.kind g.V.Portable.kind g.M.ArchivedMap.E c.args.self.buf.now c.args.self.pos in
    let entry = entry_at g.K.Portable.kind g.V.Portable.kind g.M.ArchivedMap.E c.args.self.buf.now in
    rw c.entry.ensures (ap (option_map entry) (rw c.in-Some.is at c.last.ensures.last) ∙ last_mapped entry places)
