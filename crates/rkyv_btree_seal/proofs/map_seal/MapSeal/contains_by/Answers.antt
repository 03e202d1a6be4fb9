-- The view of the map is any view of it.
use Rattle.std.proofs.Common.{sym, ◌∙◌}
use Rattle.rkyv_btree_seal.proofs.Alike.{found_alike}
use Rattle.rkyv_btree_seal.proofs.map_seal.MapSeal.contains_by.Goals as goal

pub returns : goal.returns
returns g c view buffer position compared p =
    found_alike g.K.Portable.kind g.V.Portable.kind g.M.ArchivedMap.E c.as_view.result view (buffer ∙ sym c.as_view.ensures.buffer) (position ∙ sym c.as_view.ensures.position) (compared c.args.key) _ (c.contains_by.ensures compared p)
