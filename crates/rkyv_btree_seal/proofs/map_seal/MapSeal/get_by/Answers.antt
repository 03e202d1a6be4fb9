-- The view of the map is any view of it.
use Rattle.std.proofs.Common.{sym, ◌∙◌}
use Rattle.rkyv_btree_seal.proofs.Alike.{lookup_alike}
use Rattle.rkyv_btree_seal.proofs.map_seal.MapSeal.get_by.Goals as goal

pub returns : goal.returns
returns g c view buffer position compared p =
    lookup_alike g.K.Portable.kind g.V.Portable.kind g.M.ArchivedMap.E c.as_view.result view (buffer ∙ sym c.as_view.ensures.buffer) (position ∙ sym c.as_view.ensures.position) (compared c.args.key) _ (c.get_by.ensures compared p)
