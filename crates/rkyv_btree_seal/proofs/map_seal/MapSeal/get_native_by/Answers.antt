-- The view of the map is any view of it.
use Rattle.std.proofs.Common.{sym, ◌∙◌}
use Rattle.rkyv_btree_seal.proofs.Alike.{native_alike}
use Rattle.rkyv_btree_seal.proofs.map_seal.MapSeal.get_native_by.Goals as goal

pub returns : goal.returns
returns g c view buffer position native reads compared p =
    native_alike g.K.Portable.kind g.V.Portable.kind g.M.ArchivedMap.E c.as_view.result view (buffer ∙ sym c.as_view.ensures.buffer) (position ∙ sym c.as_view.ensures.position) (compared c.args.key) native _ (c.get_native_by.ensures native reads compared p)
