use Rattle.std.proofs.Common.{◌≡◌}
use Rattle.rkyv_btree_base.specs.Read.{read_map}
use Rattle.examples.proofs.Concluded.{list_read}
use Rattle.examples.proofs.headline.visited.Goals as goal

pub returns : goal.returns
returns g c m is =
    let list : read_map g.K.Portable.kind g.V.Portable.kind g.M.ArchivedMap.E c.args.map.buf.now c.args.map.pos ≡ m = list_read g.K.Portable.kind g.V.Portable.kind g.M.ArchivedMap.E g.met.K.Portable.laws g.met.V.Portable.laws c.args.map.buf.now c.args.map.pos m is in
    rw list at c.visit.ensures
