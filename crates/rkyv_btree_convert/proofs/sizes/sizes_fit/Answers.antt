-- The bound on the size of a node, by those of its parts.
use Rattle.rkyv_btree_convert.proofs.SmallNodes.{small_fits}
use Rattle.rkyv_btree_convert.proofs.sizes.sizes_fit.Goals as goal

pub returns : goal.returns
returns g c = small_fits _ _ _ g.met.M.Key.Portable.laws g.met.M.Mapped.Portable.laws c.requires.keys c.requires.values c.requires.some c.requires.few
