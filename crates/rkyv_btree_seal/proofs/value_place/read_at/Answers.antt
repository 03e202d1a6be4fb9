-- The entry means what stands at its places.
use Rattle.rkyv_btree_seal.proofs.Entered.{entry_means}
use Rattle.rkyv_btree_seal.proofs.value_place.read_at.Goals as goal

pub returns-clause-shows : goal.returns-clause-shows
returns-clause-shows g c i is =
    entry_means g.K.Portable.kind g.V.Portable.kind g.M.ArchivedMap.E g.met.K.Portable.laws g.met.V.Portable.laws g.met.V.InPlace.is_in_place.alone c.args.buf.now c.args.pos c.opened.ensures i _ is
