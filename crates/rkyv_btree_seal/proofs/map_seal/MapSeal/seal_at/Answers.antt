-- What is read at the value's place is the entry's value, and a write there puts it into the map.
use Rattle.std.proofs.Common.{ap, ◌∙◌}
use Rattle.rkyv_btree_seal.specs.Put.{put_bytes}
use Rattle.rkyv_btree_seal.proofs.Entered.{entry_means, puts}
use Rattle.rkyv_btree_seal.proofs.map_seal.MapSeal.seal_at.Goals as goal

pub returns-clause-puts : goal.returns-clause-puts
returns-clause-puts g c own o =
    let place = c.at.ensures.position ∙ c.positions-at.ensures.value_place in
    puts g.K.Portable.kind g.V.Portable.kind g.M.ArchivedMap.E g.met.K.Portable.laws g.met.V.Portable.laws g.met.V.InPlace.is_in_place.alone c.args.buf.now c.args.pos c.opened.ensures _ c.requires.entry own _ o (ap (λ n. put_bytes c.args.buf.now n own) place)

pub returns-clause-shows : goal.returns-clause-shows
returns-clause-shows g c i is = entry_means g.K.Portable.kind g.V.Portable.kind g.M.ArchivedMap.E g.met.K.Portable.laws g.met.V.Portable.laws g.met.V.InPlace.is_in_place.alone c.args.buf.now c.args.pos c.opened.ensures i _ is
