-- The own bytes that are written are a value's.
use Rattle.std.proofs.Common.{arith}
use Rattle.rkyv_btree_seal.proofs.Entered.{puts, put_stands}
use Rattle.rkyv_btree_seal.proofs.Lending.{pasted}
use Rattle.rkyv_btree_seal.proofs.value_place.put_at.Goals as goal

pub closed-requires : goal.closed-requires
closed-requires g c =
    let o = g.met.V.InPlace.is_in_place.written c.args.value in
    put_stands g.K.Portable.kind g.V.Portable.kind g.M.ArchivedMap.E g.met.K.Portable.laws g.met.V.Portable.laws g.met.V.InPlace.is_in_place.alone c.args.buf.now c.args.pos c.opened.ensures _ c.requires.entry (g.V.InPlace.in_place.own_bytes c.args.value) _ o
    (pasted _ _ _ _ _ _ c.positions-value_pos.ensures.value_place c.write.ensures.bytes (omega (arith, o.size, c.size.ensures)))

pub returns-clause-puts : goal.returns-clause-puts
returns-clause-puts g c =
    let o = g.met.V.InPlace.is_in_place.written c.args.value in
    puts g.K.Portable.kind g.V.Portable.kind g.M.ArchivedMap.E g.met.K.Portable.laws g.met.V.Portable.laws g.met.V.InPlace.is_in_place.alone c.args.buf.now c.args.pos c.opened.ensures _ c.requires.entry (g.V.InPlace.in_place.own_bytes c.args.value) _ o
    (pasted _ _ _ _ _ _ c.positions-value_pos.ensures.value_place c.write.ensures.bytes (omega (arith, o.size, c.size.ensures)))
