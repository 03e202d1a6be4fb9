-- The key and the value of an entry stand at its places.
use Rattle.std.proofs.Common.{arith, sym, subst, IsTrue}
use Rattle.rkyv_btree_portable.specs.Views.{stands}
use Rattle.rkyv_btree_seal.specs.Alone.{StandsAlone}
use Rattle.rkyv_btree_seal.proofs.Entered.{entry_is}
use Rattle.rkyv_btree_seal.proofs.value_place.positions.Goals as goal

pub key_pos-key-requires-clause-within : goal.key_pos-key-requires-clause-within
key_pos-key-requires-clause-within g c = (entry_is g.K.Portable.kind g.V.Portable.kind g.M.ArchivedMap.E g.met.K.Portable.laws g.met.V.Portable.laws g.met.V.InPlace.is_in_place.alone c.args.buf.now c.args.pos c.opened.ensures c.requires.entry.0 _ c.requires.entry.1).index

pub key_pos-key-requires-clause-near : goal.key_pos-key-requires-clause-near
key_pos-key-requires-clause-near g c =
    let is = entry_is g.K.Portable.kind g.V.Portable.kind g.M.ArchivedMap.E g.met.K.Portable.laws g.met.V.Portable.laws g.met.V.InPlace.is_in_place.alone c.args.buf.now c.args.pos c.opened.ensures c.requires.entry.0 _ c.requires.entry.1 in
    omega (arith, is.near, is.short)

pub value_pos-value-requires-clause-within : goal.value_pos-value-requires-clause-within
value_pos-value-requires-clause-within g c = (entry_is g.K.Portable.kind g.V.Portable.kind g.M.ArchivedMap.E g.met.K.Portable.laws g.met.V.Portable.laws g.met.V.InPlace.is_in_place.alone c.args.buf.now c.args.pos c.opened.ensures c.requires.entry.0 _ c.requires.entry.1).index

pub value_pos-value-requires-clause-near : goal.value_pos-value-requires-clause-near
value_pos-value-requires-clause-near g c =
    let is = entry_is g.K.Portable.kind g.V.Portable.kind g.M.ArchivedMap.E g.met.K.Portable.laws g.met.V.Portable.laws g.met.V.InPlace.is_in_place.alone c.args.buf.now c.args.pos c.opened.ensures c.requires.entry.0 _ c.requires.entry.1 in
    omega (arith, is.near, is.short)

pub returns-clause-key : goal.returns-clause-key
returns-clause-key g c =
    let is = entry_is g.K.Portable.kind g.V.Portable.kind g.M.ArchivedMap.E g.met.K.Portable.laws g.met.V.Portable.laws g.met.V.InPlace.is_in_place.alone c.args.buf.now c.args.pos c.opened.ensures c.requires.entry.0 _ c.requires.entry.1 in
    subst (λ n. IsTrue (stands g.K.Portable.kind c.args.buf.now n)) (sym c.key_pos-key.ensures) is.key

pub returns-clause-key_first : goal.returns-clause-key_first
returns-clause-key_first g c =
    let is = entry_is g.K.Portable.kind g.V.Portable.kind g.M.ArchivedMap.E g.met.K.Portable.laws g.met.V.Portable.laws g.met.V.InPlace.is_in_place.alone c.args.buf.now c.args.pos c.opened.ensures c.requires.entry.0 _ c.requires.entry.1 in
    omega (arith, is.key_first, c.key_pos-key.ensures, c.value_pos-value.ensures)

pub returns-clause-value : goal.returns-clause-value
returns-clause-value g c =
    let is = entry_is g.K.Portable.kind g.V.Portable.kind g.M.ArchivedMap.E g.met.K.Portable.laws g.met.V.Portable.laws g.met.V.InPlace.is_in_place.alone c.args.buf.now c.args.pos c.opened.ensures c.requires.entry.0 _ c.requires.entry.1 in
    subst (StandsAlone g.V.Portable.kind c.args.buf.now) (sym c.value_pos-value.ensures) is.value
