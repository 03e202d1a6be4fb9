-- The entry's key and value are those that stand at its places.
use Rattle.std.proofs.Common.{ap, ◌∙◌}
use Rattle.rkyv_btree_seal.specs.Put.{put_bytes}
use Rattle.rkyv_btree_seal.proofs.Entered.{puts, put_stands}
use Rattle.rkyv_btree_seal.proofs.Lending.{calls_entry, may_moved}
use Rattle.rkyv_btree_seal.proofs.closures.step_entry.Goals as goal

pub step_at-result-requires-clause-may : goal.step_at-result-requires-clause-may
step_at-result-requires-clause-may g c =
    may_moved _ _ _ _ _ _ _ c.positions-key.ensures.key_place c.positions-key.ensures.value_place _ _ c.requires.may

pub closed-requires : goal.closed-requires
closed-requires g c =
    let r = c.step_at-result.ensures in
    put_stands g.K.Portable.kind g.V.Portable.kind g.M.ArchivedMap.E g.met.K.Portable.laws g.met.V.Portable.laws g.met.V.InPlace.is_in_place.alone c.args.buf.now c.args.pos c.opened.ensures _ c.requires.entry r.after.now.buf.now _ r.keeps.is_own
    (r.bytes ∙ ap (λ n. put_bytes c.args.buf.now n r.after.now.buf.now) c.positions-key.ensures.value_place)

pub returns-clause-calls : goal.returns-clause-calls
returns-clause-calls g c =
    let r = c.step_at-result.ensures in
    calls_entry g.K.Portable.kind g.V.Portable.kind g.M.ArchivedMap.E c.args.buf.now c.args.pos _ _ _ _ _ _ c.positions-key.ensures.key_place c.positions-key.ensures.value_place r
    (puts g.K.Portable.kind g.V.Portable.kind g.M.ArchivedMap.E g.met.K.Portable.laws g.met.V.Portable.laws g.met.V.InPlace.is_in_place.alone c.args.buf.now c.args.pos c.opened.ensures _ c.requires.entry r.after.now.buf.now _ r.keeps.is_own
    (r.bytes ∙ ap (λ n. put_bytes c.args.buf.now n r.after.now.buf.now) c.positions-key.ensures.value_place))
