-- The key of the entry stands at its place, and reads what the entry has.
use Rattle.std.proofs.Common.{◌∙◌, ap, refl}
use Rattle.std.specs.Option.{option_map}
use Rattle.rkyv_btree_unverified.proofs.Promised.{part_mapped}
use Rattle.rkyv_btree_unverified.specs.Steps.{entry_places}
use Rattle.rkyv_btree_view.proofs.ManyFound.{if_some}
use Rattle.rkyv_btree_unverified.proofs.unverified.Unverified.key_found.Goals as goal

pub entry_found-requires-clause-short : goal.entry_found-requires-clause-short
entry_found-requires-clause-short g c = (c.requires c.in-Ok.place c.in-Ok.is).0

pub entry_found-requires-clause-stands : goal.entry_found-requires-clause-stands
entry_found-requires-clause-stands g c = if_some _ _ (c.requires c.in-Ok.place c.in-Ok.is).1

pub returns-in-None : goal.returns-in-None
returns-in-None g c =
    let K = g.K.Portable.kind in let V = g.V.Portable.kind in let E = g.M.ArchivedMap.E in
    let ensures = rw c.in-None.is at c.entry_found.ensures in
    rw c.in-Ok.is (_, refl, tt, ap (option_map (λ e. e.0)) ensures.places ∙ part_mapped (λ e. e.0) (entry_places K V E) c.in-Ok.place, ap (option_map (λ e. e.0)) ensures.value)

pub returns-in-Some : goal.returns-in-Some
returns-in-Some g c =
    let K = g.K.Portable.kind in let V = g.V.Portable.kind in let E = g.M.ArchivedMap.E in
    let ensures = rw c.in-Some.is at c.entry_found.ensures in
    rw c.in-Ok.is (_, refl, ensures.buffer.0, ap (option_map (λ e. e.0)) ensures.places ∙ part_mapped (λ e. e.0) (entry_places K V E) c.in-Ok.place, ap (option_map (λ e. e.0)) ensures.value)
