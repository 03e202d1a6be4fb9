-- A pointer leads to one place, wherever its bytes were read to.
use Rattle.std.proofs.Common.{◌∙◌, ◌+◌, ap, subst, pos, ◌+ℤ◌}
use Rattle.std.specs.Int.{cast_signed, w32}
use Rattle.rkyv_btree_portable.specs.Bytes.{place_at}
use Rattle.rkyv_btree_source.proofs.Parts.{part_place}
use Rattle.rkyv_btree_unverified.proofs.Places.{kept}
use Rattle.rkyv_btree_unverified.specs.Steps.{PlaceGives}
use Rattle.rkyv_btree_source.proofs.node.place_in.Goals as goal

pub returns-clause-gives : goal.returns-clause-gives
returns-clause-gives g c b part =
    let place = place_at b (c.args.start + c.args.index) in
    let same = kept c.place_of.result place (c.place_of.ensures.place ∙ (ap (λ n. pos (c.args.start + c.args.index) +ℤ cast_signed w32 n) c.num32.ensures ∙ part_place b c.args.bytes.now c.args.start part c.args.index c.requires.inside)) c.place_of.type_inv in
    subst (λ z. PlaceGives g.K.Portable.kind g.V.Portable.kind g.M.ArchivedMap.E c.args.hi z c.place_before.result) same c.place_before.ensures.gives
