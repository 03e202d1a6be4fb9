-- The child before an entry.
use Rattle.std.proofs.Common.{◌∙◌, ◌+◌, arith, sym}
use Rattle.rkyv_btree_format.proofs.Sizes.{room_of}
use Rattle.rkyv_btree_source.proofs.Parts.{first_byte, part_number}
use Rattle.rkyv_btree_unverified.proofs.Goes.{has_kind, inner_of}
use Rattle.rkyv_btree_unverified.proofs.Passes.{target_none, target_some}
use Rattle.rkyv_btree_unverified.specs.Steps.{of_leaf, absent, bad_place, child}
use Rattle.rkyv_btree_source.proofs.search.child_in.Goals as goal

pub bounds-bytes-0 : goal.bounds-bytes-0
bounds-bytes-0 g c =
    let room = room_of _ _ _ g.met.K.Portable.laws g.met.V.Portable.laws c.requires.fitting in
    omega (arith, room.eight, c.requires.leaf)

pub returns-then-bytes-eq0-clause-gives : goal.returns-then-bytes-eq0-clause-gives
returns-then-bytes-eq0-clause-gives g c b hi n part space node =
    let K = g.K.Portable.kind in let V = g.V.Portable.kind in let E = g.M.ArchivedMap.E in
    let room = room_of K V E g.met.K.Portable.laws g.met.V.Portable.laws c.requires.fitting in
    of_leaf (has_kind K V E b hi c.args.node 0 space (first_byte b c.args.bytes.now c.args.node part (omega (arith, room.eight, c.requires.leaf)) ∙ c.if-bytes-eq0.true))

pub returns-then-num32-eq1-clause-gives : goal.returns-then-num32-eq1-clause-gives
returns-then-num32-eq1-clause-gives g c b hi n part space node =
    let K = g.K.Portable.kind in let V = g.V.Portable.kind in let E = g.M.ArchivedMap.E in
    let room = room_of K V E g.met.K.Portable.laws g.met.V.Portable.laws c.requires.fitting in
    let byte = first_byte b c.args.bytes.now c.args.node part (omega (arith, room.eight, c.requires.leaf)) in
    let number = part_number b c.args.bytes.now c.args.node part c.pointer_at-at.result (omega (arith, c.pointer_at-at.ensures.inside, c.requires.inner c.if-bytes-eq0.false)) in
    absent (inner_of K V E b hi c.args.node n node (λ z. c.if-bytes-eq0.false (sym byte ∙ z)))
    (rw (← c.pointer_at-at.ensures.value) (target_none b (c.args.node + c.pointer_at-at.result) (sym number ∙ (sym c.num32.ensures ∙ c.if-num32-eq1.true))))

pub returns-in-Ok-clause-gives : goal.returns-in-Ok-clause-gives
returns-in-Ok-clause-gives g c b hi n part space node =
    let K = g.K.Portable.kind in let V = g.V.Portable.kind in let E = g.M.ArchivedMap.E in
    let room = room_of K V E g.met.K.Portable.laws g.met.V.Portable.laws c.requires.fitting in
    let byte = first_byte b c.args.bytes.now c.args.node part (omega (arith, room.eight, c.requires.leaf)) in
    let number = part_number b c.args.bytes.now c.args.node part c.pointer_at-at.result (omega (arith, c.pointer_at-at.ensures.inside, c.requires.inner c.if-bytes-eq0.false)) in
    let to = target_some b (c.args.node + c.pointer_at-at.result) (λ z. c.if-num32-eq1.false (c.num32.ensures ∙ (number ∙ z))) in
    child (inner_of K V E b hi c.args.node n node (λ z. c.if-bytes-eq0.false (sym byte ∙ z))) (rw (← c.pointer_at-at.ensures.value) to) (c.in-Ok.ensures.gives b part)

pub returns-in-Err-clause-gives : goal.returns-in-Err-clause-gives
returns-in-Err-clause-gives g c b hi n part space node =
    let K = g.K.Portable.kind in let V = g.V.Portable.kind in let E = g.M.ArchivedMap.E in
    let room = room_of K V E g.met.K.Portable.laws g.met.V.Portable.laws c.requires.fitting in
    let byte = first_byte b c.args.bytes.now c.args.node part (omega (arith, room.eight, c.requires.leaf)) in
    let number = part_number b c.args.bytes.now c.args.node part c.pointer_at-at.result (omega (arith, c.pointer_at-at.ensures.inside, c.requires.inner c.if-bytes-eq0.false)) in
    let to = target_some b (c.args.node + c.pointer_at-at.result) (λ z. c.if-num32-eq1.false (c.num32.ensures ∙ (number ∙ z))) in
    bad_place (inner_of K V E b hi c.args.node n node (λ z. c.if-bytes-eq0.false (sym byte ∙ z))) (rw (← c.pointer_at-at.ensures.value) to) (c.in-Err.ensures.gives b part)
