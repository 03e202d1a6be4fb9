-- What a pointer gives in the bytes of a node, it gives in the source.
use Rattle.std.proofs.Common.{arith, length, take}
use Rattle.std.proofs.lemmas.List.{length-take-le}
use Rattle.rkyv_btree_format.proofs.Sizes.{room_of}
use Rattle.rkyv_btree_source.proofs.Walks.{part_read}
use Rattle.rkyv_btree_unverified.proofs.Chains.{inner_room}
use Rattle.rkyv_btree_unverified.specs.Steps.{inner}
use Rattle.rkyv_btree_source.proofs.walk.child_at.Goals as goal

pub child_in-requires-clause-leaf : goal.child_in-requires-clause-leaf
child_in-requires-clause-leaf g c =
    let room = room_of _ _ _ g.met.K.Portable.laws g.met.V.Portable.laws c.requires.fitting in
    let count = length-take-le c.inner_size.result c.args.page.now (omega (arith, c.inner_size.ensures, c.requires.page)) in
    omega (arith, room.parts.leaf, c.read.auto.part, count, c.inner_size.ensures)

pub returns-in-Ok-child_in-clause-gives : goal.returns-in-Ok-child_in-clause-gives
returns-in-Ok-child_in-clause-gives g c b e hi is =
    let room = inner_room g.K.Portable.kind g.V.Portable.kind g.M.ArchivedMap.E b g.met.K.Portable.laws g.met.V.Portable.laws c.requires.fitting hi c.args.node is in
    let count = length-take-le c.inner_size.result c.args.page.now (omega (arith, c.inner_size.ensures, c.requires.page)) in
    let inside = c.requires.inside b e in
    let part = part_read b c.read.new.part c.args.node (length (take c.inner_size.result c.args.page.now)) inside.0 (omega (arith, inside.1, count, c.inner_size.ensures)) (c.in-Ok.ensures.gives b e) c.read.auto.part in
    c.in-Ok-child_in.ensures.gives b hi g.M.ArchivedMap.E part room (inner is)

pub returns-in-Err-child_in-clause-gives : goal.returns-in-Err-child_in-clause-gives
returns-in-Err-child_in-clause-gives g c b e hi is =
    let room = inner_room g.K.Portable.kind g.V.Portable.kind g.M.ArchivedMap.E b g.met.K.Portable.laws g.met.V.Portable.laws c.requires.fitting hi c.args.node is in
    let count = length-take-le c.inner_size.result c.args.page.now (omega (arith, c.inner_size.ensures, c.requires.page)) in
    let inside = c.requires.inside b e in
    let part = part_read b c.read.new.part c.args.node (length (take c.inner_size.result c.args.page.now)) inside.0 (omega (arith, inside.1, count, c.inner_size.ensures)) (c.in-Ok.ensures.gives b e) c.read.auto.part in
    c.in-Err-child_in.ensures.gives b hi g.M.ArchivedMap.E part room (inner is)
