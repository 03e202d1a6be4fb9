-- As many nodes are read as there can be in the source.
use Rattle.std.proofs.Common.{◌∙◌, arith, refl, sym}
use Rattle.rkyv_btree_format.proofs.Sizes.{room_of}
use Rattle.rkyv_btree_source.proofs.Knowing.{of_same}
use Rattle.rkyv_btree_source.proofs.Stepping.{begins_counted}
use Rattle.rkyv_btree_unverified.proofs.Counted.{map_nodes}
use Rattle.rkyv_btree_unverified.proofs.OnWays.{places_are}
use Rattle.rkyv_btree_source.proofs.range.begin_walk.Goals as goal

pub nonzero_div-walk : goal.nonzero_div-walk
nonzero_div-walk g c =
    let room = room_of _ _ _ g.met.K.Portable.laws g.met.V.Portable.laws c.requires.fitting in
    omega (arith, room.eight, c.leaf_size.ensures, c.from.ensures)

pub begin-requires-clause-few : goal.begin-requires-clause-few
begin-requires-clause-few g c b e m h =
    let size = c.in-Ok.ensures.value b (of_same b (sym c.in-Ok.ensures.same) e) in
    rw (size, c.from.ensures ∙ c.leaf_size.ensures)
    (map_nodes g.K.Portable.kind g.V.Portable.kind g.M.ArchivedMap.E b g.met.K.Portable.laws g.met.V.Portable.laws c.requires.fitting c.args.pos m h)

pub returns-in-Ok-begin-clause-counted : goal.returns-in-Ok-begin-clause-counted
returns-in-Ok-begin-clause-counted g c b e =
    let size = c.in-Ok.ensures.value b e in
    begins_counted g.K.Portable.kind g.V.Portable.kind g.M.ArchivedMap.E b c.args.pos _ _ c.begin.new.walk (rw (size, c.from.ensures ∙ c.leaf_size.ensures) refl) (c.in-Ok-begin.ensures.gives b (of_same b c.in-Ok.ensures.same e))

pub returns-in-Ok-begin-clause-sought : goal.returns-in-Ok-begin-clause-sought
returns-in-Ok-begin-clause-sought g c b e known =
    let gives = c.in-Ok-begin.ensures.gives b (of_same b c.in-Ok.ensures.same e) in
    let sought = sym (places_are g.K.Portable.kind g.V.Portable.kind g.M.ArchivedMap.E b c.args.pos c.begin.new.walk gives.walks) ∙ gives.sought in
    rw (c.start_bound.ensures known) at sought
