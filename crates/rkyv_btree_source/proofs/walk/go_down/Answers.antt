-- Where the path leads to no child, the entries of its last node come next.
use Rattle.std.proofs.Common.{arith, refl, sym}
use Rattle.rkyv_btree_source.proofs.Knowing.{of_same}
use Rattle.rkyv_btree_source.proofs.Walks.{unread_of}
use Rattle.rkyv_btree_unverified.proofs.Entered.{no_leaf}
use Rattle.rkyv_btree_source.proofs.walk.go_down.Goals as goal

pub descend-requires-clause-leads : goal.descend-requires-clause-leads
descend-requires-clause-leads g c b e =
    let same = of_same b (sym c.in-Ok-Some.ensures.same) e in
    let way = c.requires.way b same in
    let gives = c.in-Ok-Some.ensures.gives b same in
    rw c.pending.ensures.path (way.0, rw c.in-Ok-Some.field-0-is at gives, way.1)

pub returns-in-Err-clause-waits : goal.returns-in-Err-clause-waits
returns-in-Err-clause-waits g c b e =
    let way = c.requires.way b e in
    unread_of _ c.in-Err.fault (rw c.pending.ensures.path (record { way = way.0; few = way.1; most = omega arith; rest = refl }))

pub returns-in-Ok-None-clause-gives : goal.returns-in-Ok-None-clause-gives
returns-in-Ok-None-clause-gives g c b e =
    let way = c.requires.way b e in
    let gives = c.in-Ok-None.ensures.gives b e in
    rw c.pending.ensures.path
    (no_leaf g.K.Portable.kind g.V.Portable.kind g.M.ArchivedMap.E b c.args.pos c.args.walk.now.path.items c.args.walk.now.nodes way.0 way.1 (rw c.in-Ok-None.field-0-is at gives))
