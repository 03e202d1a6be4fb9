-- What is left between both bounds remains of the walk.
use Rattle.rkyv_btree_walk.proofs.Placed.{between_left}
use Rattle.rkyv_btree_walk.proofs.range_walk.start_between.Goals as goal

pub returns-clause-walks : goal.returns-clause-walks
returns-clause-walks g c = record { nodes = ∣ c.between-stop.ensures.below ∣₁; placed = ∣ c.between-stop.ensures.placed ∣₁ }

pub returns-clause-run : goal.returns-clause-run
returns-clause-run g c =
    let same = between_left g.K.Portable.kind g.V.Portable.kind g.M.ArchivedMap.E g.met.K.Portable.laws g.met.V.Portable.laws c.args.buf.now c.args.pos c.opened.ensures _ (returns-clause-walks g c) in
    rw same c.between-stop.ensures.places

pub returns-clause-whole : goal.returns-clause-whole
returns-clause-whole g c low high =
    let same = between_left g.K.Portable.kind g.V.Portable.kind g.M.ArchivedMap.E g.met.K.Portable.laws g.met.V.Portable.laws c.args.buf.now c.args.pos c.opened.ensures _ (returns-clause-walks g c) in
    rw same (c.between-stop.ensures.whole low high)

pub returns-clause-within : goal.returns-clause-within
returns-clause-within g c f p =
    let same = between_left g.K.Portable.kind g.V.Portable.kind g.M.ArchivedMap.E g.met.K.Portable.laws g.met.V.Portable.laws c.args.buf.now c.args.pos c.opened.ensures _ (returns-clause-walks g c) in
    rw same (c.between-stop.ensures.within f p)
