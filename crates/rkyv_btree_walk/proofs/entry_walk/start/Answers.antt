-- The walk is as long as the list, of which its first leaf has a part.
use Rattle.std.proofs.Common.{length, arith, ap}
use Rattle.std.proofs.lemmas.List.{length-map}
use Rattle.rkyv_btree_format.specs.Layout.{layout_of}
use Rattle.rkyv_btree_format.specs.Read.{entry_at}
use Rattle.rkyv_btree_walk.specs.EntryPlaces.{entry_places}
use Rattle.rkyv_btree_walk.proofs.Paths.{begun_length}
use Rattle.rkyv_btree_walk.proofs.entry_walk.start.Goals as goal

pub overflow_sub-result : goal.overflow_sub-result
overflow_sub-result g c =
    let K = g.K.Portable.kind in
    let V = g.V.Portable.kind in
    let E = g.M.ArchivedMap.E in
    let b = c.args.buf.now in
    let all = begun_length (layout_of K V E) b c.begin-leaf.result.node c.begin-leaf.result.count c.begin-leaf.new.path.items _ c.begin-leaf.ensures.rest in
    let read = length-map (entry_places K V E b c.args.pos) (entry_at K V E b) in
    omega (arith, c.map_len.ensures, all, read)

pub returns-clause-walks : goal.returns-clause-walks
returns-clause-walks g c =
    let K = g.K.Portable.kind in
    let V = g.V.Portable.kind in
    let E = g.M.ArchivedMap.E in
    let b = c.args.buf.now in
    let walked = ap length c.begin-leaf.ensures.rest in
    let all = begun_length (layout_of K V E) b c.begin-leaf.result.node c.begin-leaf.result.count c.begin-leaf.new.path.items _ c.begin-leaf.ensures.rest in
    let read = length-map (entry_places K V E b c.args.pos) (entry_at K V E b) in
    record { below = ∣ c.begin-leaf.ensures.below ∣₁; counted = omega (arith, walked, all, read, c.map_len.ensures) }
