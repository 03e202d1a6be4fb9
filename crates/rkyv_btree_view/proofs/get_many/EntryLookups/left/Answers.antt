-- A result is left for each way and each key that are.
use Rattle.std.proofs.Common.{arith, drop, map, take, length-append}
use Rattle.std.proofs.lemmas.List.{length-map}
use Rattle.std.specs.Option.{option_map}
use Rattle.std.specs.Prelude.{Option}
use Rattle.rkyv_btree_format.specs.Read.{entry_at}
use Rattle.rkyv_btree_walk.specs.Ends.{end_of}
use Rattle.rkyv_btree_walk.specs.declared.many.Way.{Way}
use Rattle.rkyv_btree_walk.specs.declared.many.Way.TheVariants.{On}
use Rattle.rkyv_btree_view.proofs.Held.{held_count}
use Rattle.rkyv_btree_view.specs.ManyLookups.{entry_looked_up}
use Rattle.rkyv_btree_view.proofs.get_many.EntryLookups.left.Goals as goal

pub returns : goal.returns
returns g c =
    let K = g.K.Portable.kind in
    let V = g.V.Portable.kind in
    let E = g.M.ArchivedMap.E in
    let self = c.args.self.now in
    let b = self.map.buf.now in
    let find = entry_looked_up K V E g.K.CompareWith.compared_at b self.map.pos in
    let held : Way → Option (K.Value × V.Value) = λ way. option_map (entry_at K V E b) (end_of way) in
    let all = length-append (map held (take self.left (drop self.next self.ways))) (map find self.keys.now) in
    let ways = held_count held (On 0) self.ways self.next self.left (omega (arith, self.within)) in
    let each = length-map self.keys.now find in
    omega (arith, all, ways, each)
