-- The last field stands at its place.
use Rattle.std.proofs.Common.{arith}
use Rattle.rkyv_btree_compound.specs.Joined.{joined_end}
use Rattle.rkyv_btree_compound.specs.laws.TupleLaws.{both_stand}
use Rattle.rkyv_btree_compound.proofs.front_view.FrontView+Next+P+L.split.Goals as goal

pub invariant_of-last : goal.invariant_of-last
invariant_of-last g c =
    let P = g.P.TupleFront.kind in
    let L = g.L.Portable.kind in
    rw c.next_offset.ensures.value (record { valid = (both_stand P L g.met.P.TupleFront.laid_out g.met.L.Portable.laws (joined_end P L) (omega arith) _ _ c.args.self.valid).last })
