-- A tuple's own bytes are those of its fields, with padding after them.
use Rattle.std.proofs.Common.{sym, subst, IsTrue, ◌≤◌}
use Rattle.rkyv_btree_compound.specs.Joined.{joined_end, joined_kind}
use Rattle.rkyv_btree_compound.specs.laws.JoinedLaws.{laid_out_of}
use Rattle.rkyv_btree_compound.specs.laws.TupleLaws.{last_inside}
use Rattle.rkyv_btree_portable.specs.InPlace.{IsOwn}
use Rattle.rkyv_btree_compound.proofs.tuple_in_place.read_fields.Goals as goal

pub read_next-requires-clause-room : goal.read_next-requires-clause-room
read_next-requires-clause-room g c =
    let P = g.P.TupleFront.kind in
    let L = g.L.Portable.kind in
    subst (λ n. joined_end P L ≤ n) (sym c.requires.is_own.size) (last_inside P L g.met.P.TupleFront.laid_out (laid_out_of g.met.L.Portable.laws))

pub read_next-requires-clause-fitting : goal.read_next-requires-clause-fitting
read_next-requires-clause-fitting g c = subst (λ n. IsTrue (joined_kind g.P.TupleFront.kind g.L.Portable.kind n).is_fitting) (sym c.requires.is_own.size) c.requires.fitting

pub read_next-requires-clause-is_own : goal.read_next-requires-clause-is_own
read_next-requires-clause-is_own g c = subst (λ n. IsOwn (joined_kind g.P.TupleFront.kind g.L.Portable.kind n) c.args.bytes.now) (sym c.requires.is_own.size) c.requires.is_own
