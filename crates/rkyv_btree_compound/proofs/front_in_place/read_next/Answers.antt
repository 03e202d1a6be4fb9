-- The parts of own bytes are those of the fields.
use Rattle.std.proofs.Common.{◌≡◌, ℕ, List, length, arith, sym, subst}
use Rattle.std.proofs.lemmas.List.{length-take}
use Rattle.rkyv_btree_compound.specs.laws.JoinedLaws.{laid_out_of}
use Rattle.rkyv_btree_compound.specs.laws.TupleInPlaceLaws.{parts}
use Rattle.rkyv_btree_compound.specs.laws.TupleLaws.{front_before}
use Rattle.rkyv_btree_portable.specs.Bytes.{bytes_at}
use Rattle.rkyv_btree_portable.specs.InPlace.{IsOwn}
use Rattle.rkyv_btree_portable.specs.Kind.{Kind}
use Rattle.rkyv_btree_compound.proofs.front_in_place.read_next.Goals as goal

part_at : (kind : Kind) (own : List ℕ) (at from count size : ℕ) → at ≡ from → count ≡ size → IsOwn kind (bytes_at own from size) → IsOwn kind (bytes_at own at count)
part_at kind own at from count size p q is = rw (p, q) is

pub slice_bounds-read_front-end : goal.slice_bounds-read_front-end
slice_bounds-read_front-end g c =
    let before = front_before g.P.TupleFront.kind g.L.Portable.kind g.met.P.TupleFront.laid_out (laid_out_of g.met.L.Portable.laws) in
    omega (arith, before, c.end.ensures, c.requires.room, length-take c.end.result c.args.bytes.now)

pub read_front-front-requires-clause-is_own : goal.read_front-front-requires-clause-is_own
read_front-front-requires-clause-is_own g c =
    let both = parts g.P.TupleFront.kind g.L.Portable.kind g.met.P.TupleFront.laid_out (laid_out_of g.met.L.Portable.laws) (length c.args.bytes.now) c.requires.room (λ x. x) g.met.P.InPlaceFront.alone.in_place g.met.L.InPlace.is_in_place c.requires.fitting c.args.bytes.now c.requires.is_own in
    subst (λ n. IsOwn g.P.TupleFront.kind (bytes_at c.args.bytes.now 0 n)) (sym c.end.ensures) both.0

pub read-last-requires-clause-is_own : goal.read-last-requires-clause-is_own
read-last-requires-clause-is_own g c =
    let both = parts g.P.TupleFront.kind g.L.Portable.kind g.met.P.TupleFront.laid_out (laid_out_of g.met.L.Portable.laws) (length c.args.bytes.now) c.requires.room (λ x. x) g.met.P.InPlaceFront.alone.in_place g.met.L.InPlace.is_in_place c.requires.fitting c.args.bytes.now c.requires.is_own in
    part_at g.L.Portable.kind c.args.bytes.now _ _ _ _ c.next_offset-offset.ensures.value (omega (arith, c.size.ensures)) both.1
