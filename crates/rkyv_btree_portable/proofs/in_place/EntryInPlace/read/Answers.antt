-- The parts of an entry's own bytes are those of its key and of its value.
use Rattle.std.proofs.Common.{◌≡◌, ℕ, List, arith, sym, subst}
use Rattle.std.proofs.lemmas.List.{length-take}
use Rattle.rkyv_btree_portable.specs.Bytes.{bytes_at}
use Rattle.rkyv_btree_portable.specs.InPlace.{IsOwn}
use Rattle.rkyv_btree_portable.specs.Kind.{Kind}
use Rattle.rkyv_btree_portable.specs.laws.EntryLaws.{key_inside}
use Rattle.rkyv_btree_portable.specs.laws.InPlace.{parts}
use Rattle.rkyv_btree_portable.proofs.in_place.EntryInPlace.read.Goals as goal

part_at : (kind : Kind) (own : List ℕ) (at from count size : ℕ) → at ≡ from → count ≡ size → IsOwn kind (bytes_at own from size) → IsOwn kind (bytes_at own at count)
part_at kind own at from count size p q is = subst (λ n. IsOwn kind (bytes_at own n count)) (sym p) (subst (λ n. IsOwn kind (bytes_at own from n)) (sym q) is)

pub slice_bounds-read-end : goal.slice_bounds-read-end
slice_bounds-read-end g c =
    let room = key_inside g.K.Portable.kind g.V.Portable.kind g.met.K.Portable.laws g.met.V.Portable.laws in
    omega (arith, room, c.size.ensures, c.value_offset-offset.ensures.value, c.value_offset-offset.ensures.inside, c.requires.is_own.size, length-take c.size.result c.args.bytes.now)

pub read-key-requires-clause-is_own : goal.read-key-requires-clause-is_own
read-key-requires-clause-is_own g c =
    let both = parts g.K.Portable.kind g.V.Portable.kind g.met.K.Portable.laws g.met.V.Portable.laws g.met.K.InPlace.is_in_place g.met.V.InPlace.is_in_place c.requires.fitting c.args.bytes.now c.requires.is_own in
    subst (λ n. IsOwn g.K.Portable.kind (bytes_at c.args.bytes.now 0 n)) (sym c.size.ensures) both.0

pub read-value-requires-clause-is_own : goal.read-value-requires-clause-is_own
read-value-requires-clause-is_own g c =
    let both = parts g.K.Portable.kind g.V.Portable.kind g.met.K.Portable.laws g.met.V.Portable.laws g.met.K.InPlace.is_in_place g.met.V.InPlace.is_in_place c.requires.fitting c.args.bytes.now c.requires.is_own in
    part_at g.V.Portable.kind c.args.bytes.now _ _ _ _ c.value_offset-offset.ensures.value (omega (arith, c.size-2.ensures)) both.1
