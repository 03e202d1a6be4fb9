-- The written key and value, with zeros around them, are the entry's own bytes.
use Rattle.std.proofs.Common.{◌≡◌, ℕ, List, ◌++◌, length, drop, arith, sym, ◌∙◌}
use Rattle.std.proofs.lemmas.List.{length-take}
use Rattle.rkyv_btree_portable.specs.Bytes.{filled}
use Rattle.rkyv_btree_portable.specs.laws.EntryLaws.{key_inside}
use Rattle.rkyv_btree_portable.specs.laws.Holding.{parts_written}
use Rattle.rkyv_btree_portable.specs.laws.InPlace.{model_of_pair}
use Rattle.rkyv_btree_portable.proofs.in_place.EntryInPlace.write.Goals as goal

-- the same of what was written, at the numbers that the type names
written_pair : (key value first second front back : List ℕ) (k v offset offset2 size size2 : ℕ) → first ≡ key → second ≡ value → offset ≡ offset2 → size ≡ size2 →
    (key ++ drop k front) ++ (value ++ drop v back) ≡ filled (filled key offset ++ value) size → (first ++ drop k front) ++ (second ++ drop v back) ≡ filled (filled key offset2 ++ value) size2
written_pair key value first second front back k v offset offset2 size size2 p q r s e = rw (p, q, ← r, ← s) e

pub slice_bounds-write-end : goal.slice_bounds-write-end
slice_bounds-write-end g c =
    let room = key_inside g.K.Portable.kind g.V.Portable.kind g.met.K.Portable.laws g.met.V.Portable.laws in
    omega (arith, room, c.size.ensures, c.value_offset.ensures.value, c.split_at_mut-front.ensures.front_len)

pub slice_bounds-write-end-2 : goal.slice_bounds-write-end-2
slice_bounds-write-end-2 g c =
    let room = key_inside g.K.Portable.kind g.V.Portable.kind g.met.K.Portable.laws g.met.V.Portable.laws in
    omega (arith, room, c.size.ensures, c.value_offset.ensures.value, c.split_at_mut-front.ensures.front_len, length-take c.size.result c.split_at_mut-front.result.0.now)

pub write-requires-clause-size : goal.write-requires-clause-size
write-requires-clause-size g c =
    let room = key_inside g.K.Portable.kind g.V.Portable.kind g.met.K.Portable.laws g.met.V.Portable.laws in
    omega (arith, room, c.size.ensures, c.value_offset.ensures.value, c.split_at_mut-front.ensures.front_len, length-take c.size.result c.split_at_mut-front.result.0.now)

pub returns-clause-bytes : goal.returns-clause-bytes
returns-clause-bytes g c =
    let K = g.K.Portable.kind in
    let V = g.V.Portable.kind in
    let room = key_inside K V g.met.K.Portable.laws g.met.V.Portable.laws in
    let clear = c.fill.ensures.after (λ y e. e) in
    let cut = c.split_at_mut-front.ensures in
    let key = g.K.InPlace.in_place.own_bytes c.args.value.0 in
    let value = g.V.InPlace.in_place.own_bytes c.args.value.1 in
    let key_len : length key ≡ c.size.result = (g.met.K.InPlace.is_in_place.written c.args.value.0).size ∙ sym c.size.ensures in
    let value_len : length value ≡ c.size-2.result = (g.met.V.InPlace.is_in_place.written c.args.value.1).size ∙ sym c.size-2.ensures in
    let offset = c.value_offset.result in
    let size = length c.args.bytes.now in
    written_pair key value c.write.new.bytes c.write-2.new.bytes c.split_at_mut-front.result.0.now c.split_at_mut-front.result.1.now c.size.result c.size-2.result _ _ _ _ c.write.ensures.bytes c.write-2.ensures.bytes c.value_offset.ensures.value c.requires.size
    (parts_written key value c.fill.new.self c.split_at_mut-front.result.0.now c.split_at_mut-front.result.1.now c.size.result c.size-2.result c.value_offset.result (length c.args.bytes.now) key_len value_len (omega (arith, room, c.size.ensures, c.value_offset.ensures.value)) (omega (arith, c.size-2.ensures, c.value_offset.ensures.inside, c.requires.size)) clear cut.front cut.back)

pub returns-clause-model : goal.returns-clause-model
returns-clause-model g c = model_of_pair g.K.Portable.kind g.V.Portable.kind g.met.K.Portable.laws g.met.V.Portable.laws g.met.K.InPlace.is_in_place g.met.V.InPlace.is_in_place c.args.value c.write.ensures.model c.write-2.ensures.model
