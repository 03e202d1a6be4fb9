-- The written fields, with zeros around them, are own bytes of both.
use Rattle.std.proofs.Common.{◌≡◌, ℕ, List, ◌++◌, length, drop, arith, sym, ◌∙◌}
use Rattle.std.proofs.lemmas.List.{length-take}
use Rattle.rkyv_btree_compound.specs.laws.JoinedLaws.{laid_out_of}
use Rattle.rkyv_btree_compound.specs.laws.TupleLaws.{front_before}
use Rattle.rkyv_btree_portable.specs.Bytes.{filled}
use Rattle.rkyv_btree_portable.specs.laws.Holding.{parts_written}
use Rattle.rkyv_btree_compound.proofs.front_in_place.write_next.Goals as goal

-- the same of what was written, at the offset that the types name
written_next : (own own2 new new2 first second : List ℕ) (a b offset offset2 size : ℕ) → new ≡ own → new2 ≡ own2 → offset ≡ offset2
    → (own ++ drop a first) ++ (own2 ++ drop b second) ≡ filled (filled own offset ++ own2) size → (new ++ drop a first) ++ (new2 ++ drop b second) ≡ filled (filled own offset2 ++ own2) size
written_next own own2 new new2 first second a b offset offset2 size p q r e = rw (p, q, ← r) e

pub slice_bounds-write_front-end : goal.slice_bounds-write_front-end
slice_bounds-write_front-end g c =
    let before = front_before g.P.TupleFront.kind g.L.Portable.kind g.met.P.TupleFront.laid_out (laid_out_of g.met.L.Portable.laws) in
    omega (arith, before, c.end.ensures, c.next_offset.ensures.value, c.split_at_mut-first.ensures.front_len)

pub slice_bounds-write_front-end-2 : goal.slice_bounds-write_front-end-2
slice_bounds-write_front-end-2 g c =
    let before = front_before g.P.TupleFront.kind g.L.Portable.kind g.met.P.TupleFront.laid_out (laid_out_of g.met.L.Portable.laws) in
    omega (arith, before, c.end.ensures, c.next_offset.ensures.value, c.split_at_mut-first.ensures.front_len, length-take c.end.result c.split_at_mut-first.result.0.now)

pub write_front-requires-clause-size : goal.write_front-requires-clause-size
write_front-requires-clause-size g c =
    let before = front_before g.P.TupleFront.kind g.L.Portable.kind g.met.P.TupleFront.laid_out (laid_out_of g.met.L.Portable.laws) in
    omega (arith, before, c.end.ensures, c.next_offset.ensures.value, c.split_at_mut-first.ensures.front_len, length-take c.end.result c.split_at_mut-first.result.0.now)

pub returns-clause-bytes : goal.returns-clause-bytes
returns-clause-bytes g c =
    let before = front_before g.P.TupleFront.kind g.L.Portable.kind g.met.P.TupleFront.laid_out (laid_out_of g.met.L.Portable.laws) in
    let clear = c.fill.ensures.after (λ y e. e) in
    let cut = c.split_at_mut-first.ensures in
    let own = g.P.InPlaceFront.in_place.own_bytes c.args.front in
    let own2 = g.L.InPlace.in_place.own_bytes c.args.last in
    let ea : length own ≡ c.end.result = (g.met.P.InPlaceFront.alone.in_place.written c.args.front).size ∙ sym c.end.ensures in
    let eb : length own2 ≡ c.size.result = (g.met.L.InPlace.is_in_place.written c.args.last).size ∙ sym c.size.ensures in
    written_next own own2 c.write_front.new.bytes c.write.new.bytes c.split_at_mut-first.result.0.now c.split_at_mut-first.result.1.now c.end.result c.size.result _ _ (length c.args.bytes.now) c.write_front.ensures.bytes c.write.ensures.bytes c.next_offset.ensures.value
    (parts_written own own2 c.fill.new.self c.split_at_mut-first.result.0.now c.split_at_mut-first.result.1.now c.end.result c.size.result c.next_offset.result (length c.args.bytes.now) ea eb (omega (arith, before, c.end.ensures, c.next_offset.ensures.value)) (omega (arith, c.size.ensures, c.next_offset.ensures.value, c.requires.room)) clear cut.front cut.back)
