-- A byte string is brought with own bytes that lead to it.
use Rattle.std.proofs.Common.{◌≡◌, ◌∙◌, ◌+◌, ◌/◌, ◌*◌, ◌≤◌, ap, arith, length, take, sym}
use Rattle.std.proofs.lemmas.List.{length-take}
use Rattle.rkyv_btree_portable.specs.Bytes.{bytes_at, number_at}
use Rattle.rkyv_btree_source.proofs.ByteStrings.{brought_reads, brought_valid, refuses_odd, refuses_range, source_reads, source_valid}
use Rattle.rkyv_btree_source.proofs.fetch.ArchivedBytesFetch.fetch.Goals as goal

pub returns-then-pos-ne0-clause-brings : goal.returns-then-pos-ne0-clause-brings
returns-then-pos-ne0-clause-brings g c b e = refuses_odd b c.args.own_bytes.now c.args.pos (c.requires.part b e) c.requires.size c.if-pos-ne0.true

pub returns-in_default-clause-brings : goal.returns-in_default-clause-brings
returns-in_default-clause-brings g c b e = refuses_range b c.args.own_bytes.now c.args.pos (c.requires.part b e) c.requires.size c.if-pos-ne0.false (c.in_default.ensures.none b (c.requires.part b e))

pub returns-clause-valid : goal.returns-clause-valid
returns-clause-valid g c =
    let front = c.split_at_mut-front.ensures.front_len in
    let back = c.split_at_mut-front.ensures.back_len in
    let count : length (take c.num32-len.result c.split_at_mut-front.result.0.now) ≡ c.num32-len.result = simp length-take (omega (arith, c.from.ensures, front)) in
    let size : length c.read.new.part ≡ c.num32-len.result = omega (arith, c.read.auto.part, count) in
    let near : (c.from.result + 3) / 4 * 4 ≤ 2147483648 = omega (arith, c.in-Some.ensures.near, c.in-Some.ensures.before, c.num32-len.ensures, c.from.ensures) in
    brought_valid c.read.new.part c.split_at_mut-front.result.0.now c.write_own.new.bytes c.split_at_mut-front.result.1.now ((c.from.result + 3) / 4 * 4) c.num32-len.result
    front (omega (arith, c.from.ensures)) size (ap length c.write_own.ensures) (omega (arith, front, back, c.if-room-place.false)) (omega (arith, front, back, c.requires.short, c.if-room-place.false)) (omega arith) near c.write_own.ensures

pub returns-clause-brings : goal.returns-clause-brings
returns-clause-brings g c b e =
    let part = c.requires.part b e in
    let front = c.split_at_mut-front.ensures.front_len in
    let back = c.split_at_mut-front.ensures.back_len in
    let count : length (take c.num32-len.result c.split_at_mut-front.result.0.now) ≡ c.num32-len.result = simp length-take (omega (arith, c.from.ensures, front)) in
    let size : length c.read.new.part ≡ c.num32-len.result = omega (arith, c.read.auto.part, count) in
    let near : (c.from.result + 3) / 4 * 4 ≤ 2147483648 = omega (arith, c.in-Some.ensures.near, c.in-Some.ensures.before, c.num32-len.ensures, c.from.ensures) in
    let is : c.read.new.part ≡ bytes_at b c.in-Some.start (number_at c.args.own_bytes.now 4 4) = c.in-Ok.ensures.gives b e ∙ ap (bytes_at b c.in-Some.start) (count ∙ c.num32-len.ensures) in
    let range = c.in-Some.ensures.some b part in (
      source_valid b c.args.own_bytes.now c.args.pos part c.requires.size c.in-Some.start (number_at c.args.own_bytes.now 4 4) range c.read.new.part is c.if-pos-ne0.false c.in-Some.ensures.before,
      brought_reads c.read.new.part c.split_at_mut-front.result.0.now c.write_own.new.bytes c.split_at_mut-front.result.1.now ((c.from.result + 3) / 4 * 4) c.num32-len.result
          front (omega (arith, c.from.ensures)) size (ap length c.write_own.ensures) (omega (arith, front, back, c.if-room-place.false)) (omega (arith, front, back, c.requires.short, c.if-room-place.false)) (omega arith) near c.write_own.ensures
          ∙ sym (source_reads b c.args.own_bytes.now c.args.pos part c.requires.size c.in-Some.start (number_at c.args.own_bytes.now 4 4) range c.read.new.part is),
    )
