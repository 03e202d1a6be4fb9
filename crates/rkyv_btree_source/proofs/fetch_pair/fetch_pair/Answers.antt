-- A pair is brought by its own bytes.
use Rattle.std.proofs.Common.{◌≡◌, ◌∙◌, ◌+◌, ◌%◌, ◌≤◌, ◌++◌, ℕ, ap, arith, drop, length, subst}
use Rattle.std.proofs.lemmas.List.{length-append, length-drop}
use Rattle.rkyv_btree_portable.specs.Bytes.{bytes_at}
use Rattle.rkyv_btree_portable.specs.Entry.{entry_align, entry_size, value_offset, RefusesEntry}
use Rattle.rkyv_btree_portable.specs.declared.refusal.Refusal.TheVariants.{BadEntry}
use Rattle.rkyv_btree_portable.specs.laws.EntryLaws.{value_inside}
use Rattle.rkyv_btree_source.proofs.Brought.{held_front}
use Rattle.rkyv_btree_source.proofs.Pairs.{means_there, reads_here, refuses_key, refuses_odd, refuses_value, valid_here, valid_there}
use Rattle.rkyv_btree_source.proofs.fetch_pair.fetch_pair.Goals as goal

pub returns-then-pos-align-ne0-clause-brings : goal.returns-then-pos-align-ne0-clause-brings
returns-then-pos-align-ne0-clause-brings g c b part =
    let K = g.K.Portable.kind in let V = g.V.Portable.kind in
    let k = g.met.K.Portable.laws in let v = g.met.V.Portable.laws in
    let ka = g.met.K.InPlace.is_in_place.alone in let va = g.met.V.InPlace.is_in_place.alone in
    refuses_odd K V k v ka va b c.args.own_bytes.now c.args.pos part c.requires.size (λ e. c.if-pos-align-ne0.true (rw c.align.ensures.value e))

pub returns-then-not-is_part-clause-brings : goal.returns-then-not-is_part-clause-brings
returns-then-not-is_part-clause-brings g c b part =
    let K = g.K.Portable.kind in let V = g.V.Portable.kind in
    let k = g.met.K.Portable.laws in let v = g.met.V.Portable.laws in
    let ka = g.met.K.InPlace.is_in_place.alone in let va = g.met.V.InPlace.is_in_place.alone in
    let after = c.copy_from_slice.ensures.after in
    let count : length c.copy_from_slice.new.self ≡ entry_size K V = ap length after ∙ c.requires.size in
    let room = c.copy_from_slice.new.self ++ drop c.size-size.result c.args.room.now in
    let len : length room ≡ length c.args.room.now = omega (arith, length-append c.copy_from_slice.new.self (drop c.size-size.result c.args.room.now), length-drop c.size-size.result c.args.room.now, count, c.size-size.ensures, c.if-room-size.false) in
    let short : length room ≤ 4294967295 = omega (arith, len, c.requires.short) in
    let inside : entry_size K V ≤ length room = omega (arith, len, c.size-size.ensures, c.if-room-size.false) in
    let held : bytes_at room 0 (entry_size K V) ≡ c.args.own_bytes.now = held_front c.copy_from_slice.new.self (drop c.size-size.result c.args.room.now) (entry_size K V) count ∙ after in
    let aligned : c.args.pos % entry_align K V ≡ 0 = rw c.align.ensures.value at c.if-pos-align-ne0.false in
    refuses_key K V k v ka va b c.args.own_bytes.now c.args.pos part c.requires.size aligned room short inside held (c.is_part.ensures.none c.if-not-is_part.true)

pub returns-then-not-is_part-2-clause-brings : goal.returns-then-not-is_part-2-clause-brings
returns-then-not-is_part-2-clause-brings g c b part =
    let K = g.K.Portable.kind in let V = g.V.Portable.kind in
    let k = g.met.K.Portable.laws in let v = g.met.V.Portable.laws in
    let ka = g.met.K.InPlace.is_in_place.alone in let va = g.met.V.InPlace.is_in_place.alone in
    let after = c.copy_from_slice.ensures.after in
    let count : length c.copy_from_slice.new.self ≡ entry_size K V = ap length after ∙ c.requires.size in
    let room = c.copy_from_slice.new.self ++ drop c.size-size.result c.args.room.now in
    let len : length room ≡ length c.args.room.now = omega (arith, length-append c.copy_from_slice.new.self (drop c.size-size.result c.args.room.now), length-drop c.size-size.result c.args.room.now, count, c.size-size.ensures, c.if-room-size.false) in
    let short : length room ≤ 4294967295 = omega (arith, len, c.requires.short) in
    let inside : entry_size K V ≤ length room = omega (arith, len, c.size-size.ensures, c.if-room-size.false) in
    let held : bytes_at room 0 (entry_size K V) ≡ c.args.own_bytes.now = held_front c.copy_from_slice.new.self (drop c.size-size.result c.args.room.now) (entry_size K V) count ∙ after in
    let aligned : c.args.pos % entry_align K V ≡ 0 = rw c.align.ensures.value at c.if-pos-align-ne0.false in
    let x = c.is_part.ensures.means c.if-not-is_part.false in
    let none : (y : V.Value) → ¬ V.Means room 0 0 (value_offset K V) 0 y =
    subst (λ (n : ℕ). (y : V.Value) → ¬ V.Means room 0 0 n 0 y) c.value_offset-offset.ensures.value (c.is_part-2.ensures.none c.if-not-is_part-2.true) in
    let there = part.inside in
    let low = part.short in
    let same : c.args.pos + value_offset K V ≡ c.saturating_add-pos.result = omega (arith, there, low, c.requires.size, value_inside K V k v, c.value_offset-offset.ensures.value, c.saturating_add-pos.ensures) in
    subst (λ (n : ℕ). RefusesEntry K V b 0 c.args.pos c.args.pos (BadEntry n)) same
    (refuses_value K V k v ka va b c.args.own_bytes.now c.args.pos part c.requires.size aligned room short inside held x.0 x.1 none)

pub returns-clause-valid : goal.returns-clause-valid
returns-clause-valid g c =
    let K = g.K.Portable.kind in let V = g.V.Portable.kind in
    let k = g.met.K.Portable.laws in let v = g.met.V.Portable.laws in
    let ka = g.met.K.InPlace.is_in_place.alone in let va = g.met.V.InPlace.is_in_place.alone in
    let after = c.copy_from_slice.ensures.after in
    let count : length c.copy_from_slice.new.self ≡ entry_size K V = ap length after ∙ c.requires.size in
    let room = c.copy_from_slice.new.self ++ drop c.size-size.result c.args.room.now in
    let len : length room ≡ length c.args.room.now = omega (arith, length-append c.copy_from_slice.new.self (drop c.size-size.result c.args.room.now), length-drop c.size-size.result c.args.room.now, count, c.size-size.ensures, c.if-room-size.false) in
    let short : length room ≤ 4294967295 = omega (arith, len, c.requires.short) in
    let inside : entry_size K V ≤ length room = omega (arith, len, c.size-size.ensures, c.if-room-size.false) in
    let x = c.is_part.ensures.means c.if-not-is_part.false in
    let y0 = c.is_part-2.ensures.means c.if-not-is_part-2.false in
    let my : V.Means room 0 0 (value_offset K V) 0 y0.0 = subst (λ (n : ℕ). V.Means room 0 0 n 0 y0.0) c.value_offset-offset.ensures.value y0.1 in
    valid_here K V k v room short inside x.0 x.1 y0.0 my c.requires.fitting

pub returns-clause-brings : goal.returns-clause-brings
returns-clause-brings g c b part =
    let K = g.K.Portable.kind in let V = g.V.Portable.kind in
    let k = g.met.K.Portable.laws in let v = g.met.V.Portable.laws in
    let ka = g.met.K.InPlace.is_in_place.alone in let va = g.met.V.InPlace.is_in_place.alone in
    let after = c.copy_from_slice.ensures.after in
    let count : length c.copy_from_slice.new.self ≡ entry_size K V = ap length after ∙ c.requires.size in
    let room = c.copy_from_slice.new.self ++ drop c.size-size.result c.args.room.now in
    let len : length room ≡ length c.args.room.now = omega (arith, length-append c.copy_from_slice.new.self (drop c.size-size.result c.args.room.now), length-drop c.size-size.result c.args.room.now, count, c.size-size.ensures, c.if-room-size.false) in
    let short : length room ≤ 4294967295 = omega (arith, len, c.requires.short) in
    let inside : entry_size K V ≤ length room = omega (arith, len, c.size-size.ensures, c.if-room-size.false) in
    let held : bytes_at room 0 (entry_size K V) ≡ c.args.own_bytes.now = held_front c.copy_from_slice.new.self (drop c.size-size.result c.args.room.now) (entry_size K V) count ∙ after in
    let aligned : c.args.pos % entry_align K V ≡ 0 = rw c.align.ensures.value at c.if-pos-align-ne0.false in
    let x = c.is_part.ensures.means c.if-not-is_part.false in
    let y0 = c.is_part-2.ensures.means c.if-not-is_part-2.false in
    let my : V.Means room 0 0 (value_offset K V) 0 y0.0 = subst (λ (n : ℕ). V.Means room 0 0 n 0 y0.0) c.value_offset-offset.ensures.value y0.1 in (
      valid_there K V k v ka va b c.args.own_bytes.now c.args.pos part c.requires.size aligned room short inside held x.0 x.1 y0.0 my c.requires.fitting,
      reads_here K V k v room short inside x.0 x.1 y0.0 my b c.args.pos (means_there K V k v ka va b c.args.own_bytes.now c.args.pos part c.requires.size aligned room short inside held x.0 x.1 y0.0 my),
    )
