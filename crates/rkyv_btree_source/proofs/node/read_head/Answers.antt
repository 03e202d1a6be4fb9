-- The map's own bytes.
use Rattle.std.proofs.Common.{◌≡◌, ◌∙◌, ◌+◌, ◌≤◌, ℕ, arith, length, subst, sym, pos, Ok, Err}
use Rattle.rkyv_btree_portable.specs.Bytes.{place_at}
use Rattle.rkyv_btree_verify.specs.Refusals.{map_len}
use Rattle.rkyv_btree_portable.specs.Refusing.{too_long, no_room, unaligned}
use Rattle.rkyv_btree_source.specs.Reading.{IsPart}
use Rattle.rkyv_btree_source.proofs.Parts.{part_number, part_read}
use Rattle.rkyv_btree_unverified.proofs.Places.{kept}
use Rattle.rkyv_btree_unverified.specs.Steps.{PlaceGives, misplaced, empty, bad_root, root}
use Rattle.rkyv_btree_source.proofs.Knowing.{of_same}
use Rattle.rkyv_btree_source.proofs.node.read_head.Goals as goal

pub returns-then-size-gt4294967295-clause-gives : goal.returns-then-size-gt4294967295-clause-gives
returns-then-size-gt4294967295-clause-gives g c b e =
    let size = c.in-Ok.ensures.value b e in
    misplaced (too_long (omega (arith, c.if-size-gt4294967295.true, size)))

pub returns-then-size-from-clause-gives : goal.returns-then-size-from-clause-gives
returns-then-size-from-clause-gives g c b e =
    let size = c.in-Ok.ensures.value b e in
    rw (kept c.from-then-size-from.result (pos c.args.at) c.from-then-size-from.ensures c.from-then-size-from.type_inv)
    (misplaced (no_room (omega (arith, c.if-size-gt4294967295.false, size)) (omega (arith, c.if-size-from.true, c.from.ensures, size))))

pub returns-then-at-ne0-clause-gives : goal.returns-then-at-ne0-clause-gives
returns-then-at-ne0-clause-gives g c b e =
    let size = c.in-Ok.ensures.value b e in
    misplaced (unaligned (omega (arith, c.if-size-gt4294967295.false, size)) (omega (arith, c.if-size-from.false, c.from.ensures, size)) c.if-at-ne0.true)

pub returns-then-num32-eq0-clause-gives : goal.returns-then-num32-eq0-clause-gives
returns-then-num32-eq0-clause-gives g c b e =
    let K = g.K.Portable.kind in let V = g.V.Portable.kind in let E = g.M.ArchivedMap.E in
    let size = c.in-Ok.ensures.value b e in
    let short : length b ≤ 4294967295 = omega (arith, c.if-size-gt4294967295.false, size) in
    let inside : c.args.at + 8 ≤ length b = omega (arith, c.if-size-from.false, c.from.ensures, size) in
    let part : IsPart b c.read.new.part c.args.at = part_read b c.read.new.part c.args.at 8 short inside (c.in-Ok-read.ensures.gives b (of_same b c.in-Ok.ensures.same e)) in
    let none : map_len K V E b c.args.at ≡ 0 = sym (part_number b c.read.new.part c.args.at part 4 (omega (arith, c.read.auto.part))) ∙ (sym c.num32.ensures ∙ c.if-num32-eq0.true) in
    empty (record { short = short; room = inside; aligned = c.if-at-ne0.false }) none

pub returns-in-Ok-place_in-clause-gives : goal.returns-in-Ok-place_in-clause-gives
returns-in-Ok-place_in-clause-gives g c b e =
    let K = g.K.Portable.kind in let V = g.V.Portable.kind in let E = g.M.ArchivedMap.E in
    let size = c.in-Ok.ensures.value b e in
    let short : length b ≤ 4294967295 = omega (arith, c.if-size-gt4294967295.false, size) in
    let inside : c.args.at + 8 ≤ length b = omega (arith, c.if-size-from.false, c.from.ensures, size) in
    let part : IsPart b c.read.new.part c.args.at = part_read b c.read.new.part c.args.at 8 short inside (c.in-Ok-read.ensures.gives b (of_same b c.in-Ok.ensures.same e)) in
    let number = part_number b c.read.new.part c.args.at part 4 (omega (arith, c.read.auto.part)) in
    let start : c.args.at + 0 ≡ c.args.at = omega arith in
    root (record { short = short; room = inside; aligned = c.if-at-ne0.false }) (λ none. c.if-num32-eq0.false (c.num32.ensures ∙ (number ∙ none)))
    (subst (λ (x : ℕ). PlaceGives K V E c.args.at (place_at b x) (Ok c.in-Ok-place_in.root)) start (c.in-Ok-place_in.ensures.gives b part))

pub returns-in-Err-place_in-clause-gives : goal.returns-in-Err-place_in-clause-gives
returns-in-Err-place_in-clause-gives g c b e =
    let K = g.K.Portable.kind in let V = g.V.Portable.kind in let E = g.M.ArchivedMap.E in
    let size = c.in-Ok.ensures.value b e in
    let short : length b ≤ 4294967295 = omega (arith, c.if-size-gt4294967295.false, size) in
    let inside : c.args.at + 8 ≤ length b = omega (arith, c.if-size-from.false, c.from.ensures, size) in
    let part : IsPart b c.read.new.part c.args.at = part_read b c.read.new.part c.args.at 8 short inside (c.in-Ok-read.ensures.gives b (of_same b c.in-Ok.ensures.same e)) in
    let number = part_number b c.read.new.part c.args.at part 4 (omega (arith, c.read.auto.part)) in
    let start : c.args.at + 0 ≡ c.args.at = omega arith in
    bad_root (record { short = short; room = inside; aligned = c.if-at-ne0.false }) (λ none. c.if-num32-eq0.false (c.num32.ensures ∙ (number ∙ none)))
    (subst (λ (x : ℕ). PlaceGives K V E c.args.at (place_at b x) (Err c.in-Err-place_in.refusal)) start (c.in-Err-place_in.ensures.gives b part))
