-- Where a text's bytes lie.
use Rattle.std.proofs.Common.{◌∙◌, ◌+◌, ap, arith, subst, sym, pos, ℤ, ◌+ℤ◌, ◌≤ℤ◌, refl, of_z, to_z, w64}
use Rattle.std.specs.Int.{cast_signed, w32}
use Rattle.std.specs.Int.RustNames.{unsigned_abs}
use Rattle.rkyv_btree_portable.specs.Bytes.{place_at}
use Rattle.rkyv_btree_source.proofs.ByteStrings.{leads_back, leads_on, is_near, own_count, own_place}
use Rattle.rkyv_btree_unverified.proofs.Places.{is_natural, kept, not_behind}
use Rattle.rkyv_btree_source.proofs.fetch.text_start.Goals as goal

pub returns-then-place-lt0-clause-none : goal.returns-then-place-lt0-clause-none
returns-then-place-lt0-clause-none c b part s end range le =
    let same = kept c.place_of-place.result (place_at b c.args.at) (c.place_of-place.ensures.place ∙ (ap (λ n. pos c.args.at +ℤ cast_signed w32 n) c.num32.ensures ∙ own_place b c.args.own_bytes.now c.args.at part c.requires)) c.place_of-place.type_inv in
    leads_back (to_z w64 (of_z w64 c.place_of-place.result)) s (same ∙ range.leads) c.if-place-lt0.true

pub returns-then-place-from-clause-none : goal.returns-then-place-from-clause-none
returns-then-place-from-clause-none c b part s end range le =
    let same = kept c.place_of-place.result (place_at b c.args.at) (c.place_of-place.ensures.place ∙ (ap (λ n. pos c.args.at +ℤ cast_signed w32 n) c.num32.ensures ∙ own_place b c.args.own_bytes.now c.args.at part c.requires)) c.place_of-place.type_inv in
    let ends = range.ends in
    leads_on (to_z w64 (of_z w64 c.place_of-place.result)) (to_z w64 (of_z w64 c.from.result)) c.args.at s (kept c.from.result (pos c.args.at) c.from.ensures c.from.type_inv) (same ∙ range.leads) c.if-place-from.true (omega (arith, ends, le))

pub returns-then-at-start-clause-none : goal.returns-then-at-start-clause-none
returns-then-at-start-clause-none c b part s end range le =
    let same = kept c.place_of-place.result (place_at b c.args.at) (c.place_of-place.ensures.place ∙ (ap (λ n. pos c.args.at +ℤ cast_signed w32 n) c.num32.ensures ∙ own_place b c.args.own_bytes.now c.args.at part c.requires)) c.place_of-place.type_inv in
    let start = ap unsigned_abs (same ∙ range.leads) in
    let count = own_count b c.args.own_bytes.now c.args.at part c.requires in
    let ends = range.ends in
    absurd (omega (arith, start, count, ends, le, c.if-at-start.true, c.num32-2.ensures))

pub returns-clause-before : goal.returns-clause-before
returns-clause-before c =
    let near = not_behind (unsigned_abs (to_z w64 (of_z w64 c.place_of-place.result))) c.args.at (to_z w64 (of_z w64 c.from.result)) (to_z w64 (of_z w64 c.place_of-place.result)) (kept c.from.result (pos c.args.at) c.from.ensures c.from.type_inv) (is_natural (to_z w64 (of_z w64 c.place_of-place.result)) c.if-place-lt0.false) c.if-place-from.false in
    omega (arith, near, c.if-at-start.false, c.num32-2.ensures)

pub returns-clause-near : goal.returns-clause-near
returns-clause-near c =
    let same = kept c.place_of-place.result c.place_of-place.result refl c.place_of-place.type_inv in
    is_near (to_z w64 (of_z w64 c.place_of-place.result)) c.args.at c.if-place-lt0.false (subst (λ (z : ℤ). pos c.args.at ≤ℤ (z +ℤ pos 2147483648)) (sym same) c.place_of-place.ensures.near)

pub returns-clause-some : goal.returns-clause-some
returns-clause-some c b part =
    let same = kept c.place_of-place.result (place_at b c.args.at) (c.place_of-place.ensures.place ∙ (ap (λ n. pos c.args.at +ℤ cast_signed w32 n) c.num32.ensures ∙ own_place b c.args.own_bytes.now c.args.at part c.requires)) c.place_of-place.type_inv in
    record { leads = sym same ∙ is_natural (to_z w64 (of_z w64 c.place_of-place.result)) c.if-place-lt0.false; ends = ap (λ n. unsigned_abs (to_z w64 (of_z w64 c.place_of-place.result)) + n) (own_count b c.args.own_bytes.now c.args.at part c.requires) }
