-- A text that stands has its bytes before it, and they are UTF-8.
use Rattle.std.specs.Prelude.{IsUtf8, ℤ, pos}
use Rattle.std.proofs.Common.{◌≡◌, ℕ, ◌+◌, ◌-◌, ◌<◌, List, take, drop, subst, ◌∙◌, arith, refl, to_z, of_z, w64}
use Rattle.std.proofs.lemmas.Int.{ints}
use Rattle.std.specs.Int.RustNames.{unsigned_abs}
use Rattle.rkyv_btree_portable.specs.Bytes.{bytes_at}
use Rattle.rkyv_btree_portable.specs.Text.{text_len}
use Rattle.rkyv_btree_portable.specs.laws.Views.{means_read}
use Rattle.rkyv_btree_portable.specs.laws.TextLaws.{text_laws}
use Rattle.rkyv_btree_view.proofs.view.View+ArchivedText.as_str.Goals as goal

-- a place that isn't before the buffer's start is its number
place_is : (r : ℤ) (start : ℕ) → r ≡ pos start → start < 9223372036854775808 → unsigned_abs (to_z w64 (of_z w64 r)) ≡ start
place_is r start e low = rw e (let same : to_z w64 (of_z w64 (pos start)) ≡ pos start = omega (arith, ints, low) in rw same refl)

taken : (b text : List ℕ) (at start len count : ℕ) → at ≡ start → len ≡ count → text ≡ bytes_at b start count → text ≡ take (at + len - at) (drop at b)
taken b text at start len count e f is = let same : at + len - at ≡ count = omega (arith, f) in rw (same, e) is

pub from_utf8_unchecked-requires : goal.from_utf8_unchecked-requires
from_utf8_unchecked-requires c =
    let view = c.args.self in
    let m = means_read text_laws view.buf.now view.pos view.valid in
    let low : m.means.start < 9223372036854775808 = omega (arith, m.means.range.ends, m.means.lies.kept, m.means.lies.inside, m.means.lies.short) in
    let at = place_is c.pointed_at-start.result m.means.start (c.pointed_at-start.ensures ∙ m.means.range.leads) low in
    subst IsUtf8 (taken view.buf.now _ _ m.means.start c.num32-len.result (text_len view.buf.now view.pos) at c.num32-len.ensures m.means.bytes) m.means.utf8
