-- A byte string is an archived type, and `bytes_leaves` decides what it means.
use Rattle.std.specs.Prelude.{◌≡◌, ℕ, ◌+◌, ◌≤◌, List, Some, ℤ, pos, negsuc, nat_lt}
use Rattle.std.specs.Int.RustNames.{unsigned_abs}
use Rattle.std.proofs.Common.{refl, sym, ap, ◌∙◌, arith}
use Rattle.std.proofs.lemmas.Bool.{ltb-false, le-ltb}
use Rattle.rkyv_btree_portable.specs.ByteStrings.{MeansBytes, behind_bytes, bytes_leaves, bytes_kind}
use Rattle.rkyv_btree_portable.specs.Bytes.{bytes_at, place_at}
use Rattle.rkyv_btree_portable.specs.Kind.{IsLawful, Local, Widens, OneMeaning, IsRead}
use Rattle.rkyv_btree_portable.specs.laws.Choices.{past}
use Rattle.rkyv_btree_portable.specs.laws.Standing.{same_within, same_bytes_at, placed_found, placed_only}
use Rattle.rkyv_btree_portable.specs.Refusing.{HasPlace}
use Rattle.rkyv_btree_portable.specs.Rounding.{four}
use Rattle.rkyv_btree_portable.specs.Text.{text_len}
use Rattle.rkyv_btree_portable.specs.laws.Numbers.{number_same, place_same}

bytes_local : Local bytes_kind
bytes_local b c lo hi at left v short out own m =
    let l = m.lies in
    let place = place_same b c at (same_within b c at (at + 8) at (at + 4) (omega arith) (omega arith) own) in
    let count : text_len b at ≡ text_len c at = number_same b c (at + 4) (same_within b c at (at + 8) (at + 4) (at + 4 + 4) (omega arith) (omega arith) own) in
    let bytes = same_bytes_at b c m.start (text_len b at) (omega (arith, m.range.ends, l.kept, l.before, l.inside)) (same_within b c lo left m.start (m.start + text_len b at) m.from (omega (arith, m.range.ends)) out) in
    record {
      lies = record { short = short; inside = own.covers; aligned = l.aligned; forward = l.forward; kept = l.kept; before = l.before };
      start = m.start;
      range = record { leads = sym place ∙ m.range.leads; ends = m.range.ends ∙ ap (λ n. m.start + n) count };
      from = m.from;
      bytes = m.bytes ∙ bytes ∙ ap (λ n. bytes_at c m.start n) count;
    }

bytes_widens : Widens bytes_kind
bytes_widens b lo hi at left lo2 hi2 v p q r m =
    let l = m.lies in
    (left, omega arith, record { lies = record { short = l.short; inside = l.inside; aligned = l.aligned; forward = omega arith; kept = omega arith; before = r }; start = m.start; range = m.range; from = omega (arith, m.from); bytes = m.bytes })

bytes_is_read : IsRead bytes_kind
bytes_is_read b lo hi at left v m = m.bytes ∙ ap (λ z. bytes_at b (unsigned_abs z) (text_len b at)) (sym m.range.leads)

bytes_one_meaning : OneMeaning bytes_kind
bytes_one_meaning b lo hi at left left2 v w m n =
    let start : m.start ≡ n.start = ap unsigned_abs (sym m.range.leads ∙ n.range.leads) in
    (m.range.ends ∙ ap (λ s. s + text_len b at) start ∙ sym n.range.ends, bytes_is_read b lo hi at left v m ∙ sym (bytes_is_read b lo hi at left2 w n))

module _ (b : List ℕ) (lo hi at left : ℕ) where
  behind_found : HasPlace b 8 4 at → hi ≤ at → (z : ℤ) → place_at b at ≡ z → behind_bytes (text_len b at) lo hi z ≡ Some left → (v : List ℕ) × MeansBytes b lo hi at left v
  behind_found own before (negsuc n) leads e = absurd (cc e)
  behind_found own before (pos start) leads e =
      let end = start + text_len b at in
      let from = past (nat_lt start lo) _ left e in
      let room = past (nat_lt hi end) (Some end) left from.1 in
      let after = ltb-false start lo from.0 in
      let within = ltb-false hi end room.0 in
      let ends : left ≡ end = cc room.1 in (
        bytes_at b start (text_len b at),
        record {
          lies = record { short = own.short; inside = own.room; aligned = own.aligned; forward = omega (arith, after, ends); kept = omega (arith, within, ends); before = before };
          start = start;
          range = record { leads = leads; ends = ends };
          from = after;
          bytes = refl;
        },
      )

  bytes_found : lo ≤ hi → hi ≤ at → bytes_leaves b lo hi at ≡ Some left → (v : List ℕ) × MeansBytes b lo hi at left v
  bytes_found window before e =
      let placed = placed_found b 8 4 at _ left e in
      behind_found placed.0 before (place_at b at) refl placed.1

  bytes_only : (v : List ℕ) → MeansBytes b lo hi at left v → bytes_leaves b lo hi at ≡ Some left
  bytes_only v m =
      let end = m.start + text_len b at in
      let room : end ≤ hi = omega (arith, m.range.ends, m.lies.kept) in
      placed_only b 8 4 at _ m.lies ∙ rw (m.range.leads, le-ltb m.start lo m.from, le-ltb hi end room) (ap Some (sym m.range.ends))

pub bytes_laws : IsLawful bytes_kind
bytes_laws = record {
  alignment = four;
  whole = refl;
  size_fits = λ _. omega arith;
  lies = λ b lo hi at left v m. m.lies;
  local = λ _. bytes_local;
  widens = bytes_widens;
  one_meaning = bytes_one_meaning;
  is_read = bytes_is_read;
  decides = λ _. record { found = λ b lo hi at left. bytes_found b lo hi at left; only = λ b lo hi at left. bytes_only b lo hi at left; within = λ b lo hi at left v m. (m.lies.forward, m.lies.kept) };
}
