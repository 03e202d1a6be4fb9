-- A part of a source's bytes has what the source has there.
use Rattle.std.proofs.Common.{◌≡◌, ◌∙◌, ℕ, ◌+◌, ◌≤◌, ◌<◌, List, length, drop, ap, sym, arith, slice_index}
use Rattle.std.specs.Int.{cast_signed, w32}
use Rattle.std.specs.Prelude.{pos, ◌+ℤ◌}
use Rattle.std.proofs.lemmas.List.{get_or-take, get_or-drop}
use Rattle.rkyv_btree_portable.specs.Bytes.{bytes_at, from_le, number_at, place_at}
use Rattle.rkyv_btree_portable.specs.laws.Standing.{bytes_at-bytes_at, length-bytes_at}
use Rattle.rkyv_btree_source.specs.Reading.{IsPart}

module _ (b c : List ℕ) (at : ℕ) (h : IsPart b c at) where
  pub part_bytes : (from count : ℕ) → from + count ≤ length c → bytes_at c from count ≡ bytes_at b (at + from) count
  part_bytes from count room = ap (λ (x : List ℕ). bytes_at x from count) h.same ∙ bytes_at-bytes_at b at (length c) from count room

  pub part_number : (from : ℕ) → from + 4 ≤ length c → number_at c from 4 ≡ number_at b (at + from) 4
  unfolding number_at
  part_number from room = ap from_le (part_bytes from 4 room)

  pub part_byte : (from : ℕ) → from < length c → slice_index c from ≡ slice_index b (at + from)
  part_byte from low = ap (λ (x : List ℕ). slice_index x from) h.same ∙ (get_or-take (length c) (drop at b) from 0 low ∙ get_or-drop at b from 0)

  -- a part of it is a part of the source
  pub part_of : (from count : ℕ) → from + count ≤ length c → IsPart b (bytes_at c from count) (at + from)
  part_of from count room =
      let len : length (bytes_at c from count) ≡ count = length-bytes_at c from count room in
      let inside = h.inside in
      record { short = h.short; inside = omega (arith, len, inside, room); same = part_bytes from count room ∙ ap (bytes_at b (at + from)) (sym len) }

  -- the first byte, and a pointer's place
  pub first_byte : 0 < length c → slice_index b at ≡ slice_index c 0
  first_byte some = let same : at ≡ at + 0 = omega arith in ap (slice_index b) same ∙ sym (part_byte 0 some)

  pub part_place : (from : ℕ) → from + 4 ≤ length c → (pos (at + from) +ℤ cast_signed w32 (number_at c from 4)) ≡ place_at b (at + from)
  unfolding place_at
  part_place from room = ap (λ n. pos (at + from) +ℤ cast_signed w32 n) (part_number from room)

-- bytes that were read are a part
pub part_read : (b c : List ℕ) (at n : ℕ) → length b ≤ 4294967295 → at + n ≤ length b → c ≡ bytes_at b at n → IsPart b c at
part_read b c at n short inside is =
    let len : length c ≡ n = ap length is ∙ length-bytes_at b at n inside in
    record { short = short; inside = omega (arith, len, inside); same = is ∙ ap (bytes_at b at) (sym len) }
