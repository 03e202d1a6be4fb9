-- Byte strings that are brought from a source: their bytes come first in the room, and then their own.
use Rattle.std.proofs.Common.{◌≡◌, ◌∙◌, ℕ, ◌+◌, ◌%◌, ◌≤◌, ◌++◌, IsTrue, List, length, take, drop, ap, sym, subst, arith, refl, true, false}
use Rattle.std.specs.Int.{cast_signed, w32, to_le_bytes}
use Rattle.std.specs.Int.RustNames.{unsigned_abs}
use Rattle.std.specs.Prelude.{pos, ℤ, ◌+ℤ◌, ◌≤ℤ◌}
use Rattle.std.proofs.Math.Seq.{take-append_seam}
use Rattle.std.proofs.lemmas.Int.{ints}
use Rattle.std.proofs.lemmas.List.{drop_at, take-append-le, length-append, length-drop, take_all}
use lib.Signed.{lt_z}
use Rattle.rkyv_btree_portable.specs.Bytes.{bytes_at, number_at, place_at, Holds}
use Rattle.rkyv_btree_portable.specs.declared.refusal.Refusal.TheVariants.{Misaligned, BadEntry}
use Rattle.rkyv_btree_portable.specs.Refusing.{HasPlace, RefusesWhole, misplaced, bad_entry, unaligned}
use Rattle.rkyv_btree_portable.specs.ByteStrings.{MeansBytes, bytes_kind}
use Rattle.rkyv_btree_portable.specs.Text.{IsTextRange, text_len, read_text}
use Rattle.rkyv_btree_portable.specs.Views.{stands}
use Rattle.rkyv_btree_portable.specs.laws.Views.{stands_of}
use Rattle.rkyv_btree_portable.specs.laws.Holding.{Holds-front, Holds-back}
use Rattle.rkyv_btree_portable.specs.laws.ByteStringLaws.{bytes_laws}
use Rattle.rkyv_btree_source.specs.Reading.{IsPart}
use Rattle.rkyv_btree_source.proofs.Parts.{part_number, part_place}
use Rattle.rkyv_btree_unverified.proofs.Places.{is_natural}
use Rattle.rkyv_btree_writer.proofs.HeldNumbers.{held_number, held_pointer}
use Rattle.rkyv_btree_writer.specs.Pointers.{pointer}
use Rattle.rkyv_btree_writer.specs.TextArchival.{text_own}

-- own bytes at a place, of a byte string that starts at 0 and ends before them
module _ (room : List ℕ) (place len : ℕ) (short : length room ≤ 4294967295) (inside : place + 8 ≤ length room) (aligned : place % 4 ≡ 0) (near : place ≤ 2147483648) (behind : len ≤ place)
    (held : Holds room place (text_own place 0 len)) where
  leads : place_at room place ≡ pos 0
  leads = held_pointer room place 0 (omega arith, omega arith) (omega arith) (omega arith) (Holds-front room place (pointer place 0) (to_le_bytes w32 len) held)

  count : text_len room place ≡ len
  count = held_number room (place + 4) len (omega arith) (Holds-back room place (pointer place 0) (to_le_bytes w32 len) held)

  means_bytes : MeansBytes room 0 place place len (bytes_at room 0 len)
  means_bytes = record {
    lies = record { short = short; inside = inside; aligned = aligned; forward = omega arith; kept = behind; before = omega arith };
    start = 0;
    range = record { leads = leads; ends = omega (arith, count) };
    from = omega arith;
    bytes = ap (bytes_at room 0) (sym count);
  }

  pub bytes_valid : IsTrue (stands bytes_kind room place)
  bytes_valid = stands_of bytes_laws refl room 0 place place len _ means_bytes

  pub bytes_read : read_text room place ≡ bytes_at room 0 len
  bytes_read = ap (λ z. bytes_at room (unsigned_abs z) (text_len room place)) leads ∙ ap (bytes_at room 0) count

module _ (b own : List ℕ) (at : ℕ) (part : IsPart b own at) (size : length own ≡ 8) where
  pub refuses_odd : ¬ (at % 4 ≡ 0) → RefusesWhole bytes_kind b 0 at at (Misaligned at)
  refuses_odd odd = let inside = part.inside in misplaced (unaligned part.short (omega (arith, size, inside)) odd)

  has_place : at % 4 ≡ 0 → HasPlace b 8 4 at
  has_place aligned = let inside = part.inside in record { short = part.short; room = omega (arith, size, inside); aligned = aligned }

  pub own_count : number_at own 4 4 ≡ text_len b at
  own_count = part_number b own at part 4 (omega (arith, size))

  -- its bytes don't lie before it
  pub refuses_range : at % 4 ≡ 0 → ((start end : ℕ) → IsTextRange b at start end → end ≤ at → ⊥) → RefusesWhole bytes_kind b 0 at at (BadEntry at)
  refuses_range aligned none = bad_entry (has_place aligned) (λ left v m. none m.start left m.range m.lies.kept)

  module _ (start len : ℕ) (range : IsTextRange b at start (start + len)) (text : List ℕ) (is : text ≡ bytes_at b start len) where
    same_len : text_len b at ≡ len
    same_len = let ends = range.ends in omega (arith, ends)

    pub source_reads : read_text b at ≡ text
    source_reads = ap (λ z. bytes_at b (unsigned_abs z) (text_len b at)) range.leads ∙ ap (bytes_at b start) same_len ∙ sym is

    pub source_valid : at % 4 ≡ 0 → start + len ≤ at → IsTrue (stands bytes_kind b at)
    source_valid aligned before =
        let own_place = has_place aligned in
        stands_of bytes_laws refl b 0 at at (start + len) text (record {
          lies = record { short = own_place.short; inside = own_place.room; aligned = aligned; forward = omega arith; kept = before; before = omega arith };
          start = start;
          range = range;
          from = omega arith;
          bytes = is ∙ ap (bytes_at b start) (sym same_len);
        })

-- a byte string in front of its own bytes
module _ (text rest own back : List ℕ) (place len : ℕ) (front : length (text ++ rest) ≡ place) (size : length text ≡ len) where
  pub text_laid : bytes_at ((text ++ rest) ++ (own ++ back)) 0 len ≡ text
  text_laid =
      let few : len ≤ length (text ++ rest) = omega (arith, length-append text rest, size) in
      let few2 : len ≤ length text = omega (arith, size) in
      take-append-le len (text ++ rest) (own ++ back) few ∙ (take-append-le len text rest few2 ∙ (ap (λ n. take n text) (sym size) ∙ all_of text))
    where
      all_of : (xs : List ℕ) → take (length xs) xs ≡ xs
      all_of xs = take_all (length xs) xs (omega arith)

  pub own_laid : Holds ((text ++ rest) ++ (own ++ back)) place own
  own_laid = ap (take (length own)) (drop_at (text ++ rest) (own ++ back) place front) ∙ take-append_seam own back

-- where a pointer leads whose target lies before it
module _ (t : ℤ) where
  pub leads_back : (s : ℕ) → t ≡ pos s → lt_z t (pos 0) ≡ true → ⊥
  leads_back s e h = let l : lt_z (pos s) (pos 0) ≡ true = subst (λ (z : ℤ). lt_z z (pos 0) ≡ true) e h in absurd (grind (arith, ints))

  pub leads_on : (u : ℤ) (a s : ℕ) → u ≡ pos a → t ≡ pos s → lt_z u t ≡ true → s ≤ a → ⊥
  leads_on u a s e f h le = let m : lt_z (pos a) t ≡ true = subst (λ (z : ℤ). lt_z z t ≡ true) e h in let l : lt_z (pos a) (pos s) ≡ true = subst (λ (z : ℤ). lt_z (pos a) z ≡ true) f m in absurd (grind (arith, ints))

  pub is_near : (a : ℕ) → lt_z t (pos 0) ≡ false → pos a ≤ℤ (t +ℤ pos 2147483648) → a ≤ unsigned_abs t + 2147483648
  is_near a low near = let h : pos a ≤ℤ (pos (unsigned_abs t) +ℤ pos 2147483648) = subst (λ (z : ℤ). pos a ≤ℤ (z +ℤ pos 2147483648)) (is_natural t low) near in omega (arith, ints, h)

module _ (b own : List ℕ) (at : ℕ) (part : IsPart b own at) (size : length own ≡ 8) where
  pub own_place : (pos at +ℤ cast_signed w32 (number_at own 0 4)) ≡ place_at b at
  own_place =
      let same : at ≡ at + 0 = omega arith in
      ap (λ a. pos a +ℤ cast_signed w32 (number_at own 0 4)) same ∙ (part_place b own at part 0 (omega (arith, size)) ∙ ap (place_at b) (sym same))

-- a byte string with its own bytes, laid into a room of two parts
module _ (text first own second : List ℕ) (place len : ℕ) (front : length first ≡ place) (few : len ≤ place) (size : length text ≡ len) (own_size : length own ≡ 8) (eight : 8 ≤ length second)
    (short : place + length second ≤ 4294967295) (aligned : place % 4 ≡ 0) (near : place ≤ 2147483648) (own_is : own ≡ text_own place 0 len) where
  abbrev laid : List ℕ
  laid = (text ++ drop len first) ++ (own ++ drop 8 second)

  before : length (text ++ drop len first) ≡ place
  before = omega (arith, length-append text (drop len first), length-drop len first, front, few, size)

  whole : length laid ≡ place + length second
  whole = omega (arith, length-append (text ++ drop len first) (own ++ drop 8 second), length-append own (drop 8 second), length-drop 8 second, before, own_size, eight)

  held_own : Holds laid place (text_own place 0 len)
  held_own = subst (λ (x : List ℕ). Holds laid place x) own_is (own_laid text (drop len first) own (drop 8 second) place len before size)

  there : bytes_at laid 0 len ≡ text
  there = text_laid text (drop len first) own (drop 8 second) place len before size

  pub brought_valid : IsTrue (stands bytes_kind laid place)
  brought_valid = bytes_valid laid place len (omega (arith, whole, short)) (omega (arith, whole, eight)) aligned near few held_own

  pub brought_reads : read_text laid place ≡ text
  brought_reads = bytes_read laid place len (omega (arith, whole, short)) (omega (arith, whole, eight)) aligned near few held_own ∙ there
