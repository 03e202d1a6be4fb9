-- What is written after a header is an archive of the same value.
use Rattle.std.proofs.Common.{◌≡◌, ℕ, ◌+◌, ◌<◌, ◌≤◌, ◌^◌, ◌∙◌, Bool, true, IsTrue, IsUtf8, List, [], ◌++◌, length, Result, Ok, Err, IfErr, refl, sym, ap, subst, arith}
use Rattle.std.proofs.lemmas.List.{append_assoc, length-append}
use Rattle.rkyv_btree_format.specs.OwnBytes.{IsArchiveOf, own_at}
use Rattle.rkyv_btree_portable.specs.Bytes.{Holds}
use Rattle.rkyv_btree_portable.specs.Kind.{Kind, IsLawful}
use Rattle.rkyv_btree_portable.specs.Standing.{IsAligned}
use Rattle.rkyv_btree_portable.specs.laws.Rounding.{le-round_up, round_up-aligned, alignment_positive}
use Rattle.rkyv_btree_typed.specs.TypeHeader.{header}
use Rattle.rkyv_btree_typed.specs.TypedWriting.{IsBuiltAfter, IsHeaderUnwritten, IsTypedArchiveOf}
use Rattle.rkyv_btree_writer.proofs.WriteRuns.{appended-append}
use Rattle.rkyv_btree_writer.specs.Archiving.{Archival, IsArchived, Matches, Serialises}
use Rattle.rkyv_btree_writer.specs.Padding.{padding}
use Rattle.rkyv_btree_writer.specs.Writing.{Writing, Refused, appended, position}
use Rattle.rkyv_btree_writer.specs.declared.fault.Fault.{Fault}
use Rattle.rkyv_btree_writer.specs.declared.fault.Fault.TheVariants.{Length, LengthOverflow, PositionOverflow, OffsetOverflow, Writer, Memory, Entry, OutOfOrder}
use Rattle.rkyv_btree_writing_laws.proofs.Accepting.{held_between}
use Rattle.rkyv_btree_writing_laws.proofs.Leaves.{length-padding}
use Rattle.rkyv_btree_writing_laws.specs.Whole.{IsPlaced}

module _ {X R : Type 0} (T : Archival X R) (kind : Kind) (k : IsLawful kind) (same : Matches T.kind kind) (law : IsArchived T) (fits : IsTrue kind.is_fitting) where
  -- all bytes, those that came before the writes too
  pub placed_whole : (x : X) (start s t : Writing) (r : R) (at : ℕ) (h : Serialises T x start s r) (p : IsPlaced T kind x r s at t) → t.contents ≡ start.contents ++ (appended h.0 ++ (appended (padding kind.align (position s)) ++ (p.own_bytes ++ [])))
  placed_whole x start s t r at h p =
      let pads = appended (padding kind.align (position s)) in
      (p.wrote.done.contents ∙ ap (λ z. s.contents ++ z) (appended-append (padding kind.align (position s)) _)) ∙ (ap (λ z. z ++ (pads ++ (p.own_bytes ++ []))) h.2.done.contents ∙ append_assoc start.contents (appended h.0) (pads ++ (p.own_bytes ++ [])))

  -- what a writer from position 0 holds after a value and its own bytes is an archive, whatever it held before
  pub archive_after : (x : X) (start s t : Writing) (r : R) (at : ℕ) → start.base ≡ 0 → Serialises T x start s r → IsPlaced T kind x r s at t → IsArchiveOf kind t.contents (same.to (T.meaning x))
      × ((left : ℕ) × kind.Means t.contents (length start.contents) (own_at kind t.contents) (own_at kind t.contents) left (same.to (T.meaning x)))
  archive_after x start s t r at zero_base h p =
      let pads = appended (padding kind.align (position s)) in
      let positive = alignment_positive k.alignment in
      let from = position start in
      let size = law x from at h.0 r p.own_bytes h.3 h.1 p.resolved in
      let grew : length s.contents ≡ length start.contents + length (appended h.0) = ap length h.2.done.contents ∙ length-append start.contents (appended h.0) in
      let more : t.contents ≡ s.contents ++ (pads ++ (p.own_bytes ++ [])) = p.wrote.done.contents ∙ ap (λ z. s.contents ++ z) (appended-append (padding kind.align (position s)) _) in
      let grouped : t.contents ≡ (s.contents ++ pads) ++ (p.own_bytes ++ []) = more ∙ sym (append_assoc s.contents pads (p.own_bytes ++ [])) in
      let padded = length-padding kind.align (position s) positive in
      let long : length t.contents ≡ at + kind.size = omega (
        arith,
        ap length grouped,
        length-append (s.contents ++ pads) (p.own_bytes ++ []),
        length-append s.contents pads,
        length-append p.own_bytes [],
        padded,
        p.place,
        size.0,
        same.size,
        h.2.done.base,
        zero_base,
      ) in
      let here : own_at kind t.contents ≡ at = omega (arith, long) in
      let front : Holds t.contents from (appended h.0) = subst (λ (z : List ℕ). Holds z from (appended h.0)) (sym (placed_whole x start s t r at h p)) (held_between start.contents (appended h.0) (pads ++ (p.own_bytes ++ [])) from (omega (arith, zero_base))) in
      let there : Holds t.contents at p.own_bytes = subst (λ (z : List ℕ). Holds z at p.own_bytes) (sym grouped) (held_between (s.contents ++ pads) p.own_bytes [] at (omega (arith, length-append s.contents pads, padded, p.place, h.2.done.base, zero_base))) in
      let aligned : IsAligned kind.align at = subst (IsAligned kind.align) (sym p.place) (round_up-aligned (position s) kind.align) in
      let up = le-round_up (position s) kind.align positive in
      let short : length t.contents ≤ 4294967295 = omega (arith, p.end, p.wrote.done.base, h.2.done.base, zero_base) in
      let behind : from + length (appended h.0) ≤ at = omega (arith, grew, up, p.place, h.2.done.base, zero_base) in
      let meant = size.1 (subst IsTrue (sym same.fits) fits) t.contents h.2.reach short (subst (λ (n : ℕ). IsAligned n at) (sym same.align) aligned) behind (omega (arith, long, same.size)) front there in
      let known = same.means t.contents from (from + length (appended h.0)) at meant.0 (T.meaning x) meant.1 in
      let wide = k.widens t.contents from (from + length (appended h.0)) at meant.0 0 at (same.to (T.meaning x)) (omega arith) behind (omega arith) known in
      let narrow = k.widens t.contents from (from + length (appended h.0)) at meant.0 from at (same.to (T.meaning x)) (omega arith) behind (omega arith) known in
      let behind_start : from ≡ length start.contents = omega (arith, zero_base) in (
        record {
          room = omega (arith, long);
          left = wide.0;
          means = subst (λ (n : ℕ). kind.Means t.contents 0 n n wide.0 (same.to (T.meaning x))) (sym here) wide.2;
        },
        (
          narrow.0,
          subst (λ (lo : ℕ). kind.Means t.contents lo (own_at kind t.contents) (own_at kind t.contents) narrow.0 (same.to (T.meaning x))) behind_start (subst (λ (n : ℕ). kind.Means t.contents from n n narrow.0 (same.to (T.meaning x))) (sym here) narrow.2),
        ),
      )

  -- the bytes that are built after a header are a typed file of the value
  pub typed_of_built : (name : List ℕ) (x : X) (bytes : List ℕ) → IsUtf8 name → length name < 2 ^ 32 → IsBuiltAfter T kind name x bytes → IsTypedArchiveOf name kind bytes (same.to (T.meaning x))
  typed_of_built name x bytes text small b =
      let archived = archive_after x _ b.written b.end b.resolver b.at refl b.serialised b.placed in
      record {
        named = record {
          text = text;
          fits = small;
          rest = _;
          parts = b.whole ∙ placed_whole x _ b.written b.end b.resolver b.at b.serialised b.placed;
        };
        archive = subst (λ (z : List ℕ). IsArchiveOf kind z (same.to (T.meaning x))) (sym b.whole) archived.0;
        apart = subst (λ (z : List ℕ). (left : ℕ) × kind.Means z (length (header name)) (own_at kind z) (own_at kind z) left (same.to (T.meaning x))) (sym b.whole) archived.1;
      }

-- a header that was refused
header_refused : {E : Type 0} (name : List ℕ) (s t : Writing) (fault : Fault E) → ((reaches : Bool) → Refused fault s (record { bytes = header name; reaches = reaches }) t) → IsHeaderUnwritten name s fault t
header_refused name s t PositionOverflow h = h true
header_refused name s t OffsetOverflow h = cc (h true).1
header_refused name s t (Writer error) h = h true
header_refused name s t (Length mismatch) h = h true
header_refused name s t LengthOverflow h = absurd (h true)
header_refused name s t (Memory error) h = absurd (h true)
header_refused name s t (Entry fault) h = h true
header_refused name s t (OutOfOrder index) h = h true

pub header_unput : {A E : Type 0} (name bytes : List ℕ) (s t : Writing) (result : Result A (Fault E)) → bytes ≡ header name → IfErr result (λ fault. (reaches : Bool) → Refused fault s (record { bytes = bytes; reaches = reaches }) t) → IfErr result (λ fault. IsHeaderUnwritten name s fault t)
header_unput name bytes s t (Ok x) e h = tt
header_unput name bytes s t (Err fault) e h = header_refused name s t fault (subst (λ (z : List ℕ). (reaches : Bool) → Refused fault s (record { bytes = z; reaches = reaches }) t) e h)
