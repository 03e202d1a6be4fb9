-- What was serialised from position 0 on, and its own bytes after that, are an archive.
use Rattle.std.proofs.Common.{◌≡◌, ℕ, ◌+◌, ◌-◌, ◌<◌, ◌≤◌, ◌∙◌, Bool, true, false, nat_eq, if◌then◌else◌, IsTrue, List, [], ◌∷◌, ◌++◌, length, refl, sym, ap, subst, arith}
use Rattle.std.proofs.lemmas.List.{append_assoc, length-append}
use Rattle.rkyv_btree_writing_laws.proofs.Accepting.{held_between}
use Rattle.rkyv_btree_writing_laws.proofs.Leaves.{length-padding}
use Rattle.rkyv_btree_writing_laws.specs.Whole.{IsPlaced, IsUnplaced, IsUnwritten, fresh}
use Rattle.rkyv_btree_format.specs.OwnBytes.{IsArchiveOf, own_at}
use Rattle.rkyv_btree_portable.specs.Bytes.{Holds}
use Rattle.rkyv_btree_portable.specs.Kind.{Kind, IsLawful}
use Rattle.rkyv_btree_portable.specs.Rounding.{round_up}
use Rattle.rkyv_btree_portable.specs.Standing.{IsAligned}
use Rattle.rkyv_btree_portable.specs.laws.Rounding.{le-round_up, round_up-aligned, alignment_positive}
use Rattle.rkyv_btree_writer.proofs.WriteRuns.{appended-append, stopped_past, stopped_stray}
use Rattle.rkyv_btree_writer.specs.Archiving.{Archival, IsArchived, Matches, Serialises}
use Rattle.rkyv_btree_writer.specs.Padding.{padding, zeros_write}
use Rattle.rkyv_btree_writer.specs.Writing.{Writing, AllReach, Refused, Stopped, appended, position}
use Rattle.rkyv_btree_writer.specs.declared.fault.Fault.{Fault}
use Rattle.rkyv_btree_writer.specs.declared.fault.Fault.TheVariants.{Length, LengthOverflow, PositionOverflow, OffsetOverflow, Writer, Memory, Entry, OutOfOrder}

module _ {X R : Type 0} (T : Archival X R) (kind : Kind) (k : IsLawful kind) (same : Matches T.kind kind) (law : IsArchived T) (fits : IsTrue kind.is_fitting) where
  pub archive_of_placed : (x : X) (s t : Writing) (r : R) (at : ℕ) → Serialises T x fresh s r → IsPlaced T kind x r s at t → IsArchiveOf kind t.contents (same.to (T.meaning x))
  archive_of_placed x s t r at h p =
      let pads = appended (padding kind.align (position s)) in
      let positive = alignment_positive k.alignment in
      let size = law x 0 at h.0 r p.own_bytes h.3 h.1 p.resolved in
      let start : s.contents ≡ appended h.0 = h.2.done.contents in
      let more : t.contents ≡ s.contents ++ (pads ++ (p.own_bytes ++ [])) = p.wrote.done.contents ∙ ap (λ z. s.contents ++ z) (appended-append (padding kind.align (position s)) _) in
      let grouped : t.contents ≡ (s.contents ++ pads) ++ (p.own_bytes ++ []) = more ∙ sym (append_assoc s.contents pads (p.own_bytes ++ [])) in
      let padded = length-padding kind.align (position s) positive in
      let long : length t.contents ≡ at + kind.size = omega (
        arith,
        ap length grouped,
        length-append (s.contents ++ pads) (p.own_bytes ++ []),
        length-append s.contents pads,
        length-append p.own_bytes [],
        padded,
        p.place,
        size.0,
        same.size,
        h.2.done.base,
      ) in
      let here : own_at kind t.contents ≡ at = omega (arith, long) in
      let front : Holds t.contents 0 (appended h.0) = subst (λ (z : List ℕ). Holds z 0 (appended h.0)) (sym (more ∙ ap (λ z. z ++ (pads ++ (p.own_bytes ++ []))) start)) (held_between [] (appended h.0) (pads ++ (p.own_bytes ++ [])) 0 refl) in
      let there : Holds t.contents at p.own_bytes = subst (λ (z : List ℕ). Holds z at p.own_bytes) (sym grouped) (held_between (s.contents ++ pads) p.own_bytes [] at (omega (arith, length-append s.contents pads, padded, p.place, h.2.done.base))) in
      let aligned : IsAligned kind.align at = subst (IsAligned kind.align) (sym p.place) (round_up-aligned (position s) kind.align) in
      let up = le-round_up (position s) kind.align positive in
      let short : length t.contents ≤ 4294967295 = omega (arith, p.end, p.wrote.done.base, h.2.done.base) in
      let behind : 0 + length (appended h.0) ≤ at = omega (arith, ap length start, up, p.place, h.2.done.base) in
      let meant = size.1 (subst IsTrue (sym same.fits) fits) t.contents h.2.reach short (subst (λ (n : ℕ). IsAligned n at) (sym same.align) aligned) behind (omega (arith, long, same.size)) front there in
      let known = same.means t.contents 0 (0 + length (appended h.0)) at meant.0 (T.meaning x) meant.1 in
      let wide = k.widens t.contents 0 (0 + length (appended h.0)) at meant.0 0 at (same.to (T.meaning x)) (omega arith) behind (omega arith) known in
      record {
        room = omega (arith, long);
        left = wide.0;
        means = subst (λ (n : ℕ). kind.Means t.contents 0 n n wide.0 (same.to (T.meaning x))) (sym here) wide.2;
      }

-- zeros have no pointer
padding_reach : (align w : ℕ) → AllReach (padding align w)
padding_reach align w = go (nat_eq (round_up w align) w)
  where
    go : (z : Bool) → AllReach (if z then [] else zeros_write (round_up w align - w) ∷ [])
    go true = tt
    go false = (refl, tt)

module _ {X R E : Type 0} (T : Archival X R) (kind : Kind) (x : X) (r : R) (s : Writing) where
  -- where the padding or the own bytes aren't written, these aren't placed
  pub unpadded_unplaced : 0 < kind.align → (fault : Fault E) (t : Writing) → Stopped s (padding kind.align (position s)) fault t → IsUnplaced T kind x r (round_up (position s) kind.align) fault
  unpadded_unplaced positive PositionOverflow t h = omega (arith, stopped_past {E = E} s (padding kind.align (position s)) t h, length-padding kind.align (position s) positive, le-round_up (position s) kind.align positive)
  unpadded_unplaced positive OffsetOverflow t h = absurd (stopped_stray {E = E} s (padding kind.align (position s)) t h (padding_reach kind.align (position s)))
  unpadded_unplaced positive (Writer error) t h = tt
  unpadded_unplaced positive (Length mismatch) t h = h.refused
  unpadded_unplaced positive LengthOverflow t h = absurd h.refused
  unpadded_unplaced positive (Memory error) t h = tt
  unpadded_unplaced positive (Entry fault) t h = h.refused
  unpadded_unplaced positive (OutOfOrder index) t h = h.refused

  pub unput_unplaced : (own : List ℕ) → length own ≡ kind.size → (m t : Writing) → position m ≡ round_up (position s) kind.align → (fault : Fault E) → ((reaches : Bool) → Refused fault m (record { bytes = own; reaches = reaches }) t) → IsUnplaced T kind x r (round_up (position s) kind.align) fault
  unput_unplaced own size m t at PositionOverflow h = omega (arith, (h true).1, size, at)
  unput_unplaced own size m t at OffsetOverflow h = absurd (cc (h true).1)
  unput_unplaced own size m t at (Writer error) h = tt
  unput_unplaced own size m t at (Length mismatch) h = h true
  unput_unplaced own size m t at LengthOverflow h = absurd (h true)
  unput_unplaced own size m t at (Memory error) h = tt
  unput_unplaced own size m t at (Entry fault) h = h true
  unput_unplaced own size m t at (OutOfOrder index) h = h true

-- a refused write of the own bytes
pub unput_unwritten : {X R E : Type 0} (T : Archival X R) (kind : Kind) (x : X) (r : R) (s t : Writing) (own : List ℕ) → T.Resolves x r (position s) own → (fault : Fault E) → ((reaches : Bool) → Refused fault s (record { bytes = own; reaches = reaches }) t) → IsUnwritten T kind x r s fault t
unput_unwritten T kind x r s t own resolved PositionOverflow h = (h true).0
unput_unwritten T kind x r s t own resolved OffsetOverflow h = (h true).0
unput_unwritten T kind x r s t own resolved (Writer error) h = (own, resolved, h true)
unput_unwritten T kind x r s t own resolved (Length mismatch) h = absurd (h true)
unput_unwritten T kind x r s t own resolved LengthOverflow h = absurd (h true)
unput_unwritten T kind x r s t own resolved (Memory error) h = absurd (h true)
unput_unwritten T kind x r s t own resolved (Entry fault) h = absurd (h true)
unput_unwritten T kind x r s t own resolved (OutOfOrder index) h = absurd (h true)
