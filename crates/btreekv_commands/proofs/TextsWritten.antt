-- Texts whose write is refused.
use Rattle.std.proofs.Common.{◌≡◌, ◌<◌, true, List, ℕ, [], refl}
use Rattle.rkyv_btree_writer.specs.Archiving.{IsUnserialised}
use Rattle.rkyv_btree_writer.specs.declared.fault.Fault.{Fault}
use Rattle.rkyv_btree_writer.specs.declared.fault.Fault.TheVariants.{Length, LengthOverflow, PositionOverflow, OffsetOverflow, Writer, Memory, Entry, OutOfOrder}
use Rattle.rkyv_btree_writer.specs.TextArchival.{text_writes, text_archival}
use Rattle.rkyv_btree_writer.specs.Writing.{Writing, Refused, position, last_end}
use Rattle.rkyv_btree_writer.proofs.WriteRuns.{stopped-one}

-- a text's one write is refused
pub text_refused : {E : Type 0} (text : List ℕ) (s t : Writing) (fault : Fault E) → (text ≡ [] → last_end < position s) → Refused fault s (record { bytes = text; reaches = true }) t → IsUnserialised (text_archival (λ bytes. bytes)) text s fault t
text_refused text s t (Length mismatch) past r = absurd r
text_refused text s t LengthOverflow past r = absurd r
text_refused {E} text s t PositionOverflow past r = (text_writes text, (refl, past), stopped-one {E = E} s (record { bytes = text; reaches = true }) PositionOverflow t r)
text_refused {E} text s t OffsetOverflow past r = (text_writes text, (refl, past), stopped-one {E = E} s (record { bytes = text; reaches = true }) OffsetOverflow t r)
text_refused text s t (Writer error) past r = (text_writes text, (refl, past), stopped-one s (record { bytes = text; reaches = true }) (Writer error) t r)
text_refused text s t (Memory error) past r = absurd r
text_refused text s t (Entry fault) past r = absurd r
text_refused text s t (OutOfOrder index) past r = absurd r
