-- Texts written, and texts whose write is refused.
use Rattle.std.proofs.Common.{◌≡◌, ℕ, ◌<◌, true, List, [], refl}
use Rattle.rkyv_btree_writer.specs.declared.fault.Fault.{Fault}
use Rattle.rkyv_btree_writer.specs.declared.fault.Fault.TheVariants.{Length, LengthOverflow, PositionOverflow, OffsetOverflow, Writer, Memory, Entry, OutOfOrder}
use Rattle.rkyv_btree_writer.specs.Archiving.{IsUnserialised}
use Rattle.rkyv_btree_writer.specs.BytesArchival.{bytes_archival}
use Rattle.rkyv_btree_writer.specs.TextArchival.{text_writes, text_archival}
use Rattle.rkyv_btree_writer.specs.Writing.{Writing, Appended, Wrote, Refused, position, last_end}
use Rattle.rkyv_btree_writer.proofs.WriteRuns.{wrote-one, stopped-one}

pub text_wrote : (text : List ℕ) (s t : Writing) → Appended s text t → Wrote s (text_writes text) t
text_wrote text s t a = wrote-one s (record { bytes = text; reaches = true }) t refl a

pub text_refused : {X E : Type 0} (text : X → List ℕ) (x : X) (s t : Writing) (fault : Fault E) → (text x ≡ [] → last_end < position s) → Refused fault s (record { bytes = text x; reaches = true }) t → IsUnserialised (text_archival text) x s fault t
text_refused text x s t (Length mismatch) past r = absurd r
text_refused text x s t LengthOverflow past r = absurd r
text_refused {X} {E} text x s t PositionOverflow past r = (text_writes (text x), (refl, past), stopped-one {E = E} s (record { bytes = text x; reaches = true }) PositionOverflow t r)
text_refused {X} {E} text x s t OffsetOverflow past r = (text_writes (text x), (refl, past), stopped-one {E = E} s (record { bytes = text x; reaches = true }) OffsetOverflow t r)
text_refused text x s t (Writer error) past r = (text_writes (text x), (refl, past), stopped-one s (record { bytes = text x; reaches = true }) (Writer error) t r)
text_refused text x s t (Memory error) past r = absurd r
text_refused text x s t (Entry fault) past r = absurd r
text_refused text x s t (OutOfOrder index) past r = absurd r

pub bytes_refused : {X E : Type 0} (bytes : X → List ℕ) (x : X) (s t : Writing) (fault : Fault E) → (bytes x ≡ [] → last_end < position s) → Refused fault s (record { bytes = bytes x; reaches = true }) t → IsUnserialised (bytes_archival bytes) x s fault t
bytes_refused bytes x s t (Length mismatch) past r = absurd r
bytes_refused bytes x s t LengthOverflow past r = absurd r
bytes_refused {X} {E} bytes x s t PositionOverflow past r = (text_writes (bytes x), (refl, past), stopped-one {E = E} s (record { bytes = bytes x; reaches = true }) PositionOverflow t r)
bytes_refused {X} {E} bytes x s t OffsetOverflow past r = (text_writes (bytes x), (refl, past), stopped-one {E = E} s (record { bytes = bytes x; reaches = true }) OffsetOverflow t r)
bytes_refused bytes x s t (Writer error) past r = (text_writes (bytes x), (refl, past), stopped-one s (record { bytes = bytes x; reaches = true }) (Writer error) t r)
bytes_refused bytes x s t (Memory error) past r = absurd r
bytes_refused bytes x s t (Entry fault) past r = absurd r
bytes_refused bytes x s t (OutOfOrder index) past r = absurd r
