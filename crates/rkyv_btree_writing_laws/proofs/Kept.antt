-- Whatever stops the writes of a value, what the writer held stays in front, from the same first position on.
use Rattle.std.proofs.Common.{◌≡◌, List, [], ◌++◌, refl, sym, subst, ap, ◌∙◌}
use Rattle.std.proofs.lemmas.List.{append_assoc, append-nil}
use Rattle.rkyv_btree_writer.specs.Archiving.{Archival, BeginsWith, IsUnserialised}
use Rattle.rkyv_btree_writer.specs.Writing.{Writing, Write, Wrote, Refused, Stopped, appended}
use Rattle.rkyv_btree_writer.specs.declared.fault.Fault.{Fault}
use Rattle.rkyv_btree_writer.specs.declared.fault.Fault.TheVariants.{Length, LengthOverflow, PositionOverflow, OffsetOverflow, Writer, Memory, Entry, OutOfOrder}
use Rattle.rkyv_btree_writing_laws.specs.Kept.{OnlyAppended}

pub same_begins : (s t : Writing) → t ≡ s → BeginsWith t s
same_begins s t e = subst (λ (u : Writing). BeginsWith u s) (sym e) (refl, ([], sym (append-nil s.contents)))

pub then_begins : (s m t : Writing) → BeginsWith m s → BeginsWith t m → BeginsWith t s
then_begins s m t g h = (h.0 ∙ g.0, (g.1.0 ++ h.1.0, h.1.1 ∙ (ap (λ z. z ++ h.1.0) g.1.1 ∙ append_assoc s.contents g.1.0 h.1.0)))

pub wrote_begins : (s : Writing) (writes : List Write) (t : Writing) → Wrote s writes t → BeginsWith t s
wrote_begins s writes t w = (w.done.base, (appended writes, w.done.contents))

pub went_nowhere : (s t : Writing) → t ≡ s → OnlyAppended s t
went_nowhere s t e = subst (λ (u : Writing). OnlyAppended s u) (sym e) ([], record { base = refl; contents = sym (append-nil s.contents); failures = refl })

pub went_on : (s m t : Writing) → OnlyAppended s m → OnlyAppended m t → OnlyAppended s t
went_on s m t g h = (
  g.0 ++ h.0,
  record { base = h.1.base ∙ g.1.base; contents = h.1.contents ∙ (ap (λ z. z ++ h.0) g.1.contents ∙ append_assoc s.contents g.0 h.0); failures = h.1.failures ∙ g.1.failures },
)

pub wrote_went : (s : Writing) (writes : List Write) (t : Writing) → Wrote s writes t → OnlyAppended s t
wrote_went s writes t w = (appended writes, w.done)

pub went_begins : (s t : Writing) → OnlyAppended s t → BeginsWith t s
went_begins s t h = (h.1.base, (h.0, h.1.contents))

module _ {E : Type 0} where
  pub refused_begins : (fault : Fault E) (s : Writing) (next : Write) (t : Writing) → Refused fault s next t → BeginsWith t s
  refused_begins PositionOverflow s next t h = same_begins s t h.0
  refused_begins OffsetOverflow s next t h = same_begins s t h.0
  refused_begins (Writer error) s next t h = (h.base, (h.front, h.contents))
  refused_begins (Length mismatch) s next t h = absurd h
  refused_begins LengthOverflow s next t h = absurd h
  refused_begins (Memory error) s next t h = absurd h
  refused_begins (Entry fault) s next t h = absurd h
  refused_begins (OutOfOrder index) s next t h = absurd h

  pub stopped_begins : (s : Writing) (writes : List Write) (fault : Fault E) (t : Writing) → Stopped s writes fault t → BeginsWith t s
  stopped_begins s writes fault t h = then_begins s h.mid t (wrote_begins s h.made h.mid h.wrote) (refused_begins fault h.mid h.next t h.refused)

  pub unserialised_begins : {X R : Type 0} (T : Archival X R) (x : X) (s : Writing) (fault : Fault E) (t : Writing) → IsUnserialised T x s fault t → BeginsWith t s
  unserialised_begins T x s (Length mismatch) t h = absurd h
  unserialised_begins T x s LengthOverflow t h = h.1
  unserialised_begins T x s PositionOverflow t h = stopped_begins s h.0 PositionOverflow t h.2
  unserialised_begins T x s OffsetOverflow t h = stopped_begins s h.0 OffsetOverflow t h.2
  unserialised_begins T x s (Writer error) t h = stopped_begins s h.0 (Writer error) t h.2
  unserialised_begins T x s (Memory error) t h = h.1
  unserialised_begins T x s (Entry fault) t h = h.1
  unserialised_begins T x s (OutOfOrder index) t h = absurd h
