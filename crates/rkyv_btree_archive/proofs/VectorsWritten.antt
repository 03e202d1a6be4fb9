-- Elements that were serialised, and their row, are a vector; and what stops them is why the vector isn't serialised.
use Rattle.std.specs.Prelude.{◌≡◌, ℕ, List, [], ◌∷◌, ◌++◌, length}
use Rattle.std.specs.List.{flat_map}
use Rattle.std.proofs.Common.{arith, refl, sym, ap, subst, ◌∙◌, inr, length-append}
use Rattle.std.proofs.lemmas.List.{append-nil, append_assoc}
use Rattle.std.proofs.lemmas.List.Elements.{All-nil, All-cons, All-append}
use Rattle.rkyv_btree_archive.specs.VectorArchival.{ElementsImage, RowImage, VectorBegins, of_elements, vector_archival}
use Rattle.rkyv_btree_archive.specs.mirror.Rows.{ElementsWritten, RowWritten}
use Rattle.rkyv_btree_portable.specs.Rounding.{round_up}
use Rattle.rkyv_btree_writer.proofs.FieldRuns.{long_front, long_behind}
use Rattle.rkyv_btree_writer.proofs.WriteRuns.{appended-append, appended-position, wrote-none, wrote-both, stopped-behind}
use Rattle.rkyv_btree_writer.specs.Archiving.{Archival, IsTooLong, Serialises, IsUnserialised}
use Rattle.rkyv_btree_writer.specs.Fields.{HasLong}
use Rattle.rkyv_btree_writer.specs.Writing.{Writing, position, Write, Stopped, appended}
use Rattle.rkyv_btree_writer.specs.declared.fault.Fault.{Fault}
use Rattle.rkyv_btree_writer.specs.declared.fault.Fault.TheVariants.{Length, LengthOverflow, PositionOverflow, OffsetOverflow, Writer, Memory, Entry, OutOfOrder}
use Rattle.rkyv_btree_writing_laws.proofs.Kept.{then_begins, wrote_begins}
use Rattle.rkyv_btree_writing_laws.specs.Imaged.{end_of}

module _ {M R : Type 0} (T : Archival M R) where
  -- no element
  pub no_element : (s : Writing) → ElementsWritten T s [] [] s
  no_element s = record { writes = []; image = (refl, refl); wrote = wrote-none s; are_in = All-nil T.IsIn }

  -- one more element
  pub image_more : (from : ℕ) (xs : List M) (writes own : List Write) (rs : List R) (x : M) (r : R) → ElementsImage T from xs writes rs → T.Writes x (end_of from writes) own r → ElementsImage T from (xs ++ x ∷ []) (writes ++ own) (rs ++ r ∷ [])
  image_more from [] writes own rs x r h is =
      let here = subst (λ (n : ℕ). T.Writes x n own r) (ap (end_of from) h.0 ∙ omega arith) is in
      (own, [], r, [], here, (refl, refl), ap (λ (ws : List Write). ws ++ own) h.0 ∙ sym (append-nil own), ap (λ (qs : List R). qs ++ r ∷ []) h.1)
  image_more from (y ∷ xs) writes own rs x r h is =
      let end : end_of from writes ≡ end_of (end_of from h.0) h.1 = ap (end_of from) h.6 ∙ omega (arith, ap length (appended-append h.0 h.1), length-append (appended h.0) (appended h.1)) in
      let rest = image_more (end_of from h.0) xs h.1 own h.3 x r h.5 (subst (λ (n : ℕ). T.Writes x n own r) end is) in
      (h.0, h.1 ++ own, h.2, h.3 ++ r ∷ [], h.4, rest, ap (λ (ws : List Write). ws ++ own) h.6 ∙ append_assoc h.0 h.1 own, ap (λ (qs : List R). qs ++ r ∷ []) h.7)

  pub element_written : (s m t : Writing) (xs : List M) (rs : List R) (x : M) (r : R) → ElementsWritten T s xs rs m → Serialises T x m t r → ElementsWritten T s (xs ++ x ∷ []) (rs ++ r ∷ []) t
  element_written s m t xs rs x r done is =
      let end : position m ≡ end_of (position s) done.writes = appended-position s (appended done.writes) m done.wrote.done in
      record {
        writes = done.writes ++ is.0;
        image = image_more (position s) xs done.writes is.0 rs x r done.image (subst (λ (n : ℕ). T.Writes x n is.0 r) end is.1);
        wrote = wrote-both s done.writes m is.0 t done.wrote is.2;
        are_in = All-append T.IsIn xs (x ∷ []) done.are_in (All-cons T.IsIn x [] is.3 (All-nil T.IsIn));
      }

  -- all elements and their row are written
  pub vector_serialised : {X : Type 0} (elements : X → List M) (x : X) (s m t : Writing) (rs : List R) (start : ℕ) → ElementsWritten T s (elements x) rs m → RowWritten T m (elements x) rs start t → Serialises (vector_archival T elements) x s t start
  vector_serialised elements x s m t rs start done row =
      let end : position m ≡ end_of (position s) done.writes = appended-position s (appended done.writes) m done.wrote.done in (
        done.writes ++ row.writes,
        record { first = done.writes; second = row.writes; rs = rs; elements = done.image; row = subst (λ (n : ℕ). RowImage T n (elements x) rs row.writes) end row.row; place = row.place ∙ ap (λ n. round_up n T.kind.align) end; both = refl },
        wrote-both s done.writes m row.writes t done.wrote row.wrote,
        done.are_in,
        inr row.end,
      )

  -- a long length of an element is one of the vector's
  pub any_long : (before : List M) (y : M) (later : List M) → IsTooLong T y → HasLong (flat_map T.lengths (before ++ y ∷ later))
  any_long [] y later long = long_front (T.lengths y) (flat_map T.lengths later) long
  any_long (z ∷ before) y later long = long_behind (T.lengths z) (flat_map T.lengths (before ++ y ∷ later)) (any_long before y later long)

  -- what stops at a write of the vector
  module _ {E X : Type 0} (elements : X → List M) (x : X) (s t : Writing) where
    pub begun_stops : (fault : Fault E) (writes : List Write) → VectorBegins T (position s) (elements x) writes → Stopped s writes fault t → IsUnserialised (vector_archival T elements) x s fault t
    begun_stops (Length mismatch) writes b h = absurd h.refused
    begun_stops LengthOverflow writes b h = absurd h.refused
    begun_stops PositionOverflow writes b h = (writes, b, h)
    begun_stops OffsetOverflow writes b h = (writes, b, h)
    begun_stops (Writer error) writes b h = (writes, b, h)
    begun_stops (Memory error) writes b h = absurd h.refused
    begun_stops (Entry fault) writes b h = absurd h.refused
    begun_stops (OutOfOrder index) writes b h = absurd h.refused

    -- an element isn't serialised
    module _ (m : Writing) (xs later : List M) (rs : List R) (y : M) (parts : elements x ≡ xs ++ y ∷ later) (done : ElementsWritten T s xs rs m) where
      stops : (fault : Fault E) (writes : List Write) → T.Begins y (position m) writes → Stopped m writes fault t → IsUnserialised (vector_archival T elements) x s fault t
      stops fault writes b h =
          let end : position m ≡ end_of (position s) done.writes = appended-position s (appended done.writes) m done.wrote.done in
          begun_stops fault (done.writes ++ writes)
          (of_elements (record { done = xs; x = y; later = later; first = done.writes; second = writes; rs = rs; parts = parts; image = done.image; next = subst (λ (n : ℕ). T.Begins y n writes) end b; both = refl }))
          (stopped-behind s done.writes m writes fault t done.wrote h)

      pub element_unserialised : (fault : Fault E) → IsUnserialised T y m fault t → IsUnserialised (vector_archival T elements) x s fault t
      element_unserialised (Length mismatch) h = absurd h
      element_unserialised LengthOverflow h = (inr (subst (λ (zs : List M). HasLong (flat_map T.lengths zs)) (sym parts) (any_long xs y later h.0)), then_begins s m t (wrote_begins s done.writes m done.wrote) h.1)
      element_unserialised PositionOverflow h = stops PositionOverflow h.0 h.1 h.2
      element_unserialised OffsetOverflow h = stops OffsetOverflow h.0 h.1 h.2
      element_unserialised (Writer error) h = stops (Writer error) h.0 h.1 h.2
      element_unserialised (Memory error) h = (omega (arith, ap length parts, length-append xs (y ∷ later)), then_begins s m t (wrote_begins s done.writes m done.wrote) h.1)
      element_unserialised (Entry fault) h =
          let end : position m ≡ end_of (position s) done.writes = appended-position s (appended done.writes) m done.wrote.done in
          ((done.writes, record { done = xs; x = y; later = later; first = done.writes; second = []; rs = rs; parts = parts; image = done.image; next = (subst (λ (n : ℕ). T.Refuses y n fault) end h.0, refl); both = sym (append-nil done.writes) }), then_begins s m t (wrote_begins s done.writes m done.wrote) h.1)
      element_unserialised (OutOfOrder index) h = absurd h
