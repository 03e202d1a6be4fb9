-- What stops the row of elements that were serialised is why their vector isn't serialised.
use Rattle.std.specs.Prelude.{◌≡◌, ℕ, ◌+◌, ◌*◌, ◌≤◌, ◌<◌, ◌^◌, ◌⊎◌, true, List, [], ◌∷◌, ◌++◌, length}
use Rattle.std.specs.List.{flat_map}
use Rattle.std.proofs.Common.{suc, arith, refl, sym, ap, subst, ◌∙◌, inl, inr, ⊎_elim}
use Rattle.std.proofs.lemmas.Bool.{cases_lt}
use Rattle.rkyv_btree_archive.proofs.VectorsWritten.{begun_stops}
use Rattle.rkyv_btree_archive.specs.VectorArchival.{row_image, ElementsImage, RowImage, RowUnresolved, VectorBegins, of_row, of_unresolved, vector_archival}
use Rattle.rkyv_btree_archive.specs.laws.VectorArchived.{joined, row_length}
use Rattle.rkyv_btree_archive.specs.mirror.Rows.{ElementsWritten, RowStopped, in_padding, past_end, in_memory, in_own_bytes, in_row}
use Rattle.rkyv_btree_portable.specs.Kind.{IsLawful}
use Rattle.rkyv_btree_portable.specs.Rounding.{round_up}
use Rattle.rkyv_btree_portable.specs.laws.Holding.{length-zeros}
use Rattle.rkyv_btree_writer.proofs.FieldRuns.{long_front, long_behind, unfit_long}
use Rattle.rkyv_btree_writer.proofs.WriteRuns.{appended-position, stopped-front, stopped-behind, stopped-one}
use Rattle.rkyv_btree_writer.specs.Archiving.{Archival, IsArchived, IsUnserialised, BeginsWith}
use Rattle.rkyv_btree_writer.specs.Causes.{HasCauses}
use Rattle.rkyv_btree_writer.specs.Fields.{Field, a_length, a_pointer, Fits, IsUnfit, AllFit, FirstUnfit, HasLong}
use Rattle.rkyv_btree_writer.specs.Padding.{padding}
use Rattle.rkyv_btree_writer.specs.Pointers.{FitsOffset}
use Rattle.rkyv_btree_writer.specs.Writing.{Writing, position, Write, Wrote, Stopped, appended, last_end}
use Rattle.rkyv_btree_writer.specs.declared.fault.Fault.{Fault}
use Rattle.rkyv_btree_writer.specs.declared.fault.Fault.TheVariants.{PositionOverflow, OffsetOverflow}
use Rattle.rkyv_btree_writer.specs.declared.fault.ResolveFault.{ResolveFault}
use Rattle.rkyv_btree_writer.specs.declared.fault.ResolveFault.TheVariants as resolving
use Rattle.rkyv_btree_writing_laws.proofs.Kept.{then_begins, wrote_begins}
use Rattle.rkyv_btree_writing_laws.specs.Entries.{AreResolved, AreUnresolved, as_fault}
use Rattle.rkyv_btree_writing_laws.specs.Imaged.{end_of, unresolved_write}

-- a field fits, or is unfit for a cause
pointer_fits : (place target : ℕ) → FitsOffset place target ⊎ (FitsOffset place target → ⊥)
pointer_fits place target =
    ⊎_elim (λ (near : target < place + 2 ^ 31). ⊎_elim (λ (past : target + 2 ^ 31 < place). inr (λ fits. omega (arith, fits.1))) (λ (low : place ≤ target + 2 ^ 31). inl (near, low)) (cases_lt (target + 2 ^ 31) place))
    (λ (far : place + 2 ^ 31 ≤ target). inr (λ fits. omega (arith, fits.0))) (cases_lt target (place + 2 ^ 31))

field_fits : (f : Field) → Fits f ⊎ ((cause : ResolveFault) × IsUnfit f cause)
field_fits (a_length place len) = ⊎_elim (λ (long : last_end < len). inr (resolving.LengthOverflow, long)) (λ (short : len ≤ last_end). inl short) (cases_lt last_end len)
field_fits (a_pointer place target) = ⊎_elim (λ (near : FitsOffset place target). inl near) (λ (far : FitsOffset place target → ⊥). inr (resolving.OffsetOverflow, far)) (pointer_fits place target)

fields_fit : (fs : List Field) → AllFit fs ⊎ ((cause : ResolveFault) × FirstUnfit fs cause)
fields_fit [] = inl tt
fields_fit (f ∷ fs) = both (field_fits f) (fields_fit fs)
  where
    both : Fits f ⊎ ((cause : ResolveFault) × IsUnfit f cause) → AllFit fs ⊎ ((cause : ResolveFault) × FirstUnfit fs cause) → AllFit (f ∷ fs) ⊎ ((cause : ResolveFault) × FirstUnfit (f ∷ fs) cause)
    both (inr unfit) later = inr (unfit.0, inl unfit.1)
    both (inl fits) (inl all) = inl (fits, all)
    both (inl fits) (inr unfit) = inr (unfit.0, inr (fits, unfit.1))

-- serialising tells something of each element
image_count : {M R : Type 0} (T : Archival M R) (from : ℕ) (xs : List M) (writes : List Write) (rs : List R) → ElementsImage T from xs writes rs → length rs ≡ length xs
image_count T from [] writes rs h = ap length h.1
image_count T from (x ∷ xs) writes rs h = ap length h.7 ∙ ap suc (image_count T (end_of from h.0) xs h.1 h.3 h.5)

module _ {M R : Type 0} (T : Archival M R) (causes : HasCauses T) where
  -- elements are resolved one after another, or one of them isn't
  abbrev Decided : ℕ → List M → List R → Type 0
  Decided at xs rs = ((owns : List (List ℕ)) × AreResolved T at xs rs owns) ⊎ ((cause : ResolveFault) × AreUnresolved T at xs rs cause)

  decided : (at : ℕ) (xs : List M) (rs : List R) → length rs ≡ length xs → Decided at xs rs
  decided at [] [] same = inl ([], (refl, refl))
  decided at [] (r ∷ rs) same = absurd (omega arith)
  decided at (x ∷ xs) [] same = absurd (omega arith)
  decided at (x ∷ xs) (r ∷ rs) same = both (fields_fit (T.fields x r at)) (decided (at + T.kind.size) xs rs (omega arith))
    where
      both : AllFit (T.fields x r at) ⊎ ((cause : ResolveFault) × FirstUnfit (T.fields x r at) cause) → ((owns : List (List ℕ)) × AreResolved T (at + T.kind.size) xs rs owns) ⊎ ((cause : ResolveFault) × AreUnresolved T (at + T.kind.size) xs rs cause) →
          ((owns : List (List ℕ)) × AreResolved T at (x ∷ xs) (r ∷ rs) owns) ⊎ ((cause : ResolveFault) × AreUnresolved T at (x ∷ xs) (r ∷ rs) cause)
      both (inr unfit) later = inr (unfit.0, (r, rs, refl, inl unfit.1))
      both (inl all) (inl h) = let own = (causes.fits x r at).1 all in inl (own.0 ∷ h.0, (r, rs, own.0, h.0, own.1, h.1, refl, refl))
      both (inl all) (inr h) = let own = (causes.fits x r at).1 all in inr (h.0, (r, rs, refl, inr (own.0, own.1, h.1)))

  -- one that isn't, for a length, has a long one
  unresolved_long : (at : ℕ) (xs : List M) (rs : List R) → AreUnresolved T at xs rs resolving.LengthOverflow → HasLong (flat_map T.lengths xs)
  unresolved_long at [] rs h = absurd h
  unresolved_long at (x ∷ xs) rs (r, others, e, inl h) = long_front (T.lengths x) (flat_map T.lengths xs) (causes.long x r at (unfit_long (T.fields x r at) h))
  unresolved_long at (x ∷ xs) rs (r, others, e, inr h) = long_behind (T.lengths x) (flat_map T.lengths xs) (unresolved_long (at + T.kind.size) xs others h.2)

-- what stands for a row that isn't resolved has its size
unresolved_size : (cause : ResolveFault) (size : ℕ) → length (unresolved_write cause size).bytes ≡ size
unresolved_size resolving.LengthOverflow size = length-zeros size
unresolved_size resolving.OffsetOverflow size = length-zeros size

module _ {M R X : Type 0} (T : Archival M R) (t : IsLawful T.kind) (is_value : IsArchived T) (causes : HasCauses T) (elements : X → List M) (x : X) (s m u : Writing) (rs : List R) (done : ElementsWritten T s (elements x) rs m) where
  row_begins : (writes : List Write) → RowImage T (position m) (elements x) rs writes → VectorBegins T (position s) (elements x) (done.writes ++ writes)
  row_begins writes row =
      let end : position m ≡ end_of (position s) done.writes = appended-position s (appended done.writes) m done.wrote.done in
      of_row _ (record { first = done.writes; second = writes; rs = rs; elements = done.image; row = subst (λ (n : ℕ). RowImage T n (elements x) rs writes) end row; place = refl; both = refl })

  unresolved_begins : (cause : ResolveFault) → AreUnresolved T (round_up (position m) T.kind.align) (elements x) rs cause → VectorBegins T (position s) (elements x) (done.writes ++ (padding T.kind.align (position m) ++ unresolved_write cause (length (elements x) * T.kind.size) ∷ []))
  unresolved_begins cause h =
      let end : position m ≡ end_of (position s) done.writes = appended-position s (appended done.writes) m done.wrote.done in
      let row : RowUnresolved T (position m) (elements x) rs (padding T.kind.align (position m) ++ unresolved_write cause (length (elements x) * T.kind.size) ∷ []) = record { cause = cause; unresolved = h; image = refl } in
      of_unresolved done.writes _ rs done.image (subst (λ (n : ℕ). RowUnresolved T n (elements x) rs (padding T.kind.align (position m) ++ unresolved_write cause (length (elements x) * T.kind.size) ∷ [])) end row) refl

  -- some write of the row's size stands after the padding
  open_stops : {E : Type 0} (fault : Fault E) → ((next : Write) → length next.bytes ≡ length (elements x) * T.kind.size → Stopped m (padding T.kind.align (position m) ++ next ∷ []) fault u) → IsUnserialised (vector_archival T elements) x s fault u
  open_stops fault stops =
      ⊎_elim (λ (h : (owns : List (List ℕ)) × AreResolved T (round_up (position m) T.kind.align) (elements x) rs owns).
      let next : Write = record { bytes = joined h.0; reaches = true } in
      begun_stops T elements x s u fault (done.writes ++ row_image T.kind.align (position m) h.0) (row_begins _ (record { owns = h.0; resolved = h.1; image = refl }))
      (stopped-behind s done.writes m (row_image T.kind.align (position m) h.0) fault u done.wrote (stops next (row_length T t is_value (position s) (round_up (position m) T.kind.align) (elements x) done.writes rs h.0 done.image h.1 done.are_in))))
      (λ (h : (cause : ResolveFault) × AreUnresolved T (round_up (position m) T.kind.align) (elements x) rs cause).
      begun_stops T elements x s u fault _ (unresolved_begins h.0 h.1) (stopped-behind s done.writes m _ fault u done.wrote (stops (unresolved_write h.0 (length (elements x) * T.kind.size)) (unresolved_size h.0 (length (elements x) * T.kind.size)))))
      (decided T causes (round_up (position m) T.kind.align) (elements x) rs (image_count T (position s) (elements x) done.writes rs done.image))

  begins : BeginsWith u m → BeginsWith u s
  begins h = then_begins s m u (wrote_begins s done.writes m done.wrote) h

  own_stops : (E : Type 0) (cause : ResolveFault) → Wrote m (padding T.kind.align (position m)) u → AreUnresolved T (round_up (position m) T.kind.align) (elements x) rs cause → IsUnserialised (vector_archival T elements) x s (as_fault {E = E} cause) u
  own_stops E resolving.LengthOverflow wrote h = (inr (unresolved_long T causes _ (elements x) rs h), begins (wrote_begins m (padding T.kind.align (position m)) u wrote))
  own_stops E resolving.OffsetOverflow wrote h =
      let next = unresolved_write resolving.OffsetOverflow (length (elements x) * T.kind.size) in
      begun_stops T {E = E} elements x s u OffsetOverflow _ (unresolved_begins resolving.OffsetOverflow h) (stopped-behind s done.writes m _ OffsetOverflow u done.wrote (stopped-behind m (padding T.kind.align (position m)) u (next ∷ []) OffsetOverflow u wrote (stopped-one u next OffsetOverflow u (refl, refl))))

  pub row_unserialised : {E : Type 0} (fault : Fault E) → RowStopped T m (elements x) rs fault u → IsUnserialised (vector_archival T elements) x s fault u
  row_unserialised fault (in_padding h) = open_stops fault (λ next long. stopped-front m (padding T.kind.align (position m)) (next ∷ []) fault u h)
  row_unserialised {E} fault (past_end e wrote past) =
      subst (λ (f : Fault E). IsUnserialised (vector_archival T elements) x s f u) (sym e)
      (open_stops PositionOverflow (λ next long. stopped-behind m (padding T.kind.align (position m)) u (next ∷ []) PositionOverflow u wrote (stopped-one u next PositionOverflow u (refl, omega (arith, past, long)))))
  row_unserialised {E} fault (in_memory error e some h) = subst (λ (f : Fault E). IsUnserialised (vector_archival T elements) x s f u) (sym e) (some, begins h)
  row_unserialised {E} fault (in_own_bytes cause e wrote h) = subst (λ (f : Fault E). IsUnserialised (vector_archival T elements) x s f u) (sym e) (own_stops E cause wrote h)
  row_unserialised fault (in_row writes row h) = begun_stops T elements x s u fault (done.writes ++ writes) (row_begins writes row) (stopped-behind s done.writes m writes fault u done.wrote h)
