-- The causes that archiving a vector names are its length's and those of its elements.
use Rattle.std.specs.Prelude.{◌≡◌, ℕ, ◌+◌, ◌<◌, IsTrue, List, [], ◌∷◌, ◌++◌, length}
use Rattle.std.specs.Int.{w32, to_le_bytes}
use Rattle.std.specs.List.{flat_map}
use Rattle.std.proofs.Common.{arith, refl, sym, ap, subst, inl, inr, ⊎_elim, length-append}
use Rattle.std.proofs.lemmas.List.{append-nil}
use Rattle.rkyv_btree_archive.specs.VectorArchival.{row_image, ElementsImage, VectorImage, VectorBegins, of_elements, of_row, of_unresolved, vector_archival}
use Rattle.rkyv_btree_compound.specs.Vectors.{vector_kind}
use Rattle.rkyv_btree_compound.specs.laws.VectorLaws.{fitting_vector}
use Rattle.rkyv_btree_portable.specs.Bytes.{Holds}
use Rattle.rkyv_btree_portable.specs.Rounding.{round_up}
use Rattle.rkyv_btree_portable.specs.laws.Holding.{Holds-front, Holds-back}
use Rattle.rkyv_btree_writer.proofs.FieldRuns.{long_parts}
use Rattle.rkyv_btree_writer.specs.Archiving.{Archival, IsTooLong}
use Rattle.rkyv_btree_writer.specs.Causes.{GoesOn, HasCauses}
use Rattle.rkyv_btree_writer.specs.Fields.{HasLong}
use Rattle.rkyv_btree_writer.specs.Pointers.{pointer}
use Rattle.rkyv_btree_writer.specs.TextArchival.{text_own}
use Rattle.rkyv_btree_writer.specs.Writing.{Write}
use Rattle.rkyv_btree_writing_laws.specs.Entries.{AreResolved}
use Rattle.rkyv_btree_writing_laws.specs.Imaged.{end_of}

module _ {M R : Type 0} (T : Archival M R) (value : HasCauses T) where
  -- elements that were written and resolved have no length past 32 bits
  pub none_long : IsTrue T.kind.is_fitting → (from at : ℕ) (xs : List M) (writes : List Write) (rs : List R) (owns : List (List ℕ)) → ElementsImage T from xs writes rs → AreResolved T at xs rs owns → HasLong (flat_map T.lengths xs) → ⊥
  none_long fits from at [] writes rs owns h a long = absurd long
  none_long fits from at (x ∷ xs) writes rs owns h a long =
      let first : a.0 ≡ h.2 = cc (a.6, h.7) in
      let others : a.1 ≡ h.3 = cc (a.6, h.7) in
      ⊎_elim (λ own. value.short fits x from at h.0 h.2 a.2 h.4 (subst (λ r. T.Resolves x r at a.2) first a.4) own)
      (λ later. none_long fits (end_of from h.0) (at + T.kind.size) xs h.1 h.3 a.3 h.5 (subst (λ qs. AreResolved T (at + T.kind.size) xs qs a.3) others a.5) later)
      (long_parts (T.lengths x) (flat_map T.lengths xs) long)

  -- no elements write their row, and nothing else
  no_elements : (from : ℕ) → VectorImage T from [] (row_image T.kind.align (end_of from []) []) (round_up (end_of from []) T.kind.align)
  no_elements from = record { first = []; second = row_image T.kind.align (end_of from []) []; rs = []; elements = (refl, refl); row = record { owns = []; resolved = (refl, refl); image = refl }; place = refl; both = refl }

  module _ {X : Type 0} (elements : X → List M) where
    goes : (x : X) (from : ℕ) (xs : List M) → elements x ≡ xs → GoesOn (vector_archival T elements) x from []
    goes x from [] none = inl (row_image T.kind.align (end_of from []) [], round_up (end_of from []) T.kind.align, subst (λ (ys : List M). VectorImage T from ys (row_image T.kind.align (end_of from []) []) (round_up (end_of from []) T.kind.align)) (sym none) (no_elements from))
    goes x from (y ∷ ys) some = inr (inr (inr (subst (λ (zs : List M). 0 < length zs) (sym some) (omega arith))))

    begun : (x : X) (from : ℕ) (writes : List Write) (xs : List M) → elements x ≡ xs → VectorBegins T from xs writes → GoesOn (vector_archival T elements) x from writes
    begun x from writes [] none (of_elements h) = absurd (omega (arith, ap length h.parts, length-append h.done (h.x ∷ h.later)))
    begun x from writes [] none (of_row start h) = inl ([], start, subst (λ (ys : List M). VectorImage T from ys (writes ++ []) start) (sym none) (subst (λ (ws : List Write). VectorImage T from [] ws start) (sym (append-nil writes)) h))
    begun x from writes [] none (of_unresolved first second rs h row both) = absurd row.unresolved
    begun x from writes (y ∷ ys) some h = inr (inr (inr (subst (λ (zs : List M). 0 < length zs) (sym some) (omega arith))))

    short : IsTrue (vector_kind T.kind).is_fitting → (x : X) (from at : ℕ) (writes : List Write) (start : ℕ) (own : List ℕ) → (vector_archival T elements).Writes x from writes start → (vector_archival T elements).Resolves x start at own → IsTooLong (vector_archival T elements) x → ⊥
    short fits x from at writes start own w is (inl long) = omega (arith, is.0.1, long)
    short fits x from at writes start own w is (inr long) = none_long (fitting_vector T.kind fits).element from (round_up (end_of from w.first) T.kind.align) (elements x) w.first w.rs w.row.owns w.elements w.row.resolved long

    long : (x : X) (start at : ℕ) → HasLong (length (elements x) ∷ []) → IsTooLong (vector_archival T elements) x
    long x start at (inl h) = inl h
    long x start at (inr h) = absurd h

    pub vector_causes : HasCauses (vector_archival T elements)
    vector_causes = record {
      fits = λ x start at. (λ is. (is.1.0.1, (is.1.0.0, tt)), λ all. (text_own at start (length (elements x)), ((all.1.0, all.0), refl)));
      inside = λ x start at. (omega arith, omega arith, (omega arith, omega arith, tt));
      held = λ b x from at writes start own is_in w is there.
          let len = length (elements x) in
          let own_at : Holds b at (text_own at start len) = subst (Holds b at) is.1 there in
          (Holds-back b at (pointer at start) (to_le_bytes w32 len) own_at, (Holds-front b at (pointer at start) (to_le_bytes w32 len) own_at, tt));
      long = long;
      short = short;
      goes = λ x from. goes x from (elements x) refl;
      begun = λ x from writes h. begun x from writes (elements x) refl h;
    }
