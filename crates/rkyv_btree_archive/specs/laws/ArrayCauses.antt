-- The causes that archiving an array names are those of its elements.
use Rattle.std.specs.Prelude.{◌≡◌, ℕ, ◌+◌, ◌*◌, ◌≤◌, ◌⊎◌, ◌↔◌, IsTrue, List, [], ◌∷◌, ◌++◌, length, map, take, Option, Some, None}
use Rattle.std.specs.List.{All, flat_map}
use Rattle.std.proofs.Common.{suc, arith, refl, sym, ap, subst, ◌∙◌, inl, inr, ⊎_elim}
use Rattle.std.proofs.Math.Nat.{suc-mul, mul-le-mul_right}
use Rattle.std.proofs.lemmas.List.{append_assoc, length-take, take_all}
use Rattle.std.proofs.lemmas.List.Elements.{All-head, All-tail}
use Rattle.rkyv_btree_archive.specs.ArrayArchival.{RowBegins, RowRefuses, AnyGrows, PartResolves, part_fields, RowResolves, row_fields, array_archival}
use Rattle.rkyv_btree_archive.specs.VectorArchival.{ElementsImage}
use Rattle.rkyv_btree_archive.specs.laws.ArrayArchived.{resolved_of}
use Rattle.rkyv_btree_archive.specs.laws.VectorArchived.{joined}
use Rattle.rkyv_btree_archive.specs.laws.VectorCauses.{none_long}
use Rattle.rkyv_btree_compound.specs.laws.ArrayLaws.{fitting_array}
use Rattle.rkyv_btree_portable.specs.Bytes.{Holds, zeros}
use Rattle.rkyv_btree_portable.specs.laws.Holding.{Holds-front, Holds-back, Holds-at}
use Rattle.rkyv_btree_writer.proofs.FieldRuns.{fit_both, fit_parts, lengths_both, long_front, long_behind, inside_more, inside_both, held_both}
use Rattle.rkyv_btree_writer.specs.Archiving.{Archival, IsArchived}
use Rattle.rkyv_btree_writer.specs.Causes.{GoesOn, HasCauses}
use Rattle.rkyv_btree_writer.specs.Fields.{AllFit, AllInside, AllHeld, HasLong, lengths_of}
use Rattle.rkyv_btree_writer.specs.Writing.{Write}
use Rattle.rkyv_btree_writer.specs.declared.fault.EntryFault.{EntryFault}
use Rattle.rkyv_btree_writing_laws.specs.Entries.{AreResolved}
use Rattle.rkyv_btree_writing_laws.specs.Imaged.{end_of}

module _ {M R : Type 0} (T : Archival M R) (value : HasCauses T) where
  row_fits : (xs : List M) (rs : List (Option R)) (at : ℕ) → ((own : List ℕ) × RowResolves T xs rs at own) ↔ AllFit (row_fields T xs rs at)
  row_fits [] rs at = (λ h. tt, λ all. ([], refl))
  row_fits (x ∷ xs) [] at = (λ h. tt, λ all. ([], refl))
  row_fits (x ∷ xs) (None ∷ rs) at =
      let rest = row_fits xs rs (at + T.kind.size) in
      (λ h. rest.0 (h.1.1, h.1.3), λ all. let more = rest.1 all in (zeros T.kind.size ++ more.0, (zeros T.kind.size, more.0, refl, more.1, refl)))
  row_fits (x ∷ xs) (Some r ∷ rs) at =
      let first = value.fits x r at in
      let rest = row_fits xs rs (at + T.kind.size) in (
        λ h. fit_both (T.fields x r at) (row_fields T xs rs (at + T.kind.size)) (first.0 (h.1.0, h.1.2)) (rest.0 (h.1.1, h.1.3)),
        λ all.
            let parts = fit_parts (T.fields x r at) (row_fields T xs rs (at + T.kind.size)) all in
            let own = first.1 parts.0 in
            let more = rest.1 parts.1 in
            (own.0 ++ more.0, (own.0, more.0, own.1, more.1, refl)),
      )

  part_inside : (x : M) (r : Option R) (at : ℕ) → AllInside at T.kind.size (part_fields T x r at)
  part_inside x None at = tt
  part_inside x (Some r) at = value.inside x r at

  row_inside : (xs : List M) (rs : List (Option R)) (at : ℕ) → AllInside at (length xs * T.kind.size) (row_fields T xs rs at)
  row_inside [] rs at = tt
  row_inside (x ∷ xs) [] at = tt
  row_inside (x ∷ xs) (r ∷ rs) at =
      let size = suc (length xs) * T.kind.size in
      let more : size ≡ T.kind.size + length xs * T.kind.size = omega (arith, suc-mul (length xs) T.kind.size) in
      inside_both at size (part_fields T x r at) (row_fields T xs rs (at + T.kind.size))
      (inside_more at T.kind.size at size (part_fields T x r at) (omega arith) (omega (arith, more)) (part_inside x r at))
      (inside_more (at + T.kind.size) (length xs * T.kind.size) at size (row_fields T xs rs (at + T.kind.size)) (omega arith) (omega (arith, more)) (row_inside xs rs (at + T.kind.size)))

  row_long : (xs : List M) (rs : List (Option R)) (at : ℕ) → HasLong (lengths_of (row_fields T xs rs at)) → HasLong (flat_map T.lengths xs)
  row_long [] rs at h = absurd h
  row_long (x ∷ xs) [] at h = absurd h
  row_long (x ∷ xs) (None ∷ rs) at h = long_behind (T.lengths x) (flat_map T.lengths xs) (row_long xs rs (at + T.kind.size) h)
  row_long (x ∷ xs) (Some r ∷ rs) at h =
      ⊎_elim (λ first. long_front (T.lengths x) (flat_map T.lengths xs) (value.long x r at first))
      (λ later. long_behind (T.lengths x) (flat_map T.lengths xs) (row_long xs rs (at + T.kind.size) later))
      (lengths_both (T.fields x r at) (row_fields T xs rs (at + T.kind.size)) h)

  row_held : IsArchived T → (b : List ℕ) (from at : ℕ) (xs : List M) (writes : List Write) (told : List R) (owns : List (List ℕ)) → All T.IsIn xs → ElementsImage T from xs writes told → AreResolved T at xs told owns → Holds b at (joined owns) → AllHeld b (row_fields T xs (map Some told) at)
  row_held is_value b from at [] writes told owns is_in h a there = tt
  row_held is_value b from at (x ∷ xs) writes told owns is_in h a there =
      let first : a.0 ≡ h.2 = cc (a.6, h.7) in
      let others : a.1 ≡ h.3 = cc (a.6, h.7) in
      let here = subst (λ r. T.Resolves x r at a.2) first a.4 in
      let own = subst (λ os. Holds b at (joined os)) a.7 there in
      let size = (is_value x from at h.0 h.2 a.2 (All-head T.IsIn x xs is_in) h.4 here).0 in
      let one = value.held b x from at h.0 h.2 a.2 (All-head T.IsIn x xs is_in) h.4 here (Holds-front b at a.2 (joined a.3) own) in
      let rest = row_held is_value b (end_of from h.0) (at + T.kind.size) xs h.1 h.3 a.3 (All-tail T.IsIn x xs is_in) h.5 (subst (λ qs. AreResolved T (at + T.kind.size) xs qs a.3) others a.5) (Holds-at b (at + length a.2) (at + T.kind.size) (joined a.3) (omega (arith, size)) (Holds-back b at a.2 (joined a.3) own)) in
      subst (λ ts. AllHeld b (row_fields T (x ∷ xs) (map Some ts) at)) (sym h.7) (held_both b (T.fields x h.2 at) (row_fields T xs (map Some h.3) (at + T.kind.size)) one rest)

  -- elements go on to write, or one of them gives up
  abbrev RowGoes : List M → ℕ → List Write → Type 0
  RowGoes xs from begun =
      ((more : List Write) × (told : List R) × ElementsImage T from xs (begun ++ more) told)
      ⊎ (((fault : EntryFault) × RowRefuses T fault from xs) ⊎ (HasLong (flat_map T.lengths xs) ⊎ AnyGrows T xs))

  row_behind : (x : M) (xs : List M) (from : ℕ) (first begun : List Write) (r : R) → T.Writes x from first r → RowGoes xs (end_of from first) begun → RowGoes (x ∷ xs) from (first ++ begun)
  row_behind x xs from first begun r w (inl h) = inl (h.0, r ∷ h.1, (first, begun ++ h.0, r, h.1, w, h.2, append_assoc first begun h.0, refl))
  row_behind x xs from first begun r w (inr (inl h)) = inr (inl (h.0, inr (first, r, w, h.1)))
  row_behind x xs from first begun r w (inr (inr (inl h))) = inr (inr (inl (long_behind (T.lengths x) (flat_map T.lengths xs) h)))
  row_behind x xs from first begun r w (inr (inr (inr h))) = inr (inr (inr (inr h)))

  extend : (xs : List M) (from : ℕ) (begun more : List Write) → RowGoes xs from ((begun ++ more) ++ []) → RowGoes xs from begun
  extend xs from begun more (inl h) = inl (more ++ h.0, h.1, subst (λ ws. ElementsImage T from xs ws h.1) (append_assoc (begun ++ more) [] h.0 ∙ append_assoc begun more h.0) h.2)
  extend xs from begun more (inr h) = inr h

  row_through : (x : M) (xs : List M) (from : ℕ) (begun : List Write) → ((first : List Write) → RowGoes xs (end_of from first) []) → GoesOn T x from begun → RowGoes (x ∷ xs) from begun
  row_through x xs from begun goes (inl h) = extend (x ∷ xs) from begun h.0 (row_behind x xs from (begun ++ h.0) [] h.1 h.2 (goes (begun ++ h.0)))
  row_through x xs from begun goes (inr (inl h)) = inr (inl (h.0, inl h.1))
  row_through x xs from begun goes (inr (inr (inl h))) = inr (inr (inl (long_front (T.lengths x) (flat_map T.lengths xs) h)))
  row_through x xs from begun goes (inr (inr (inr h))) = inr (inr (inr (inl h)))

  row_goes : (xs : List M) (from : ℕ) → RowGoes xs from []
  row_goes [] from = inl ([], [], (refl, refl))
  row_goes (x ∷ xs) from = row_through x xs from [] (λ first. row_goes xs (end_of from first)) (value.goes x from)

  row_begun : (xs : List M) (from : ℕ) (writes : List Write) → RowBegins T from xs writes → RowGoes xs from writes
  row_begun [] from writes h = absurd h
  row_begun (x ∷ xs) from writes (inl h) = row_through x xs from writes (λ first. row_goes xs (end_of from first)) (value.begun x from writes h)
  row_begun (x ∷ xs) from writes (inr h) = subst (RowGoes (x ∷ xs) from) (sym h.5) (row_behind x xs from h.0 h.1 h.2 h.3 (row_begun xs (end_of from h.0) h.1 h.4))

  module _ (N : ℕ) (is_value : IsArchived T) where
    as_goes : (x : List M) (from : ℕ) (begun : List Write) → RowGoes (take N x) from begun → GoesOn (array_archival T N) x from begun
    as_goes x from begun (inl h) = inl (h.0, map Some h.1, (h.1, h.2, refl))
    as_goes x from begun (inr h) = inr h

    inside : (x : List M) (rs : List (Option R)) (at : ℕ) → AllInside at (N * T.kind.size) (row_fields T (take N x) rs at)
    inside x rs at =
        let few : length (take N x) ≤ N = omega (arith, length-take N x) in
        inside_more at (length (take N x) * T.kind.size) at (N * T.kind.size) (row_fields T (take N x) rs at) (omega arith) (omega (arith, mul-le-mul_right T.kind.size few)) (row_inside (take N x) rs at)

    pub array_causes : HasCauses (array_archival T N)
    array_causes = record {
      fits = λ x rs at. row_fits (take N x) rs at;
      inside = inside;
      held = λ b x from at writes rs own is_in w o there.
          let all : take N x ≡ x = take_all N x (omega (arith, is_in.0)) in
          let row = resolved_of T from at (take N x) writes w.0 rs own w.1 w.2 o in
          subst (λ qs. AllHeld b (row_fields T (take N x) qs at)) (sym w.2) (row_held is_value b from at (take N x) writes w.0 row.0 (subst (All T.IsIn) (sym all) is_in.1) w.1 row.1 (subst (Holds b at) row.2 there));
      long = λ x rs at h. row_long (take N x) rs at h;
      short = λ fits x from at writes rs own w o h.
          let row = resolved_of T from at (take N x) writes w.0 rs own w.1 w.2 o in
          none_long T value (fitting_array T.kind N fits).element from at (take N x) writes w.0 row.0 w.1 row.1 h;
      goes = λ x from. as_goes x from [] (row_goes (take N x) from);
      begun = λ x from writes h. as_goes x from writes (row_begun (take N x) from writes h);
    }
