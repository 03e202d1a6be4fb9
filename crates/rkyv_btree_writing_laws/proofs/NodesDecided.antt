-- How long a node's bytes are, and that it can be told whether the entries of a node are resolved there.
use Rattle.std.proofs.Common.{◌≡◌, ℕ, ◌+◌, ◌<◌, ◌≤◌, ◌^◌, ◌∙◌, ◌⊎◌, ⊎_elim, IsTrue, List, [], ◌∷◌, length, map, Option, inl, inr, refl, sym, ap, subst, arith}
use Rattle.std.proofs.lemmas.Bool.{cases_lt}
use Rattle.std.proofs.lemmas.List.{length-map}
use Rattle.std.specs.Int.{w32, to_le_bytes}
use Rattle.rkyv_btree_format.proofs.Sizes.{room_of}
use Rattle.rkyv_btree_format.specs.Layout.{NodeLayout, layout_of, are_fitting, key_at, value_at, len_at, leaf_size, inner_size}
use Rattle.rkyv_btree_portable.specs.InPlace.{OwnBytes}
use Rattle.rkyv_btree_portable.specs.Kind.{Kind, IsLawful}
use Rattle.rkyv_btree_portable.specs.laws.Holding.{tail_length}
use Rattle.rkyv_btree_writer.specs.Archiving.{Archival, IsArchived, Matches}
use Rattle.rkyv_btree_writer.specs.Causes.{HasCauses}
use Rattle.rkyv_btree_writer.specs.Fields.{Field, a_length, a_pointer, Fits, IsUnfit, AllFit, FirstUnfit}
use Rattle.rkyv_btree_writer.specs.Pointers.{FitsOffset}
use Rattle.rkyv_btree_writer.specs.Writing.{Writing, last_end}
use Rattle.rkyv_btree_writer.specs.declared.fault.ResolveFault.{ResolveFault}
use Rattle.rkyv_btree_writer.specs.declared.fault.ResolveFault.TheVariants.{LengthOverflow, OffsetOverflow}
use Rattle.rkyv_btree_writing_laws.proofs.NodesHeld.{length-pointers}
use Rattle.rkyv_btree_writing_laws.proofs.Resolving.{paired, paired_keys, paired_values, resolved_length}
use Rattle.rkyv_btree_writing_laws.proofs.TreesWritten.{entries_room}
use Rattle.rkyv_btree_writing_laws.specs.Entries.{AreSerialised, AreResolved, AreUnresolved, EntriesResolved, EntriesUnresolved}
use Rattle.rkyv_btree_writing_laws.specs.Image.{entry_bytes, leaf_bytes, inner_bytes, pointers}
use Rattle.rkyv_btree_writing_laws.specs.Written.{AreInNode}

-- a field fits, or is unfit for a cause
pointer_fits : (place target : ℕ) → FitsOffset place target ⊎ (FitsOffset place target → ⊥)
pointer_fits place target =
    ⊎_elim (λ (near : target < place + 2 ^ 31). ⊎_elim (λ (past : target + 2 ^ 31 < place). inr (λ fits. omega (arith, fits.1))) (λ (low : place ≤ target + 2 ^ 31). inl (near, low)) (cases_lt (target + 2 ^ 31) place))
    (λ (far : place + 2 ^ 31 ≤ target). inr (λ fits. omega (arith, fits.0))) (cases_lt target (place + 2 ^ 31))

field_fits : (f : Field) → Fits f ⊎ ((cause : ResolveFault) × IsUnfit f cause)
field_fits (a_length place len) = ⊎_elim (λ (long : last_end < len). inr (LengthOverflow, long)) (λ (short : len ≤ last_end). inl short) (cases_lt last_end len)
field_fits (a_pointer place target) = ⊎_elim (λ (near : FitsOffset place target). inl near) (λ (far : FitsOffset place target → ⊥). inr (OffsetOverflow, far)) (pointer_fits place target)

fields_fit : (fs : List Field) → AllFit fs ⊎ ((cause : ResolveFault) × FirstUnfit fs cause)
fields_fit [] = inl tt
fields_fit (f ∷ fs) = both (field_fits f) (fields_fit fs)
  where
    both : Fits f ⊎ ((cause : ResolveFault) × IsUnfit f cause) → AllFit fs ⊎ ((cause : ResolveFault) × FirstUnfit fs cause) → AllFit (f ∷ fs) ⊎ ((cause : ResolveFault) × FirstUnfit (f ∷ fs) cause)
    both (inr unfit) later = inr (unfit.0, inl unfit.1)
    both (inl fits) (inl all) = inl (fits, all)
    both (inl fits) (inr unfit) = inr (unfit.0, inr (fits, unfit.1))

-- values are resolved one after another, or one of them isn't
values_decided : {X R : Type 0} (T : Archival X R) → HasCauses T → (at : ℕ) (xs : List X) (rs : List R) → length rs ≡ length xs → ((owns : List (List ℕ)) × AreResolved T at xs rs owns) ⊎ ((cause : ResolveFault) × AreUnresolved T at xs rs cause)
values_decided T causes at [] [] same = inl ([], (refl, refl))
values_decided T causes at [] (r ∷ rs) same = absurd (omega arith)
values_decided T causes at (x ∷ xs) [] same = absurd (omega arith)
values_decided {X} {R} T causes at (x ∷ xs) (r ∷ rs) same = both (fields_fit (T.fields x r at)) (values_decided T causes (at + T.kind.size) xs rs (omega arith))
  where
    both : AllFit (T.fields x r at) ⊎ ((cause : ResolveFault) × FirstUnfit (T.fields x r at) cause) → ((owns : List (List ℕ)) × AreResolved T (at + T.kind.size) xs rs owns) ⊎ ((cause : ResolveFault) × AreUnresolved T (at + T.kind.size) xs rs cause) →
        ((owns : List (List ℕ)) × AreResolved T at (x ∷ xs) (r ∷ rs) owns) ⊎ ((cause : ResolveFault) × AreUnresolved T at (x ∷ xs) (r ∷ rs) cause)
    both (inr unfit) later = inr (unfit.0, (r, rs, refl, inl unfit.1))
    both (inl all) (inl h) = let own = (causes.fits x r at).1 all in inl (own.0 ∷ h.0, (r, rs, own.0, h.0, own.1, h.1, refl, refl))
    both (inl all) (inr h) = let own = (causes.fits x r at).1 all in inr (h.0, (r, rs, refl, inr (own.0, own.1, h.1)))

pub serialised_lengths : {M N R S : Type 0} (K : Archival M R) (V : Archival N S) (from : Writing) (xs : List (M × N)) (keys : List R) (values : List S) (to : Writing) → AreSerialised K V from xs keys values to → (length keys ≡ length xs) × (length values ≡ length xs)
serialised_lengths K V from [] keys values to h = (ap length h.1, ap length h.2)
serialised_lengths K V from (x ∷ xs) keys values to h =
    let more = serialised_lengths K V h.5 xs h.2 h.3 to h.8 in
    (omega (arith, ap length h.9, more.0), omega (arith, ap length h.10, more.1))

module _ {M N R S : Type 0} (s : NodeLayout) (K : Archival M R) (V : Archival N S) (k : HasCauses K) (v : HasCauses V) where
  pub entries_decided : (root : ℕ) (xs : List (M × N)) (keys : List R) (values : List S) → length keys ≡ length xs → length values ≡ length xs →
      ((owns : List OwnBytes) × EntriesResolved s K V root xs keys values owns) ⊎ ((cause : ResolveFault) × EntriesUnresolved s K V root xs keys values cause)
  entries_decided root xs keys values many many2 =
      both (values_decided K k (root + key_at s 0) (map (λ x. x.0) xs) keys (many ∙ sym (length-map xs (λ x. x.0)))) (values_decided V v (root + value_at s 0) (map (λ x. x.1) xs) values (many2 ∙ sym (length-map xs (λ x. x.1))))
    where
      both : ((owns : List (List ℕ)) × AreResolved K (root + key_at s 0) (map (λ x. x.0) xs) keys owns) ⊎ ((cause : ResolveFault) × AreUnresolved K (root + key_at s 0) (map (λ x. x.0) xs) keys cause) →
          ((owns : List (List ℕ)) × AreResolved V (root + value_at s 0) (map (λ x. x.1) xs) values owns) ⊎ ((cause : ResolveFault) × AreUnresolved V (root + value_at s 0) (map (λ x. x.1) xs) values cause) →
          ((owns : List OwnBytes) × EntriesResolved s K V root xs keys values owns) ⊎ ((cause : ResolveFault) × EntriesUnresolved s K V root xs keys values cause)
      both (inr h) other = inr (h.0, inl h.1)
      both (inl h) (inr g) = inr (g.0, inr g.1)
      both (inl h) (inl g) =
          let same : length h.0 ≡ length g.0 = resolved_length K (root + key_at s 0) (map (λ x. x.0) xs) keys h.0 h.1 ∙ (length-map xs (λ x. x.0) ∙ sym (resolved_length V (root + value_at s 0) (map (λ x. x.1) xs) values g.0 g.1 ∙ length-map xs (λ x. x.1))) in
          inl (
            paired h.0 g.0,
            record {
              own_keys = subst (λ (os : List (List ℕ)). AreResolved K (root + key_at s 0) (map (λ x. x.0) xs) keys os) (sym (paired_keys h.0 g.0 same)) h.1;
              own_values = subst (λ (os : List (List ℕ)). AreResolved V (root + value_at s 0) (map (λ x. x.1) xs) values os) (sym (paired_values h.0 g.0 same)) g.1;
            },
          )

module _ {M N R S : Type 0} (K V : Kind) (E : ℕ) (k : IsLawful K) (v : IsLawful V) (fits : IsTrue (are_fitting K V E)) (KA : Archival M R) (VA : Archival N S) (key : Matches KA.kind K) (value : Matches VA.kind V) (ka : IsArchived KA) (va : IsArchived VA) where
  -- the bytes of a leaf and of an inner node, after their entries
  module _ (from : Writing) (xs : List (M × N)) (root : ℕ) (owns : List OwnBytes) (mid : Writing) (there : AreInNode (layout_of K V E) KA VA from xs root owns mid) where
    pub leaf_sized : length xs ≤ E → length (leaf_bytes (layout_of K V E) owns) ≡ leaf_size (layout_of K V E)
    leaf_sized few =
        let s = layout_of K V E in
        tail_length (entry_bytes s 0 owns) (to_le_bytes w32 (length owns)) (len_at s) (leaf_size s) (entries_room K V E k v fits KA VA key value ka va 0 from xs root owns mid there few) (room_of K V E k v fits).parts.len

    pub inner_sized : (at : ℕ) (roots : List (Option ℕ)) → length xs ≡ E → length roots ≡ E + 1 → length (inner_bytes (layout_of K V E) at owns roots) ≡ inner_size (layout_of K V E)
    inner_sized at roots full whole =
        let s = layout_of K V E in
        let room = (room_of K V E k v fits).parts.pointers in
        tail_length (entry_bytes s 1 owns) (pointers (at + len_at s) roots) (len_at s) (inner_size s) (entries_room K V E k v fits KA VA key value ka va 1 from xs root owns mid there (omega arith)) (omega (arith, length-pointers (at + len_at s) roots))
