-- The causes that archiving a pair names are those of its key and of its value.
use Rattle.std.specs.Prelude.{ℕ, ◌+◌, ◌⊎◌, List, [], ◌++◌, length}
use Rattle.std.proofs.Common.{arith, refl, subst, inl, inr, ◌∙◌}
use Rattle.std.proofs.lemmas.List.{append_assoc}
use Rattle.rkyv_btree_writer.specs.Archiving.{Archival, IsArchived, IsTooLong}
use Rattle.rkyv_btree_writer.specs.Causes.{GoesOn, HasCauses}
use Rattle.rkyv_btree_writer.specs.Fields.{HasLong, lengths_of}
use Rattle.rkyv_btree_portable.specs.Bytes.{Holds, filled}
use Rattle.rkyv_btree_portable.specs.Entry.{value_offset, entry_size}
use Rattle.rkyv_btree_archive.specs.EntryArchival.{EntryWrites, EntryResolves, EntryBegins, in_key, in_value, entry_archival}
use Rattle.rkyv_btree_portable.specs.Kind.{IsLawful}
use Rattle.rkyv_btree_writer.specs.Writing.{Write, appended}
use Rattle.rkyv_btree_portable.specs.laws.EntryLaws.{FittingEntry, fitting_entry, key_inside, value_inside}
use Rattle.rkyv_btree_writer.proofs.FieldRuns.{fit_both, fit_parts, lengths_both, long_front, long_behind, long_parts, inside_more, inside_both, held_both}
use Rattle.rkyv_btree_portable.specs.laws.Holding.{tail_held}
use Rattle.rkyv_btree_archive.specs.declared.util.EntryResolver.{EntryResolver}

module _ {X M N R S : Type 0} (K : Archival M R) (V : Archival N S) (pair : X → M × N) (key : HasCauses K) (value : HasCauses V) where
  -- the value goes on after the key's writes
  behind : (x : X) (from : ℕ) (first begun : List Write) (r : R) → K.Writes (pair x).0 from first r → GoesOn V (pair x).1 (from + length (appended first)) begun → GoesOn (entry_archival K V pair) x from (first ++ begun)
  behind x from first begun r w (inl h) = inl (h.0, record { key = r; value = h.1 }, record { first = first; second = begun ++ h.0; key = w; value = h.2; both = append_assoc first begun h.0 })
  behind x from first begun r w (inr (inl h)) = inr (inl (h.0, inr (first, r, w, h.1)))
  behind x from first begun r w (inr (inr (inl h))) = inr (inr (inl (long_behind (K.lengths (pair x).0) (V.lengths (pair x).1) h)))
  behind x from first begun r w (inr (inr (inr h))) = inr (inr (inr (inr h)))

  extend : (x : X) (from : ℕ) (begun more : List Write) → GoesOn (entry_archival K V pair) x from ((begun ++ more) ++ []) → GoesOn (entry_archival K V pair) x from begun
  extend x from begun more (inl h) = inl (more ++ h.0, h.1, subst (λ (ws : List Write). EntryWrites K V (pair x) from ws h.1) (append_assoc (begun ++ more) [] h.0 ∙ append_assoc begun more h.0) h.2)
  extend x from begun more (inr h) = inr h

  -- the key goes on, and then the value
  pub through : (x : X) (from : ℕ) (begun : List Write) → GoesOn K (pair x).0 from begun → GoesOn (entry_archival K V pair) x from begun
  through x from begun (inl h) = extend x from begun h.0 (behind x from (begun ++ h.0) [] h.1 h.2 (value.goes (pair x).1 (from + length (appended (begun ++ h.0)))))
  through x from begun (inr (inl h)) = inr (inl (h.0, inl h.1))
  through x from begun (inr (inr (inl h))) = inr (inr (inl (long_front (K.lengths (pair x).0) (V.lengths (pair x).1) h)))
  through x from begun (inr (inr (inr h))) = inr (inr (inr (inl h)))

  pub begins : (x : X) (from : ℕ) (writes : List Write) → EntryBegins K V (pair x) from writes → GoesOn (entry_archival K V pair) x from writes
  begins x from writes (in_key h) = through x from writes (key.begun (pair x).0 from writes h)
  begins x from writes (in_value {first} {second} {r} w h) = behind x from first second r w (value.begun (pair x).1 (from + length (appended first)) second h)

  pub long : (x : X) (r : EntryResolver R S) (at : ℕ) → HasLong (lengths_of (K.fields (pair x).0 r.key at)) ⊎ HasLong (lengths_of (V.fields (pair x).1 r.value (at + value_offset K.kind V.kind))) → IsTooLong (entry_archival K V pair) x
  long x r at (inl h) = long_front (K.lengths (pair x).0) (V.lengths (pair x).1) (key.long (pair x).0 r.key at h)
  long x r at (inr h) = long_behind (K.lengths (pair x).0) (V.lengths (pair x).1) (value.long (pair x).1 r.value (at + value_offset K.kind V.kind) h)

  short : FittingEntry K.kind V.kind → (x : X) (from at : ℕ) (writes : List Write) (r : EntryResolver R S) (own : List ℕ) → EntryWrites K V (pair x) from writes r → EntryResolves K V (pair x) r at own → HasLong (K.lengths (pair x).0) ⊎ HasLong (V.lengths (pair x).1) → ⊥
  short fits x from at writes r own w o (inl h) = key.short fits.key (pair x).0 from at w.first r.key o.own_key w.key o.key h
  short fits x from at writes r own w o (inr h) = value.short fits.value (pair x).1 (from + length (appended w.first)) (at + value_offset K.kind V.kind) w.second r.value o.own_value w.value o.value h

  module _ (k : IsLawful K.kind) (v : IsLawful V.kind) (is_key : IsArchived K) (is_value : IsArchived V) where
    pub entry_causes : HasCauses (entry_archival K V pair)
    entry_causes =
        let offset = value_offset K.kind V.kind in
        let size = entry_size K.kind V.kind in
        let key_room = key_inside K.kind V.kind k v in
        let value_room = value_inside K.kind V.kind k v in
        record {
          fits = λ x r at. (
            λ h. fit_both (K.fields (pair x).0 r.key at) (V.fields (pair x).1 r.value (at + offset)) ((key.fits (pair x).0 r.key at).0 (h.1.own_key, h.1.key)) ((value.fits (pair x).1 r.value (at + offset)).0 (h.1.own_value, h.1.value)),
            λ all.
                let parts = fit_parts (K.fields (pair x).0 r.key at) (V.fields (pair x).1 r.value (at + offset)) all in
                let a = (key.fits (pair x).0 r.key at).1 parts.0 in
                let b = (value.fits (pair x).1 r.value (at + offset)).1 parts.1 in
                (filled (filled a.0 offset ++ b.0) size, record { own_key = a.0; own_value = b.0; key = a.1; value = b.1; parts = refl }),
          );
          inside = λ x r at. inside_both at size (K.fields (pair x).0 r.key at) (V.fields (pair x).1 r.value (at + offset))
              (inside_more at K.kind.size at size (K.fields (pair x).0 r.key at) (omega arith) (omega (arith, key_room, value_room)) (key.inside (pair x).0 r.key at))
              (inside_more (at + offset) V.kind.size at size (V.fields (pair x).1 r.value (at + offset)) (omega arith) (omega (arith, value_room)) (value.inside (pair x).1 r.value (at + offset)));
          held = λ b x from at writes r own is_in w o there.
              let mid = from + length (appended w.first) in
              let one = (is_key (pair x).0 from at w.first r.key o.own_key is_in.0 w.key o.key).0 in
              let two = (is_value (pair x).1 mid (at + offset) w.second r.value o.own_value is_in.1 w.value o.value).0 in
              let parts = tail_held o.own_key o.own_value offset size (omega (arith, one, key_room)) (omega (arith, two, value_room)) b at (subst (Holds b at) o.parts there) in
              held_both b (K.fields (pair x).0 r.key at) (V.fields (pair x).1 r.value (at + offset)) (key.held b (pair x).0 from at w.first r.key o.own_key is_in.0 w.key o.key parts.0) (value.held b (pair x).1 mid (at + offset) w.second r.value o.own_value is_in.1 w.value o.value parts.1);
          long = λ x r at h. long x r at (lengths_both (K.fields (pair x).0 r.key at) (V.fields (pair x).1 r.value (at + offset)) h);
          short = λ fits x from at writes r own w o h. short (fitting_entry K.kind V.kind fits) x from at writes r own w o (long_parts (K.lengths (pair x).0) (V.lengths (pair x).1) h);
          goes = λ x from. through x from [] (key.goes (pair x).0 from);
          begun = begins;
        }
