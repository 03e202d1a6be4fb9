-- The causes that archiving two values in so many bytes names are those of both, and so it is of tuples.
use Rattle.std.specs.Prelude.{ℕ, ◌+◌, ◌≤◌, ◌⊎◌, List, [], ◌++◌, length}
use Rattle.std.proofs.Common.{arith, refl, subst, inl, inr}
use Rattle.rkyv_btree_archive.specs.EntryArchival.{EntryWrites}
use Rattle.rkyv_btree_archive.specs.TupleArchival.{JoinedResolves, joined_archival, front_archival, tuple_archival}
use Rattle.rkyv_btree_archive.specs.declared.util.EntryResolver.{EntryResolver}
use Rattle.rkyv_btree_archive.specs.laws.EntryCauses.{through, begins, long}
use Rattle.rkyv_btree_archive.specs.laws.JoinedArchived.{joined_archived}
use Rattle.rkyv_btree_compound.specs.Joined.{joined_end, IsLaidOut}
use Rattle.rkyv_btree_compound.specs.Tuples.{tuple_kind, tuple_size}
use Rattle.rkyv_btree_compound.specs.laws.JoinedLaws.{FittingJoined, laid_out_of, fitting_joined, key_before}
use Rattle.rkyv_btree_compound.specs.laws.TupleLaws.{front_laid_out, last_inside, tuple_laws}
use Rattle.rkyv_btree_portable.specs.Bytes.{Holds, filled}
use Rattle.rkyv_btree_portable.specs.Entry.{value_offset}
use Rattle.rkyv_btree_portable.specs.Kind.{Kind, IsLawful}
use Rattle.rkyv_btree_portable.specs.laws.Holding.{tail_held}
use Rattle.rkyv_btree_writer.proofs.FieldRuns.{fit_both, fit_parts, lengths_both, long_parts, inside_more, inside_both, held_both}
use Rattle.rkyv_btree_writer.specs.Archiving.{Archival, IsArchived}
use Rattle.rkyv_btree_writer.specs.Causes.{HasCauses}
use Rattle.rkyv_btree_writer.specs.Fields.{HasLong}
use Rattle.rkyv_btree_writer.specs.Writing.{Write, appended}

module _ {X M N R S : Type 0} (K : Archival M R) (V : Archival N S) (pair : X → M × N) (size : ℕ) (key : HasCauses K) (value : HasCauses V) where
  short : FittingJoined K.kind V.kind size → (x : X) (from at : ℕ) (writes : List Write) (r : EntryResolver R S) (own : List ℕ) → EntryWrites K V (pair x) from writes r → JoinedResolves K V size (pair x) r at own → HasLong (K.lengths (pair x).0) ⊎ HasLong (V.lengths (pair x).1) → ⊥
  short fits x from at writes r own w o (inl h) = key.short fits.key (pair x).0 from at w.first r.key o.own_key w.key o.key h
  short fits x from at writes r own w o (inr h) = value.short fits.value (pair x).1 (from + length (appended w.first)) (at + value_offset K.kind V.kind) w.second r.value o.own_value w.value o.value h

  module _ (room : joined_end K.kind V.kind ≤ size) (k : IsLaidOut K.kind) (v : IsLaidOut V.kind) (is_key : IsArchived K) (is_value : IsArchived V) where
    pub joined_causes : HasCauses (joined_archival K V size pair)
    joined_causes =
        let offset = value_offset K.kind V.kind in
        let key_room = key_before K.kind V.kind k v in
        record {
          fits = λ x r at. (
            λ h. fit_both (K.fields (pair x).0 r.key at) (V.fields (pair x).1 r.value (at + offset)) ((key.fits (pair x).0 r.key at).0 (h.1.own_key, h.1.key)) ((value.fits (pair x).1 r.value (at + offset)).0 (h.1.own_value, h.1.value)),
            λ all.
                let parts = fit_parts (K.fields (pair x).0 r.key at) (V.fields (pair x).1 r.value (at + offset)) all in
                let a = (key.fits (pair x).0 r.key at).1 parts.0 in
                let b = (value.fits (pair x).1 r.value (at + offset)).1 parts.1 in
                (filled (filled a.0 offset ++ b.0) size, record { own_key = a.0; own_value = b.0; key = a.1; value = b.1; parts = refl }),
          );
          inside = λ x r at. inside_both at size (K.fields (pair x).0 r.key at) (V.fields (pair x).1 r.value (at + offset))
              (inside_more at K.kind.size at size (K.fields (pair x).0 r.key at) (omega arith) (omega (arith, key_room, room)) (key.inside (pair x).0 r.key at))
              (inside_more (at + offset) V.kind.size at size (V.fields (pair x).1 r.value (at + offset)) (omega arith) (omega (arith, room)) (value.inside (pair x).1 r.value (at + offset)));
          held = λ b x from at writes r own is_in w o there.
              let mid = from + length (appended w.first) in
              let one = (is_key (pair x).0 from at w.first r.key o.own_key is_in.0 w.key o.key).0 in
              let two = (is_value (pair x).1 mid (at + offset) w.second r.value o.own_value is_in.1 w.value o.value).0 in
              let parts = tail_held o.own_key o.own_value offset size (omega (arith, one, key_room)) (omega (arith, two, room)) b at (subst (Holds b at) o.parts there) in
              held_both b (K.fields (pair x).0 r.key at) (V.fields (pair x).1 r.value (at + offset)) (key.held b (pair x).0 from at w.first r.key o.own_key is_in.0 w.key o.key parts.0) (value.held b (pair x).1 mid (at + offset) w.second r.value o.own_value is_in.1 w.value o.value parts.1);
          long = λ x r at h. long K V pair key value x r at (lengths_both (K.fields (pair x).0 r.key at) (V.fields (pair x).1 r.value (at + offset)) h);
          short = λ fits x from at writes r own w o h. short (fitting_joined K.kind V.kind size fits) x from at writes r own w o (long_parts (K.lengths (pair x).0) (V.lengths (pair x).1) h);
          goes = λ x from. through K V pair key value x from [] (key.goes (pair x).0 from);
          begun = begins K V pair key value;
        }

-- what archiving the first fields of a tuple owes
pub record FrontArchives {M R : Type 0} (K : Archival M R) : Type 0 where
  pub laid_out : IsLaidOut K.kind
  pub archived : IsArchived K
  pub causes : HasCauses K

pub first_archives : {M R : Type 0} {K : Archival M R} → IsLawful K.kind → IsArchived K → HasCauses K → FrontArchives K
first_archives lawful is causes = record { laid_out = laid_out_of lawful; archived = is; causes = causes }

pub tuple_lawful : {M R : Type 0} {K : Archival M R} {V : Kind} → FrontArchives K → IsLawful V → IsLawful (tuple_kind K.kind V)
tuple_lawful {K} {V} front lawful = tuple_laws K.kind V front.laid_out (laid_out_of lawful)

module _ {M N R S : Type 0} {K : Archival M R} {V : Archival N S} (front : FrontArchives K) (lawful : IsLawful V.kind) where
  module _ (is : IsArchived V) where
    pub next_archives : HasCauses V → FrontArchives (front_archival K V)
    next_archives causes = record {
      laid_out = front_laid_out K.kind V.kind front.laid_out (laid_out_of lawful);
      archived = joined_archived K V (λ x. x) (joined_end K.kind V.kind) (omega arith) front.laid_out (laid_out_of lawful) front.archived is;
      causes = joined_causes K V (λ x. x) (joined_end K.kind V.kind) front.causes causes (omega arith) front.laid_out (laid_out_of lawful) front.archived is;
    }

    module _ {X : Type 0} (parts : X → M × N) where
      pub tuple_archived : IsArchived (tuple_archival K V parts)
      tuple_archived = joined_archived K V parts (tuple_size K.kind V.kind) (last_inside K.kind V.kind front.laid_out (laid_out_of lawful)) front.laid_out (laid_out_of lawful) front.archived is

      pub tuple_causes : HasCauses V → HasCauses (tuple_archival K V parts)
      tuple_causes causes =
          joined_causes K V parts (tuple_size K.kind V.kind) front.causes causes (last_inside K.kind V.kind front.laid_out (laid_out_of lawful)) front.laid_out (laid_out_of lawful) front.archived is
