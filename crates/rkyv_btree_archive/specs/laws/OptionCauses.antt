-- The causes that archiving an option names are those of its value.
use Rattle.std.specs.Prelude.{ℕ, ◌+◌, ◌↔◌, IsTrue, List, [], ◌∷◌, ◌++◌, Option, Some, None}
use Rattle.std.proofs.Common.{arith, refl, inl, inr}
use Rattle.rkyv_btree_archive.specs.OptionArchival.{IsInOption, OptionWrites, OptionBegins, OptionResolves, option_fields, option_archival}
use Rattle.rkyv_btree_archive.specs.laws.OptionArchived.{value_held}
use Rattle.rkyv_btree_compound.specs.Option.{option_size}
use Rattle.rkyv_btree_compound.specs.laws.OptionLaws.{fitting_option}
use Rattle.rkyv_btree_portable.specs.Bytes.{Holds, zeros, filled}
use Rattle.rkyv_btree_portable.specs.Kind.{IsLawful}
use Rattle.rkyv_btree_writer.proofs.FieldRuns.{inside_more}
use Rattle.rkyv_btree_writer.specs.Archiving.{Archival, IsTooLong}
use Rattle.rkyv_btree_writer.specs.Causes.{GoesOn, HasCauses}
use Rattle.rkyv_btree_writer.specs.Fields.{AllFit, AllInside, AllHeld, HasLong, lengths_of}
use Rattle.rkyv_btree_writer.specs.Writing.{Write}

module _ {M R : Type 0} (T : Archival M R) (value : HasCauses T) where
  some_goes : (x : M) (from : ℕ) (begun : List Write) → GoesOn T x from begun → GoesOn (option_archival T) (Some x) from begun
  some_goes x from begun (inl h) = inl (h.0, Some h.1, h.2)
  some_goes x from begun (inr h) = inr h

  goes : (o : Option M) (from : ℕ) → GoesOn (option_archival T) o from []
  goes None from = inl ([], None, refl)
  goes (Some x) from = some_goes x from [] (value.goes x from)

  begun : (o : Option M) (from : ℕ) (writes : List Write) → OptionBegins T o from writes → GoesOn (option_archival T) o from writes
  begun None from writes none = inl ([], None, rw none refl)
  begun (Some x) from writes h = some_goes x from writes (value.begun x from writes h)

  fits : (o : Option M) (r : Option R) (at : ℕ) → ((own : List ℕ) × OptionResolves T o r at own) ↔ AllFit (option_fields T o r at)
  fits None r at = (λ h. tt, λ all. (zeros (option_size T.kind), refl))
  fits (Some x) None at = (λ h. tt, λ all. (zeros (option_size T.kind), refl))
  fits (Some x) (Some r) at =
      let own = value.fits x r (at + T.kind.align) in (
        λ h. own.0 (h.1.0, h.1.1),
        λ all. let o = own.1 all in (filled (1 ∷ []) T.kind.align ++ o.0, (o.0, o.1, refl)),
      )

  inside : (o : Option M) (r : Option R) (at : ℕ) → AllInside at (option_size T.kind) (option_fields T o r at)
  inside None r at = tt
  inside (Some x) None at = tt
  inside (Some x) (Some r) at = inside_more (at + T.kind.align) T.kind.size at (option_size T.kind) (T.fields x r (at + T.kind.align)) (omega arith) (omega arith) (value.inside x r (at + T.kind.align))

  long : (o : Option M) (r : Option R) (at : ℕ) → HasLong (lengths_of (option_fields T o r at)) → IsTooLong (option_archival T) o
  long None r at h = absurd h
  long (Some x) None at h = absurd h
  long (Some x) (Some r) at h = value.long x r (at + T.kind.align) h

  short : IsTrue T.kind.is_fitting → (o : Option M) (from at : ℕ) (writes : List Write) (r : Option R) (own : List ℕ) → OptionWrites T o from writes r → OptionResolves T o r at own → IsTooLong (option_archival T) o → ⊥
  short small None from at writes r own w o h = absurd h
  short small (Some x) from at writes None own w o h = w
  short small (Some x) from at writes (Some r) own w o h = value.short small x from (at + T.kind.align) writes r o.0 w o.1 h

  module _ (t : IsLawful T.kind) where
    held : (b : List ℕ) (o : Option M) (from at : ℕ) (writes : List Write) (r : Option R) (own : List ℕ) → IsInOption T o → OptionWrites T o from writes r → OptionResolves T o r at own → Holds b at own → AllHeld b (option_fields T o r at)
    held b None from at writes r own is_in w o there = tt
    held b (Some x) from at writes None own is_in w o there = tt
    held b (Some x) from at writes (Some r) own is_in w o there = value.held b x from (at + T.kind.align) writes r o.0 is_in w o.1 (value_held T t b at own o.0 o.2 there)

    pub option_causes : HasCauses (option_archival T)
    option_causes = record {
      fits = fits;
      inside = inside;
      held = held;
      long = long;
      short = λ is_fitting. short (fitting_option T.kind is_fitting).value;
      goes = goes;
      begun = begun;
    }
