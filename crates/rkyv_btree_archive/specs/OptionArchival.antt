-- What archiving an option does: the value's writes and a tag of 1 before the value's own bytes, or zeros alone.
use Rattle.std.specs.Prelude.{◌≡◌, ℕ, ◌+◌, List, [], ◌∷◌, ◌++◌, Option, Some, None, option_map}
use Rattle.rkyv_btree_compound.specs.Option.{option_size, option_kind}
use Rattle.rkyv_btree_portable.specs.Bytes.{filled, zeros}
use Rattle.rkyv_btree_writer.specs.Archiving.{Archival}
use Rattle.rkyv_btree_writer.specs.Fields.{Field}
use Rattle.rkyv_btree_writer.specs.Writing.{Write}
use Rattle.rkyv_btree_writer.specs.declared.fault.EntryFault.{EntryFault}

module _ {M R : Type 0} (T : Archival M R) where
  abbrev pub IsInOption : Option M → Type 0
  IsInOption None = Unit {0}
  IsInOption (Some x) = T.IsIn x

  -- no value makes no write, and a value its own; serialising tells which of both it was
  abbrev pub OptionWrites : Option M → ℕ → List Write → Option R → Type 0
  OptionWrites None from writes None = writes ≡ []
  OptionWrites None from writes (Some r) = ⊥
  OptionWrites (Some x) from writes None = ⊥
  OptionWrites (Some x) from writes (Some r) = T.Writes x from writes r

  abbrev pub OptionBegins : Option M → ℕ → List Write → Type 0
  OptionBegins None from writes = writes ≡ []
  OptionBegins (Some x) from writes = T.Begins x from writes

  -- the tag 1, zeros up to the value's place, and its own bytes; or zeros where either option has nothing
  abbrev pub OptionResolves : Option M → Option R → ℕ → List ℕ → Type 0
  OptionResolves (Some x) (Some r) at own = (value : List ℕ) × T.Resolves x r (at + T.kind.align) value × (own ≡ filled (1 ∷ []) T.kind.align ++ value)
  OptionResolves (Some x) None at own = own ≡ zeros (option_size T.kind)
  OptionResolves None r at own = own ≡ zeros (option_size T.kind)

  abbrev pub option_fields : Option M → Option R → ℕ → List Field
  option_fields (Some x) (Some r) at = T.fields x r (at + T.kind.align)
  option_fields (Some x) None at = []
  option_fields None r at = []

  abbrev pub option_lengths : Option M → List ℕ
  option_lengths None = []
  option_lengths (Some x) = T.lengths x

  abbrev pub OptionGrows : Option M → Type 0
  OptionGrows None = ⊥
  OptionGrows (Some x) = T.Grows x

  abbrev pub OptionRefuses : Option M → ℕ → EntryFault → Type 0
  OptionRefuses None from fault = ⊥
  OptionRefuses (Some x) from fault = T.Refuses x from fault

  abbrev pub option_archival : Archival (Option M) (Option R)
  option_archival = record {
    kind = option_kind T.kind;
    meaning = option_map T.meaning;
    IsIn = IsInOption;
    Writes = OptionWrites;
    Begins = OptionBegins;
    Resolves = OptionResolves;
    fields = option_fields;
    lengths = option_lengths;
    Grows = OptionGrows;
    Refuses = OptionRefuses;
  }
