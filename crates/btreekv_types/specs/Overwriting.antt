-- Values of a fixed size that are written over in the bytes of a file: what becomes of the file, and why none does.
use Rattle.std.specs.Prelude.{◌≡◌, ◌⊎◌, ℕ, ◌+◌, ◌≤◌, List, Option, Some, None, length, slice_get}
use Rattle.std.specs.declared.cmp.Ordering.{Ordering}
use Rattle.rkyv_btree_format.specs.OwnBytes.{IsArchiveOf, own_at}
use Rattle.rkyv_btree_portable.specs.InPlace.{value_of}
use Rattle.rkyv_btree_portable.specs.Kind.{Kind}
use Rattle.rkyv_btree_seal.specs.Put.{put_bytes, put_value}
use Rattle.rkyv_btree_verify.specs.Map.{map_kind}
use Rattle.rkyv_btree_view.specs.Lookup.{found_at}
use Rattle.btreearc_lines.specs.Headings.{IsHeaded}
use Rattle.btreearc_lines.specs.declared.heading.Heading.{Heading}
use Rattle.btreekv_types.specs.Commands.{FailsToRead, IsKey}
use Rattle.btreekv_types.specs.Natives.{IsNoText}
use Rattle.btreekv_types.specs.Typed.{IsTypedInput, Items, RefusesTyped}
use Rattle.btreekv_types.specs.declared.fault.TypedFault.TheVariants as typed
use Rattle.btreekv_types.specs.declared.overwriting.OverwriteFault.{OverwriteFault}
use Rattle.btreekv_types.specs.declared.overwriting.OverwriteFault.TheVariants.{Program, NoKey, NoValue, InHeader, NotOverwritten}
use Rattle.btreekv_types.specs.declared.overwriting.Place.{Place}

-- bytes begin with another heading than this one, or with none of a file whose type has this name
abbrev pub IsReheaded : List ℕ → Heading → List ℕ → Type 0
IsReheaded name heading bytes = ((other : Heading) × IsHeaded name bytes other × ¬ (other ≡ heading)) ⊎ ((other : Heading) → ¬ IsHeaded name bytes other)

module _ (K V : Kind) (input : List ℕ) where
  -- what a look-up in an archive finds by a comparison
  abbrev pub Finds : (K.Value → Ordering) → K.Value × V.Value → Type 0
  Finds comparison entry = found_at K V 5 input (own_at (map_kind K V 5) input) comparison ≡ Some entry

  -- bytes are an archive in which it finds none
  abbrev pub HasNone : (K.Value → Ordering) → Type 0
  HasNone comparison =
      ((entries : List (K.Value × V.Value)) × IsArchiveOf (map_kind K V 5) input entries) × (found_at K V 5 input (own_at (map_kind K V 5) input) comparison ≡ None)

  -- these bytes are put over the value that it finds: no other byte is another, and the bytes are the archive of the same entries, but for that value
  pub record PutsOver (comparison : K.Value → Ordering) (own : List ℕ) (start : ℕ) (new : List ℕ) : Type 0 where
    pub entries : List (K.Value × V.Value)
    pub old : IsArchiveOf (map_kind K V 5) input entries
    pub entry : K.Value × V.Value
    pub found : Finds comparison entry
    pub index : ℕ
    pub there : slice_get entries index ≡ Some entry
    pub inside : start + length own ≤ length input
    pub bytes : new ≡ put_bytes input start own
    pub archive : IsArchiveOf (map_kind K V 5) new (put_value entries index (value_of V own))

module _ (K V : Kind) (name : List ℕ) (keys : Items K.Value) (values : Items V.Value) (input key : List ℕ) where
  -- a file has no value for the key of a text
  pub record FindsNone : Type 0 where
    pub entries : List (K.Value × V.Value)
    pub file : IsTypedInput K V name input entries
    pub asked : K.Value
    pub is_key : IsKey K V name keys values key asked
    pub none : found_at K V 5 input (own_at (map_kind K V 5) input) (K.order asked) ≡ None

  module _ (value : List ℕ) where
    -- the value of a text is put over that of the key of a text, at a place
    pub record PutsText (start count : ℕ) (new : List ℕ) : Type 0 where
      pub asked : K.Value
      pub is_key : IsKey K V name keys values key asked
      pub put : V.Value
      pub is_value : values.IsValue put × (values.text put ≡ value)
      pub own : List ℕ
      pub means : value_of V own ≡ put
      pub size : length own ≡ count
      pub puts : PutsOver K V input (K.order asked) own start new

    -- so in a file, which has the same header as before, or none as before
    pub record Overwrites (place : Place) (new : List ℕ) : Type 0 where
      pub heading : Heading
      pub headed : IsHeaded name input heading
      pub stays : IsHeaded name new heading
      pub puts : PutsText place.start place.len new

    -- what becomes of the file: a value is put over one that was found, or none was found, and no byte is another
    abbrev pub EndsWith : Option Place → List ℕ → Type 0
    EndsWith None new = FindsNone × (new ≡ input)
    EndsWith (Some place) new = Overwrites place new

    -- the file would have another header
    pub record IsInHeader (new : List ℕ) : Type 0 where
      pub heading : Heading
      pub headed : IsHeaded name input heading
      pub start : ℕ
      pub puts : PutsText start V.size new
      pub reheaded : IsReheaded name heading new

    -- why no value is written over, of values that are if they have a fixed size. No byte is another, but if the header would be
    abbrev pub FailsToOverwrite : Type 0 → List ℕ → OverwriteFault → Type 0
    FailsToOverwrite HasFixedSize new InHeader = IsInHeader new
    FailsToOverwrite HasFixedSize new NoKey = IsNoText keys key × (new ≡ input)
    FailsToOverwrite HasFixedSize new NoValue = IsNoText values value × (new ≡ input)
    FailsToOverwrite HasFixedSize new NotOverwritten = (¬ HasFixedSize) × (new ≡ input)
    FailsToOverwrite HasFixedSize new (Program fault) = FailsToRead K V name keys values (RefusesTyped K V name) input (typed.Program fault) × (new ≡ input)
