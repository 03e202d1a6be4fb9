-- Look-ups in maps of two types that the program knows by name, and that have no parts.
use Rattle.std.specs.Global.{Global}
use Rattle.std.specs.Prelude.{◌≡◌, ℕ, Bool, List, Option, String}
use Rattle.std.specs.declared.cmp.Ordering.{Ordering}
use Rattle.rkyv_btree_format.specs.OwnBytes.{own_at}
use Rattle.rkyv_btree_portable.specs.Kind.{Kind}
use Rattle.rkyv_btree_portable.specs.Refusing.{RefusesWhole}
use Rattle.rkyv_btree_portable.specs.declared.refusal.Refusal.{Refusal}
use Rattle.rkyv_btree_source.specs.Known.{AreOf, Known}
use Rattle.rkyv_btree_typed.specs.TypeNames.{TypeTerm, name_of}
use Rattle.rkyv_btree_typed.specs.TypeNames as term
use Rattle.rkyv_btree_verify.specs.Map.{map_kind}
use Rattle.rkyv_btree_writer.specs.Archiving.{Archival}
use Rattle.btreekv_commands.specs.declared.forms.Form.{Form}
use Rattle.btreekv_items.specs.ItemTypes.{term_at}
use Rattle.btreekv_items.specs.declared.item.BytesStyle.{BytesStyle}
use Rattle.btreekv_types.specs.AnyTypes.{archival_at, item_of, items_at, itself_at, kind_at}
use Rattle.btreekv_types.specs.Ranged.{FailsToWrite, WritesPart}
use Rattle.btreekv_types.specs.Sourced.{AppendsFound, FailsToFind, FindsText, WritesFound}
use Rattle.btreekv_types.specs.Typed.{ByKeyValues, items_by}
use Rattle.btreekv_types.specs.Types.{map_name, types_of}
use Rattle.btreekv_types.specs.declared.any_type.AnyType.TheVariants.{Plain}
use Rattle.btreekv_types.specs.declared.fault.TypedFault.{TypedFault}
use Rattle.btreekv_types.specs.declared.plain_type.PlainType.{PlainType}
use Rattle.btreekv_types.specs.declared.ranged.Part.{Part}
use Rattle.btreekv_types.specs.declared.sourced.TypedSource.{TypedSource}
use Rattle.btreekv_types.specs.declared.types.PlainTypes.{PlainTypes}

-- which refusal bytes get that are no value of a type
abbrev pub refuses_at : PlainType → List ℕ → ℕ → ℕ → ℕ → Refusal → Type 0
refuses_at i = RefusesWhole (kind_at (Plain i))

-- where the own bytes of a map of two types are
abbrev pub map_place : PlainTypes → List ℕ → ℕ
map_place types bytes = own_at (map_kind (kind_at (Plain types.key)) (kind_at (Plain types.value)) 5) bytes

module _ {S : Type 0} (known : S → Known) where
  -- an archive may be all of a source of these bytes
  pub record IsSourceOf (archive : TypedSource S) (bytes : List ℕ) : Type 0 where
    pub source : AreOf (known archive.reader.source) bytes
    pub position : archive.pos ≡ map_place archive.types bytes

  -- it is the same archive, whatever was read of it
  pub record IsSameArchive (before after : TypedSource S) : Type 0 where
    pub source : known after.reader.source ≡ known before.reader.source
    pub position : after.pos ≡ before.pos
    pub types : after.types ≡ before.types

module _ (types : PlainTypes) (style : BytesStyle) (bytes : List ℕ) where
  -- what a look-up of a word finds in a source of these bytes
  abbrev pub FindsTextAt : List ℕ → Option (List ℕ) → Type 0
  FindsTextAt word value =
      FindsText (kind_at (Plain types.key)) (kind_at (Plain types.value)) (map_name (types_of types)) (items_at (Plain types.key) style) (items_at (Plain types.value) style) (refuses_at types.key) (refuses_at types.value) bytes word value

  -- what it writes
  abbrev pub WritesFoundAt : String Global → Form → List ℕ → ℕ → Type 0
  WritesFoundAt word form text status =
      WritesFound (kind_at (Plain types.key)) (kind_at (Plain types.value)) (map_name (types_of types)) (items_at (Plain types.key) style) (items_at (Plain types.value) style) (refuses_at types.key) (refuses_at types.value) bytes word form text status

  -- what it appends
  abbrev pub AppendsFoundAt : (word old new : List ℕ) → Bool → Type 0
  AppendsFoundAt word old new is_found =
      AppendsFound (kind_at (Plain types.key)) (kind_at (Plain types.value)) (map_name (types_of types)) (items_at (Plain types.key) style) (items_at (Plain types.value) style) (refuses_at types.key) (refuses_at types.value) bytes word old new is_found

  -- and why it gives nothing
  abbrev pub FailsToFindAt : List ℕ → TypedFault → Type 0
  FailsToFindAt word fault =
      FailsToFind (kind_at (Plain types.key)) (kind_at (Plain types.value)) (map_name (types_of types)) (items_at (Plain types.key) style) (items_at (Plain types.value) style) (refuses_at types.key) (refuses_at types.value) bytes word fault

  -- what is written of a part of the entries
  abbrev pub WritesPartAt : Part → Form → List ℕ → ℕ → Type 0
  WritesPartAt part form text status =
      WritesPart (kind_at (Plain types.key)) (kind_at (Plain types.value)) (map_name (types_of types)) (items_at (Plain types.key) style) (items_at (Plain types.value) style) (refuses_at types.key) (refuses_at types.value) bytes part form text status

  -- and why nothing is
  abbrev pub FailsToWriteAt : Part → TypedFault → Type 0
  FailsToWriteAt part fault =
      FailsToWrite (kind_at (Plain types.key)) (kind_at (Plain types.value)) (map_name (types_of types)) (items_at (Plain types.key) style) (items_at (Plain types.value) style) (refuses_at types.key) (refuses_at types.value) bytes part fault

-- the same of maps to values of a type, whose keys are values of any type of items
module _ {X R A : Type 0} (KA : Archival X R) (K : Kind) (order : A → A → Ordering) (read : List ℕ → ℕ → A) (native : X → A) (key_term : TypeTerm)
    (IsValue : A → Type 0) (spelling : A → List ℕ) (KR : List ℕ → ℕ → ℕ → ℕ → Refusal → Type 0) (value : PlainType) (style : BytesStyle) (bytes : List ℕ) where
  -- the name of the type of such maps
  abbrev pub name_to : List ℕ
  name_to = name_of (term.map key_term (term_at (item_of (Plain value))) 5)

  -- what holds for each function that gives the keys
  abbrev pub ByKeys : ((K.Value → A) → Type 0) → Type 0
  ByKeys Holds = ByKeyValues KA K order read native (archival_at (Plain value)) (kind_at (Plain value)) (itself_at (Plain value)) Holds

  abbrev pub FindsTextTo : List ℕ → Option (List ℕ) → Type 0
  FindsTextTo word found =
      ByKeys (λ key_to. FindsText K (kind_at (Plain value)) name_to (items_by IsValue spelling key_to) (items_at (Plain value) style) KR (refuses_at value) bytes word found)

  abbrev pub FailsToFindTo : List ℕ → TypedFault → Type 0
  FailsToFindTo word fault =
      ByKeys (λ key_to. FailsToFind K (kind_at (Plain value)) name_to (items_by IsValue spelling key_to) (items_at (Plain value) style) KR (refuses_at value) bytes word fault)

  abbrev pub WritesPartTo : Part → Form → List ℕ → ℕ → Type 0
  WritesPartTo part form text status =
      ByKeys (λ key_to. WritesPart K (kind_at (Plain value)) name_to (items_by IsValue spelling key_to) (items_at (Plain value) style) KR (refuses_at value) bytes part form text status)

  abbrev pub FailsToWriteTo : Part → TypedFault → Type 0
  FailsToWriteTo part fault =
      ByKeys (λ key_to. FailsToWrite K (kind_at (Plain value)) name_to (items_by IsValue spelling key_to) (items_at (Plain value) style) KR (refuses_at value) bytes part fault)
