-- Values that are written over in maps of two types that the program knows by name.
use Rattle.std.specs.Prelude.{ℕ, List, Option}
use Rattle.std.specs.declared.cmp.Ordering.{Ordering}
use Rattle.rkyv_btree_portable.specs.Kind.{Kind}
use Rattle.rkyv_btree_typed.specs.TypeNames.{TypeTerm, name_of}
use Rattle.rkyv_btree_typed.specs.TypeNames as term
use Rattle.rkyv_btree_writer.specs.Archiving.{Archival}
use Rattle.btreekv_items.specs.ItemTypes.{term_at}
use Rattle.btreekv_items.specs.declared.item.BytesStyle.{BytesStyle}
use Rattle.btreekv_types.specs.AnyTypes.{archival_at, item_of, items_at, itself_at, kind_at}
use Rattle.btreekv_types.specs.Overwriting.{EndsWith, FailsToOverwrite}
use Rattle.btreekv_types.specs.Typed.{ByKeyValues, items_by}
use Rattle.btreekv_types.specs.Types.{key_of, map_name, value_of}
use Rattle.btreekv_types.specs.declared.any_type.AnyType.{AnyType}
use Rattle.btreekv_types.specs.declared.any_type.AnyType.TheVariants.{Plain}
use Rattle.btreekv_types.specs.declared.overwriting.OverwriteFault.{OverwriteFault}
use Rattle.btreekv_types.specs.declared.overwriting.Place.{Place}
use Rattle.btreekv_types.specs.declared.plain_type.PlainType.TheVariants.{Bytes, Text}
use Rattle.btreekv_types.specs.declared.types.Types.{Types}

-- the values of a type are numbers
abbrev pub IsNumber : AnyType → Type 0
IsNumber (Plain Text) = ⊥
IsNumber (Plain Bytes) = ⊥
IsNumber (Plain _) = Unit {0}
IsNumber _ = ⊥

module _ (types : Types) (style : BytesStyle) (input key value : List ℕ) where
  -- what is there of a file after a write of a value that was found, or of none
  abbrev pub EndsWithAt : Option Place → List ℕ → Type 0
  EndsWithAt found new =
      EndsWith (kind_at (key_of types)) (kind_at (value_of types)) (map_name types) (items_at (key_of types) style) (items_at (value_of types) style) input key value found new

  -- why no value is written over, and what is there of the file then
  abbrev pub FailsToOverwriteAt : List ℕ → OverwriteFault → Type 0
  FailsToOverwriteAt new fault =
      FailsToOverwrite (kind_at (key_of types)) (kind_at (value_of types)) (map_name types) (items_at (key_of types) style) (items_at (value_of types) style) input key value
      (IsNumber (value_of types)) new fault

-- the same of maps to values of a type, whose keys are values of any type of items
module _ {X R A : Type 0} (KA : Archival X R) (K : Kind) (order : A → A → Ordering) (read : List ℕ → ℕ → A) (native : X → A) (key_term : TypeTerm)
    (IsValue : A → Type 0) (spelling : A → List ℕ) (to : AnyType) (style : BytesStyle) (input key value : List ℕ) where
  abbrev pub EndsWithTo : Option Place → List ℕ → Type 0
  EndsWithTo found new =
      ByKeyValues KA K order read native (archival_at to) (kind_at to) (itself_at to) (λ key_to.
      EndsWith K (kind_at to) (name_of (term.map key_term (term_at (item_of to)) 5)) (items_by IsValue spelling key_to) (items_at to style) input key value found new)

  abbrev pub FailsToOverwriteTo : List ℕ → OverwriteFault → Type 0
  FailsToOverwriteTo new fault =
      ByKeyValues KA K order read native (archival_at to) (kind_at to) (itself_at to) (λ key_to.
      FailsToOverwrite K (kind_at to) (name_of (term.map key_term (term_at (item_of to)) 5)) (items_by IsValue spelling key_to) (items_at to style) input key value (IsNumber to) new fault)
