-- Maps of two types that the program knows by name.
use Rattle.std.specs.Prelude.{ℕ, List, Option, Result}
use Rattle.std.specs.declared.cmp.Ordering.{Ordering}
use Rattle.rkyv_btree_portable.specs.Kind.{Kind}
use Rattle.rkyv_btree_typed.specs.TypeNames.{TypeTerm, name_of}
use Rattle.rkyv_btree_typed.specs.TypeNames as term
use Rattle.rkyv_btree_writer.specs.Archiving.{Archival}
use Rattle.btreekv_items.specs.ItemTypes.{term_at}
use Rattle.btreekv_items.specs.declared.item.BytesStyle.{BytesStyle}
use Rattle.btreekv_types.specs.AnyTypes.{archival_at, item_of, items_at, itself_at, kind_at, plain_of}
use Rattle.btreekv_types.specs.Commands.{Does}
use Rattle.btreekv_types.specs.Typed.{ByKeyValues, items_by}
use Rattle.btreekv_types.specs.declared.any_type.AnyType.{AnyType}
use Rattle.btreekv_types.specs.declared.any_type.AnyType.TheVariants as any
use Rattle.btreekv_types.specs.declared.command.TypedCommand.{TypedCommand}
use Rattle.btreekv_types.specs.declared.fault.TypedFault.{TypedFault}
use Rattle.btreekv_types.specs.declared.types.PlainTypes.{PlainTypes}
use Rattle.btreekv_types.specs.declared.types.Types.{Types}
use Rattle.btreekv_types.specs.declared.types.Types.TheVariants.{Plain, ToOptions, ToTuples, TupleKeys}

-- the types of the keys and of the values of a map
abbrev pub key_of : Types → AnyType
key_of (Plain types) = any.Plain types.key
key_of (ToOptions key value) = any.Plain (plain_of key)
key_of (ToTuples key value) = any.Plain (plain_of key)
key_of (TupleKeys key value) = any.Tuple key

abbrev pub value_of : Types → AnyType
value_of (Plain types) = any.Plain types.value
value_of (ToOptions key value) = any.Optional value
value_of (ToTuples key value) = any.Tuple value
value_of (TupleKeys key value) = any.Plain (plain_of value)

-- two types that have no parts, among all
abbrev pub types_of : PlainTypes → Types
types_of types = Plain types

-- the name of the type of maps of two types
abbrev pub map_name : Types → List ℕ
map_name types = name_of (term.map (term_at (item_of (key_of types))) (term_at (item_of (value_of types))) 5)

module _ (types : Types) (style : BytesStyle) where
  -- what a command over such maps does with a reader of known bytes and a writer
  abbrev pub DoesAt : TypedCommand → Option (List ℕ) → Option (List ℕ) → Option (List ℕ) → Result ℕ TypedFault → Type 0
  DoesAt command input old new result =
      Does (kind_at (key_of types)) (kind_at (value_of types)) (map_name types) (items_at (key_of types) style) (items_at (value_of types) style) (archival_at (key_of types)) (archival_at (value_of types)) command input old new result

-- the same of maps to values of a type, whose keys are values of any type of items
module _ {X R A : Type 0} (KA : Archival X R) (K : Kind) (order : A → A → Ordering) (read : List ℕ → ℕ → A) (native : X → A) (key_term : TypeTerm)
    (IsValue : A → Type 0) (spelling : A → List ℕ) (value : AnyType) (style : BytesStyle) where
  abbrev pub DoesTo : TypedCommand → Option (List ℕ) → Option (List ℕ) → Option (List ℕ) → Result ℕ TypedFault → Type 0
  DoesTo command input old new result =
      ByKeyValues KA K order read native (archival_at value) (kind_at value) (itself_at value) (λ key_to.
      Does K (kind_at value) (name_of (term.map key_term (term_at (item_of value)) 5)) (items_by IsValue spelling key_to) (items_at value style) KA (archival_at value) command input old new result)
