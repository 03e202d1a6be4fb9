-- Maps whose keys and values are items: values with texts.
use Rattle.std.specs.Prelude.{◌≡◌, ℕ, List, length, map}
use Rattle.std.specs.List.{All}
use Rattle.std.specs.declared.cmp.Ordering.{Ordering}
use Rattle.rkyv_btree_format.specs.Increasing.{Increasing}
use Rattle.rkyv_btree_format.specs.OwnBytes.{IsArchiveOf}
use Rattle.rkyv_btree_portable.specs.Kind.{Kind}
use Rattle.rkyv_btree_portable.specs.declared.refusal.Refusal.{Refusal}
use Rattle.rkyv_btree_strict.specs.Strict.{RefusesStrict}
use Rattle.rkyv_btree_convert.specs.Whole.{IsUnopened}
use Rattle.rkyv_btree_typed.specs.TypedWriting.{IsTypedArchiveOf}
use Rattle.rkyv_btree_verify.specs.Map.{map_kind}
use Rattle.rkyv_btree_verify.specs.Refusals.{RefusesMap}
use Rattle.rkyv_btree_writer.specs.Archiving.{Archival, Matches}
use Rattle.rkyv_btree_portable.specs.declared.check.Portable
use Rattle.rkyv_btree_view.specs.declared.view.View.{View}
use Rattle.btreearc_lines.specs.Headings.{IsHeaded, IsMisheaded}
use Rattle.btreearc_lines.specs.declared.fault.ProgramFault.{ProgramFault}
use Rattle.btreearc_lines.specs.declared.fault.ProgramFault.TheVariants.{Misheaded, Refused}
use Rattle.btreearc_lines.specs.declared.heading.Heading.{Heading}
use Rattle.btreearc_lines.specs.declared.heading.Heading.TheVariants.{Typed, Untyped}
use Rattle.btreekv_commands.specs.Lines.{Entry}

-- which of some values a type has, and their texts
pub record Items (Value : Type 0) : Type 1 where
  pub IsValue : Value → Type 0
  pub text : Value → List ℕ

abbrev pub items : {Value : Type 0} → (Value → Type 0) → (Value → List ℕ) → Items Value
items IsValue text = record { IsValue = IsValue; text = text }

-- the same of values that stand for these
abbrev pub items_by : {A B : Type 0} → (A → Type 0) → (A → List ℕ) → (B → A) → Items B
items_by IsValue text to = record { IsValue = λ v. IsValue (to v); text = λ v. text (to v) }

-- one function gives a type's own value for each value of its kind: of what is read, and of what native values mean as they are
-- archived. It keeps the order
pub record AreValues {X R Value : Type 0} (T : Archival X R) (kind : Kind) (order : Value → Value → Ordering) (value_at : List ℕ → ℕ → Value) (native_value : X → Value)
    (to : kind.Value → Value) : Type 0 where
  pub same : Matches T.kind kind
  pub read : (b : List ℕ) (at : ℕ) → value_at b at ≡ to (kind.read b at)
  pub native : (x : X) → native_value x ≡ to (same.to (T.meaning x))
  pub ordered : (v w : kind.Value) → kind.order v w ≡ order (to v) (to w)

-- a map's bytes mean for the kinds of native keys and values what they mean for these kinds, entry by entry
pub record AreMapValues {X R Y S : Type 0} (KA : Archival X R) (K : Kind) (VA : Archival Y S) (V : Kind) (key : Matches KA.kind K) (value : Matches VA.kind V) : Type 0 where
  pub whole : Matches (map_kind KA.kind VA.kind 5) (map_kind K V 5)
  pub each : (m : List (KA.kind.Value × VA.kind.Value)) → whole.to m ≡ map (λ e. (key.to e.0, value.to e.1)) m

-- what holds by such functions of the keys and of the values
abbrev pub ByValues : {X R A Y S B : Type 0} (KA : Archival X R) (K : Kind) → (A → A → Ordering) → (List ℕ → ℕ → A) → (X → A)
    → (VA : Archival Y S) (V : Kind) → (B → B → Ordering) → (List ℕ → ℕ → B) → (Y → B) → ((K.Value → A) → (V.Value → B) → Type 0) → Type 0
ByValues {A = A} {B = B} KA K key_order key_at key_of VA V value_order value_at value_of Holds =
    (key_to : K.Value → A) (value_to : V.Value → B) (keys : AreValues KA K key_order key_at key_of key_to) (values : AreValues VA V value_order value_at value_of value_to)
    → AreMapValues KA K VA V keys.same values.same → Holds key_to value_to

-- the same of the keys alone, in maps to values of a kind
abbrev pub ByKeyValues : {X R A Y S : Type 0} (KA : Archival X R) (K : Kind) → (A → A → Ordering) → (List ℕ → ℕ → A) → (X → A) → (VA : Archival Y S) (V : Kind) → Matches VA.kind V
    → ((K.Value → A) → Type 0) → Type 0
ByKeyValues {A = A} KA K key_order key_at key_of VA V value Holds =
    (key_to : K.Value → A) (keys : AreValues KA K key_order key_at key_of key_to) → AreMapValues KA K VA V keys.same value → Holds key_to

module _ {A B : Type 0} (keys : Items A) (values : Items B) where
  -- an entry as texts
  abbrev pub spelled_entry : A × B → Entry
  spelled_entry e = (keys.text e.0, values.text e.1)

  abbrev pub spelled : List (A × B) → List Entry
  spelled entries = map spelled_entry entries

  -- its key and its value are of the types
  abbrev pub IsTypedEntry : A × B → Type 0
  IsTypedEntry e = keys.IsValue e.0 × values.IsValue e.1

  -- entries of the types, which are these texts
  pub record AreTyped (texts : List Entry) (entries : List (A × B)) : Type 0 where
    pub good : All IsTypedEntry entries
    pub texts_are : spelled entries ≡ texts

module _ (K V : Kind) (name : List ℕ) where
  -- a file that begins with the header of a map's type or with none, and is the archive of entries
  abbrev pub IsTypedInput : List ℕ → List (K.Value × V.Value) → Type 0
  IsTypedInput bytes entries = ((heading : Heading) × IsHeaded name bytes heading) × IsArchiveOf (map_kind K V 5) bytes entries

  -- the file of entries: their archive, and if it is typed, the header comes first, and after it all that the map leads to
  abbrev pub IsTypedFile : Heading → List ℕ → List (K.Value × V.Value) → Type 0
  IsTypedFile Typed bytes entries = IsTypedArchiveOf name (map_kind K V 5) bytes entries
  IsTypedFile Untyped bytes entries = IsArchiveOf (map_kind K V 5) bytes entries

  -- bytes are the archive of no entries, and this is their first error
  pub record RefusesTyped (bytes : List ℕ) (refusal : Refusal) : Type 0 where
    pub first : IsUnopened (map_kind K V 5) (RefusesMap K V 5) bytes refusal
    pub none : (entries : List (K.Value × V.Value)) → ¬ IsArchiveOf (map_kind K V 5) bytes entries

  -- bytes are the archive of no entries whose keys increase, and this is their first error
  pub record RefusesTypedStrict (bytes : List ℕ) (refusal : Refusal) : Type 0 where
    pub first : IsUnopened (map_kind K V 5) (RefusesStrict K V 5) bytes refusal
    pub none : (entries : List (K.Value × V.Value)) → IsArchiveOf (map_kind K V 5) bytes entries → ¬ Increasing K.order entries

  -- an error of opening bytes: they begin with another header, or this is their first error
  abbrev pub IsTypedOpenFault : (List ℕ → Refusal → Type 0) → List ℕ → ProgramFault → Type 0
  IsTypedOpenFault Refuses bytes (Refused refusal) = Refuses bytes refusal
  IsTypedOpenFault Refuses bytes (Misheaded fault) = IsMisheaded name bytes fault
  IsTypedOpenFault Refuses bytes _ = ⊥

  -- a file has so many entries, whose keys increase
  abbrev pub CountsTyped : List ℕ → ℕ → Type 0
  CountsTyped bytes count = (entries : List (K.Value × V.Value)) × IsTypedInput bytes entries × Increasing K.order entries × (count ≡ length entries)

-- the texts of an entry that views of a key and of a value show
abbrev pub texts_shown : {A B M N : Type 0} {m : Portable.Ghosts M} {n : Portable.Ghosts N} → (A → List ℕ) → (List ℕ → ℕ → A) → (B → List ℕ) → (List ℕ → ℕ → B) → View M m × View N n → Entry
texts_shown key_text key_at value_text value_at e = (key_text (key_at e.0.buf.now e.0.pos), value_text (value_at e.1.buf.now e.1.pos))
