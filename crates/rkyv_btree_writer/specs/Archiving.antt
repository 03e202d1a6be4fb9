-- What it takes to archive a value: the writes before its own bytes, and the own bytes.
use Rattle.std.specs.Prelude.{◌≡◌, ℕ, ◌+◌, ◌≤◌, IsTrue, List, [], ◌++◌, length}
use Rattle.std.proofs.Common.{refl}
use Rattle.rkyv_btree_portable.specs.Bytes.{Holds}
use Rattle.rkyv_btree_portable.specs.InPlace.{NativeForm}
use Rattle.rkyv_btree_portable.specs.Kind.{Kind}
use Rattle.rkyv_btree_portable.specs.Plain.{plain_kind}
use Rattle.rkyv_btree_portable.specs.Standing.{IsAligned}
use Rattle.rkyv_btree_writer.specs.Fields.{Field, FirstUnfit, HasLong}
use Rattle.rkyv_btree_writer.specs.Writing.{Writing, position, Write, AllReach, appended, Stopped, Wrote, EndInReach}
use Rattle.rkyv_btree_writer.specs.declared.fault.EntryFault.{EntryFault}
use Rattle.rkyv_btree_writer.specs.declared.fault.Fault.{Fault}
use Rattle.rkyv_btree_writer.specs.declared.fault.Fault.TheVariants.{Length, LengthOverflow, PositionOverflow, OffsetOverflow, Writer, Memory, Entry, OutOfOrder}
use Rattle.rkyv_btree_writer.specs.declared.fault.ResolveFault.{ResolveFault}

-- the second kind's bytes mean what the first's do, and lie alike
pub record Matches (kind other : Kind) : Type 0 where
  pub to : kind.Value → other.Value
  pub size : kind.size ≡ other.size
  pub align : kind.align ≡ other.align
  pub fits : kind.is_fitting ≡ other.is_fitting
  pub means : (b : List ℕ) (lo hi at left : ℕ) (v : kind.Value) → kind.Means b lo hi at left v → other.Means b lo hi at left (to v)

abbrev pub itself : (kind : Kind) → Matches kind kind
itself kind = record { to = λ v. v; size = refl; align = refl; fits = refl; means = λ b lo hi at left v m. m }

-- what archiving the values of a type does, with what serialising tells resolving
pub record Archival (X R : Type 0) : Type 1 where
  -- what the archived bytes are, and what those of a value mean
  pub kind : Kind
  pub meaning : X → kind.Value
  -- what is known of a value that was serialised
  pub IsIn : X → Type 0
  -- the writes that serialising makes from a position on where none is refused, with what it tells; and beginnings of them
  pub Writes : X → ℕ → List Write → R → Type 0
  pub Begins : X → ℕ → List Write → Type 0
  -- the own bytes that resolving writes at a position; and what they tell of what lies elsewhere, in resolving's order
  pub Resolves : X → R → ℕ → List ℕ → Type 0
  pub fields : X → R → ℕ → List Field
  -- the lengths of what is written: its own, and those of all that it leads to
  pub lengths : X → List ℕ
  -- memory is asked for; the value refuses itself from a position on
  pub Grows : X → Type 0
  pub Refuses : X → ℕ → EntryFault → Type 0

-- a value that was serialised from a position on, each pointer of its writes in reach, and resolved at an aligned place
-- after that, means itself in the window of what was written, in every buffer that holds these bytes, where the type fits
abbrev pub IsArchived : {X R : Type 0} → Archival X R → Type 0
IsArchived {X} {R} T =
    (x : X) (from at : ℕ) (writes : List Write) (r : R) (own : List ℕ) → T.IsIn x → T.Writes x from writes r
    → T.Resolves x r at own → (length own ≡ T.kind.size)
    × (IsTrue T.kind.is_fitting → (b : List ℕ) → AllReach writes → length b ≤ 4294967295 → IsAligned T.kind.align at
    → from + length (appended writes) ≤ at → at + T.kind.size ≤ length b → Holds b from (appended writes) → Holds b at own →
    (left : ℕ) × T.kind.Means b from (from + length (appended writes)) at left (T.meaning x))

-- one of the lengths is past 32 bits
abbrev pub IsTooLong : {X R : Type 0} → Archival X R → X → Type 0
IsTooLong T x = HasLong (T.lengths x)

-- why a value's own bytes aren't written at a position
abbrev pub IsUnresolved : {X R : Type 0} → Archival X R → X → R → ℕ → ResolveFault → Type 0
IsUnresolved T x r at fault = FirstUnfit (T.fields x r at) fault

-- t has the same first position as s, and its contents begin with those of s
abbrev pub BeginsWith : Writing → Writing → Type 0
BeginsWith t s = (t.base ≡ s.base) × ((more : List ℕ) × (t.contents ≡ s.contents ++ more))

-- the writes of a value were made in reach, and serialising told this
abbrev pub Serialises : {X R : Type 0} → Archival X R → X → Writing → Writing → R → Type 0
Serialises T x s t r = (writes : List Write) × T.Writes x (position s) writes r × Wrote s writes t × T.IsIn x × EndInReach writes t

-- some of the writes of a value were made, and the next was refused
abbrev pub StopsIn : {X R E : Type 0} → Archival X R → X → Writing → Fault E → Writing → Type 0
StopsIn T x s fault t = (writes : List Write) × T.Begins x (position s) writes × Stopped s writes fault t

-- why a value isn't serialised, and the state that is left
abbrev pub IsUnserialised : {X R E : Type 0} → Archival X R → X → Writing → Fault E → Writing → Type 0
IsUnserialised T x s (Length mismatch) t = ⊥
IsUnserialised T x s LengthOverflow t = IsTooLong T x × BeginsWith t s
IsUnserialised {X} {R} {E} T x s PositionOverflow t = StopsIn {E = E} T x s PositionOverflow t
IsUnserialised {X} {R} {E} T x s OffsetOverflow t = StopsIn {E = E} T x s OffsetOverflow t
IsUnserialised T x s (Writer error) t = StopsIn T x s (Writer error) t
IsUnserialised T x s (Memory error) t = T.Grows x × BeginsWith t s
IsUnserialised T x s (Entry fault) t = T.Refuses x (position s) fault × BeginsWith t s
IsUnserialised T x s (OutOfOrder index) t = ⊥

-- values that lie in their own bytes alone, of which some may refuse themselves: nothing is written before
abbrev pub own_archival : {X : Type 0} (kind : Kind) → (X → kind.Value) → (X → Type 0) → (X → List ℕ) → (X → ℕ → EntryFault → Type 0) → Archival X (Unit {0})
own_archival kind meaning IsIn own Refuses = record {
  kind = kind;
  meaning = meaning;
  IsIn = IsIn;
  Writes = λ x from writes r. writes ≡ [];
  Begins = λ x from writes. writes ≡ [];
  Resolves = λ x r at bytes. bytes ≡ own x;
  fields = λ x r at. [];
  lengths = λ x. [];
  Grows = λ x. ⊥;
  Refuses = Refuses;
}

-- and none refuses itself
abbrev pub plain_archival : {X : Type 0} (kind : Kind) → (X → kind.Value) → (X → Type 0) → (X → List ℕ) → Archival X (Unit {0})
plain_archival kind meaning IsIn own = own_archival kind meaning IsIn own (λ x from fault. ⊥)

-- native values, as their form says
abbrev pub native_archival : {X : Type 0} → NativeForm X → Archival X (Unit {0})
native_archival form = plain_archival (plain_kind form.plain) form.meaning form.IsIn form.own_bytes
