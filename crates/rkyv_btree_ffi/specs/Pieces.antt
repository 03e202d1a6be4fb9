-- What a lookup in the pieces of an archive gives C.
use Rattle.std.specs.Prelude.{◌≡◌, ℕ, ◌<◌, ◌++◌, List, IsUtf8, Option, Some, None, Result, Ok, Err, pos}
use Rattle.std.specs.declared.cmp.Ordering.{Ordering}
use Rattle.rkyv_btree_format.specs.OwnBytes.{own_at}
use Rattle.rkyv_btree_format.specs.Read.{entry_at}
use Rattle.rkyv_btree_portable.specs.Kind.{Kind}
use Rattle.rkyv_btree_portable.specs.declared.refusal.Refusal.{Refusal}
use Rattle.rkyv_btree_source.specs.Known.{Known, IsMissing}
use Rattle.rkyv_btree_source.specs.declared.fault.SourceFault.{SourceFault}
use Rattle.rkyv_btree_source.specs.declared.fault.SourceFault.TheVariants.{Refused, Read, NoRoom, OverBudget}
use Rattle.rkyv_btree_source.specs.declared.piece.Missing.{Missing}
use Rattle.rkyv_btree_unverified.specs.Lookups.{LookupGives}
use Rattle.rkyv_btree_unverified.specs.Steps.{value_place}
use Rattle.rkyv_btree_verify.specs.Map.{map_kind}
use Rattle.rkyv_btree_ffi.specs.Codes.{refusal_for}
use Rattle.rkyv_btree_ffi.specs.Entries.{IsValue}
use Rattle.rkyv_btree_ffi.specs.Finding.{LookupReturns}
use Rattle.rkyv_btree_ffi.specs.MapTypes.{key_kind, value_kind}
use Rattle.rkyv_btree_ffi.specs.declared.codes.BtreeRefusal.{BtreeRefusal}
use Rattle.rkyv_btree_ffi.specs.declared.item.BtreeItem.{BtreeItem}
use Rattle.rkyv_btree_ffi.specs.declared.map_type.MapType.{MapType}
use Rattle.rkyv_btree_ffi.specs.declared.map_type.ItemType.{ItemType}
use Rattle.rkyv_btree_ffi.specs.declared.map_type.ItemType.TheVariants.{U32, U64, I64, Text, Bytes, Empty}

module _ (K V : Kind) (ShowsValue : List ℕ → ℕ → BtreeItem → Type 0) (KRefuses VRefuses : List ℕ → ℕ → ℕ → ℕ → Refusal → Type 0)
    (b : List ℕ) (comparison : K.Value → Ordering) where
  abbrev pub Returns : Result (Option (ℕ × ℕ)) Refusal → Type 0
  Returns = LookupGives K V 5 b comparison KRefuses VRefuses (own_at (map_kind K V 5) b)

  -- an item shows a value in the first bytes of a buffer, and it is the value of the entry at which the lookup in b ends
  pub record IsShownIn (buffer : List ℕ) (item : BtreeItem) : Type 0 where
    pub place : ℕ × ℕ
    pub returned : Returns (Ok (Some place))
    pub first : List ℕ
    pub rest : List ℕ
    pub parts : buffer ≡ first ++ rest
    pub at : ℕ
    pub shown : ShowsValue first at item
    pub same : V.read first at ≡ V.read b (value_place K V 5 place)

  -- the lookup in pieces of b returns what the lookup in b does, or a fault of reading, of which this says nothing
  abbrev pub Steps : List ℕ → Result (Option BtreeItem) (SourceFault Missing) → Type 0
  Steps buffer (Ok None) = Returns (Ok None)
  Steps buffer (Ok (Some item)) = IsShownIn buffer item
  Steps buffer (Err (Refused error)) = Returns (Err error)
  Steps buffer (Err (Read part)) = Unit {0}
  Steps buffer (Err (NoRoom needed)) = Unit {0}
  Steps buffer (Err OverBudget) = Unit {0}

-- a fault of reading is a part that no piece has, or says that the buffer is too short
abbrev pub IsLack : Known → ℕ → Result (Option BtreeItem) (SourceFault Missing) → Type 0
IsLack known room (Ok found) = Unit {0}
IsLack known room (Err (Refused error)) = Unit {0}
IsLack known room (Err (Read part)) = IsMissing known part
IsLack known room (Err (NoRoom needed)) = room < needed
IsLack known room (Err OverBudget) = ⊥

module _ (t : MapType) (b : List ℕ) (comparison : (key_kind t).Value → Ordering) where
  -- C has the value of the entry at which a lookup in b ends; a text is in a buffer of C's
  pub record IsFoundValue (buffer : List ℕ) (item : BtreeItem) : Type 0 where
    pub place : ℕ × ℕ
    pub returned : LookupReturns t b comparison (Ok (Some place))
    pub value : IsValue buffer t (entry_at (key_kind t) (value_kind t) 5 b place).1 item

  -- the same of the lookup's result
  abbrev pub StepsOf : List ℕ → Result (Option BtreeItem) (SourceFault Missing) → Type 0
  StepsOf buffer (Ok None) = LookupReturns t b comparison (Ok None)
  StepsOf buffer (Ok (Some item)) = IsFoundValue buffer item
  StepsOf buffer (Err (Refused error)) = LookupReturns t b comparison (Err error)
  StepsOf buffer (Err (Read part)) = Unit {0}
  StepsOf buffer (Err (NoRoom needed)) = Unit {0}
  StepsOf buffer (Err OverBudget) = Unit {0}

-- the cause of a fault, as C has it
abbrev pub cause_for : SourceFault Missing → BtreeRefusal
cause_for (Refused error) = refusal_for error
cause_for (Read part) = record { code = 21; at = pos part.pos; found = part.len; allowed = 0 }
cause_for (NoRoom needed) = record { code = 38; at = pos 0; found = needed; allowed = 0 }
cause_for OverBudget = record { code = 38; at = pos 0; found = 0; allowed = 0 }

-- C has a part that no piece has: its position, and how many bytes it has
pub record IsMissingPart (known : Known) (why : BtreeRefusal) : Type 0 where
  pub part : Missing
  pub missing : IsMissing known part
  pub at : why.at ≡ pos part.pos
  pub len : why.found ≡ part.len

-- a number, or a text, is a key of the type
abbrev pub IsNumberKey : ItemType → ℕ → Type 0
IsNumberKey U32 n = n < 4294967296
IsNumberKey U64 n = Unit {0}
IsNumberKey I64 n = Unit {0}
IsNumberKey Text n = ⊥
IsNumberKey Bytes n = ⊥
IsNumberKey Empty n = ⊥

abbrev pub IsTextKey : ItemType → List ℕ → Type 0
IsTextKey U32 text = ⊥
IsTextKey U64 text = ⊥
IsTextKey I64 text = ⊥
IsTextKey Text text = IsUtf8 text
IsTextKey Bytes text = Unit {0}
IsTextKey Empty text = ⊥

-- a value is written, or the code that there is none, or why it isn't known, or that the key is none of the type
abbrev pub PutsValue : Option (Result (Option BtreeItem) (SourceFault Missing)) → BtreeItem → BtreeItem → BtreeRefusal → BtreeRefusal → ℕ → Type 0
PutsValue None old new old_why why code = (code ≡ 36) × (new ≡ old)
PutsValue (Some (Ok None)) old new old_why why code = (code ≡ 18) × (new ≡ old)
PutsValue (Some (Ok (Some item))) old new old_why why code = (code ≡ 0) × (new ≡ item)
PutsValue (Some (Err fault)) old new old_why why code = (code ≡ why.code) × (why ≡ cause_for fault) × (new ≡ old)
