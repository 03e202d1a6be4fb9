-- What overwriting a value for C does.
use Rattle.std.specs.Prelude.{◌≡◌, ℕ, List, Bool, Option, Some, None, MatchOption, nat_lt, if◌then◌else◌}
use Rattle.std.specs.Int.{w32, w64, to_le_bytes}
use Rattle.std.specs.declared.cmp.Ordering.{Ordering}
use Rattle.rkyv_btree_portable.specs.Kind.{Kind}
use Rattle.rkyv_btree_seal.specs.Places.{SetsFound}
use Rattle.rkyv_btree_ffi.specs.MapTypes.{key_kind, value_kind}
use Rattle.rkyv_btree_ffi.specs.declared.map_type.MapType.{MapType}
use Rattle.rkyv_btree_ffi.specs.declared.map_type.ItemType.{ItemType}
use Rattle.rkyv_btree_ffi.specs.declared.map_type.ItemType.TheVariants.{U32, U64, I64, Text, Bytes, Empty}

-- the own bytes of a number of 32 bits, if it is one
abbrev pub narrow : ℕ → Option (List ℕ)
narrow value = if nat_lt value 4294967296 then Some (to_le_bytes w32 value) else None

-- the own bytes of a number as a value of a type, if it can be one. A number with a sign is in two's complement
abbrev pub own_of : ItemType → ℕ → Option (List ℕ)
own_of U32 value = narrow value
own_of U64 value = Some (to_le_bytes w64 value)
own_of I64 value = Some (to_le_bytes w64 value)
own_of Text value = None
own_of Bytes value = None
own_of Empty value = None

-- the value of the entry that a lookup finds is overwritten by these own bytes, and no other byte; or the code is that there is no
-- such entry, or that there are no such bytes
abbrev pub SetsOwn : (K V : Kind) → List ℕ → ℕ → (K.Value → Ordering) → Option (List ℕ) → List ℕ → ℕ → Type 0
SetsOwn K V b at comparison own c code =
    MatchOption own ((code ≡ 20) × (c ≡ b)) (λ bytes. (found : Bool) × SetsFound K V 5 b at comparison bytes c found × (code ≡ (if found then 0 else 18)))

abbrev pub SetsValue : (t : MapType) → List ℕ → ℕ → ((key_kind t).Value → Ordering) → ℕ → List ℕ → ℕ → Type 0
SetsValue t b at comparison value c code = SetsOwn (key_kind t) (value_kind t) b at comparison (own_of t.value value) c code
