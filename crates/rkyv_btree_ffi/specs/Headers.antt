-- Headers of typed files as C has them: the name of each type of maps, and why bytes have no header of a name.
use Rattle.std.specs.Prelude.{◌≡◌, ◌≢◌, ℕ, ◌+◌, ◌≤◌, ◌<◌, ◌⊎◌, List, ◌++◌, length, drop, pos}
use Rattle.rkyv_btree_portable.specs.Bytes.{bytes_at}
use Rattle.rkyv_btree_typed.specs.TypeHeader.{HasHeader, IsUnheaded, header}
use Rattle.rkyv_btree_typed.specs.TypeNames.{TypeTerm, name_of}
use Rattle.rkyv_btree_typed.specs.TypeNames as term
use Rattle.rkyv_btree_typed.specs.declared.header.HeaderFault.{HeaderFault}
use Rattle.rkyv_btree_typed.specs.declared.header.HeaderFault.TheVariants.{NoHeader, OtherVersion}
use Rattle.rkyv_btree_ffi.specs.declared.codes.BtreeRefusal.{BtreeRefusal}
use Rattle.rkyv_btree_ffi.specs.declared.map_type.ItemType.{ItemType}
use Rattle.rkyv_btree_ffi.specs.declared.map_type.ItemType.TheVariants.{U32, U64, I64, Text, Bytes, Empty}
use Rattle.rkyv_btree_ffi.specs.declared.map_type.MapType.{MapType}

-- what keys and values of a type are in a name
abbrev pub item_term : ItemType → TypeTerm
item_term U32 = term.u32
item_term U64 = term.u64
item_term I64 = term.i64
item_term Text = term.text
item_term Bytes = term.byte_string
item_term Empty = term.unit_type

-- what is archived, by what its keys are: a map whose values have no bytes is a set
abbrev pub archived_term : TypeTerm → ItemType → TypeTerm
archived_term key U32 = term.map key (item_term U32) 5
archived_term key U64 = term.map key (item_term U64) 5
archived_term key I64 = term.map key (item_term I64) 5
archived_term key Text = term.map key (item_term Text) 5
archived_term key Bytes = term.map key (item_term Bytes) 5
archived_term key Empty = term.set key 5

-- the name of a type of maps, as a header has it
abbrev pub type_name : MapType → List ℕ
type_name t = name_of (archived_term (item_term t.key) t.value)

-- the cause of a missing header, as C has it
abbrev pub header_cause : HeaderFault → BtreeRefusal
header_cause NoHeader = record { code = 48; at = pos 0; found = 0; allowed = 0 }
header_cause (OtherVersion version) = record { code = 49; at = pos 0; found = version; allowed = 1 }

module _ (name : List ℕ) where
  -- the header of a name is written at the start, and its length; or there is no room for it, and nothing is written but its length
  abbrev pub PutsHeader : List ℕ → List ℕ → ℕ → ℕ → Type 0
  PutsHeader old new len code =
      (len ≡ length (header name))
      × (((code ≡ 0) × (len ≤ length old) × (new ≡ header name ++ drop len old)) ⊎ ((code ≡ 38) × (length old < len) × (new ≡ old)))

  -- the bytes begin with the header of another name
  abbrev pub HasOtherName : List ℕ → Type 0
  HasOtherName bytes = (found : List ℕ) × HasHeader found bytes × (found ≢ name)

  -- they have it, and it is this many of them from position 12 on
  abbrev pub HasOtherNameAt : List ℕ → ℕ → Type 0
  HasOtherNameAt bytes len = (12 + len ≤ length bytes) × HasHeader (bytes_at bytes 12 len) bytes × (bytes_at bytes 12 len ≢ name)

  -- why they don't begin with the header of the name, as C has it: they have none that is read, or that of another name
  abbrev pub IsMisheaded : List ℕ → BtreeRefusal → Type 0
  IsMisheaded bytes why =
      ((fault : HeaderFault) × IsUnheaded bytes fault × (why ≡ header_cause fault))
      ⊎ ((len : ℕ) × HasOtherNameAt bytes len × (why ≡ record { code = 50; at = pos 12; found = len; allowed = 0 }))
