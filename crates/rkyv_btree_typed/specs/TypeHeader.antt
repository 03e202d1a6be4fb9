-- The header of a typed file: its bytes, and which bytes begin with one.
use Rattle.std.specs.Prelude.{◌≡◌, ℕ, ◌+◌, ◌-◌, ◌<◌, ◌^◌, List, ◌++◌, IsUtf8, codes, decimal, length}
use Rattle.std.specs.Int.{to_le_bytes, w16, w32}
use Rattle.rkyv_btree_portable.specs.Bytes.{zeros}
use Rattle.rkyv_btree_portable.specs.Rounding.{round_up}
use Rattle.rkyv_btree_typed.specs.declared.header.HeaderFault.{HeaderFault}
use Rattle.rkyv_btree_typed.specs.declared.header.HeaderFault.TheVariants.{NoHeader, OtherVersion}

-- the first bytes of a header of any version
abbrev pub versioned : ℕ → List ℕ
versioned version = codes "rkyvbt" ++ to_le_bytes w16 version

-- what a header has after its version: the length of the name, the name, and zeros up to a multiple of 16 of the whole
abbrev pub named : List ℕ → List ℕ
named name = to_le_bytes w32 (length name) ++ (name ++ zeros (round_up (12 + length name) 16 - (12 + length name)))

-- a header of version 1
unfoldable pub header : List ℕ → List ℕ
header name = versioned 1 ++ named name

-- the bytes begin with a name as a header has it
pub record IsNamed (name bytes : List ℕ) : Type 0 where
  pub text : IsUtf8 name
  pub fits : length name < 2 ^ 32
  pub rest : List ℕ
  pub parts : bytes ≡ named name ++ rest

-- the bytes begin with the header of a name
pub record HasHeader (name bytes : List ℕ) : Type 0 where
  pub text : IsUtf8 name
  pub fits : length name < 2 ^ 32
  pub rest : List ℕ
  pub parts : bytes ≡ header name ++ rest

-- the bytes begin with a header of some name
abbrev pub HasAnyHeader : List ℕ → Type 0
HasAnyHeader bytes = (name : List ℕ) × HasHeader name bytes

-- they begin as a header of this version does, which is not 1
abbrev pub HasOtherVersion : List ℕ → ℕ → Type 0
HasOtherVersion bytes version = (version < 2 ^ 16) × ¬ (version ≡ 1) × ((rest : List ℕ) × (bytes ≡ versioned version ++ rest))

-- why bytes have no header that is read
abbrev pub IsUnheaded : List ℕ → HeaderFault → Type 0
IsUnheaded bytes NoHeader = ¬ HasAnyHeader bytes × ((version : ℕ) → ¬ HasOtherVersion bytes version)
IsUnheaded bytes (OtherVersion version) = HasOtherVersion bytes version

-- what a fault of a header says
abbrev pub header_text : HeaderFault → List ℕ
header_text NoHeader = codes "there is no type header"
header_text (OtherVersion version) = codes "the type header has version " ++ (decimal version ++ codes ", not 1")
