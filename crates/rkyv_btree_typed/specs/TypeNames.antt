-- The names of archived types.
use Rattle.std.specs.Prelude.{◌≢◌, ℕ, ◌<◌, ◌^◌, List, ◌++◌, codes, decimal}
use Rattle.std.specs.List.{All}

-- an archived type: an option has the type of its value, a vector that of its elements, a map the types of its keys and values and
-- its entries a node, and one's own type the name that it states
pub data TypeTerm : Type 0 where
  u8 : TypeTerm
  u16 : TypeTerm
  u32 : TypeTerm
  u64 : TypeTerm
  i8 : TypeTerm
  i16 : TypeTerm
  i32 : TypeTerm
  i64 : TypeTerm
  bool : TypeTerm
  char : TypeTerm
  non_zero_u32 : TypeTerm
  non_zero_u8 : TypeTerm
  non_zero_u16 : TypeTerm
  non_zero_u64 : TypeTerm
  non_zero_i8 : TypeTerm
  non_zero_i16 : TypeTerm
  non_zero_i32 : TypeTerm
  non_zero_i64 : TypeTerm
  u128 : TypeTerm
  i128 : TypeTerm
  non_zero_u128 : TypeTerm
  non_zero_i128 : TypeTerm
  f32 : TypeTerm
  f64 : TypeTerm
  unit_type : TypeTerm
  text : TypeTerm
  byte_string : TypeTerm
  own : List ℕ → TypeTerm
  option : TypeTerm → TypeTerm
  vector : TypeTerm → TypeTerm
  pair : TypeTerm → TypeTerm → TypeTerm
  triple : TypeTerm → TypeTerm → TypeTerm → TypeTerm
  array : TypeTerm → ℕ → TypeTerm
  quadruple : TypeTerm → TypeTerm → TypeTerm → TypeTerm → TypeTerm
  quintuple : TypeTerm → TypeTerm → TypeTerm → TypeTerm → TypeTerm → TypeTerm
  sextuple : TypeTerm → TypeTerm → TypeTerm → TypeTerm → TypeTerm → TypeTerm → TypeTerm
  set : TypeTerm → ℕ → TypeTerm
  map : TypeTerm → TypeTerm → ℕ → TypeTerm

-- its name, in UTF-8
abbrev pub name_of : TypeTerm → List ℕ
name_of u8 = codes "u8"
name_of u16 = codes "u16"
name_of u32 = codes "u32"
name_of u64 = codes "u64"
name_of i8 = codes "i8"
name_of i16 = codes "i16"
name_of i32 = codes "i32"
name_of i64 = codes "i64"
name_of bool = codes "bool"
name_of char = codes "char"
name_of non_zero_u32 = codes "NonZeroU32"
name_of non_zero_u8 = codes "NonZeroU8"
name_of non_zero_u16 = codes "NonZeroU16"
name_of non_zero_u64 = codes "NonZeroU64"
name_of non_zero_i8 = codes "NonZeroI8"
name_of non_zero_i16 = codes "NonZeroI16"
name_of non_zero_i32 = codes "NonZeroI32"
name_of non_zero_i64 = codes "NonZeroI64"
name_of u128 = codes "u128"
name_of i128 = codes "i128"
name_of non_zero_u128 = codes "NonZeroU128"
name_of non_zero_i128 = codes "NonZeroI128"
name_of f32 = codes "f32"
name_of f64 = codes "f64"
name_of unit_type = codes "()"
name_of text = codes "text"
name_of byte_string = codes "bytes"
name_of (own name) = codes "<" ++ (name ++ codes ">")
name_of (option value) = codes "option(" ++ (name_of value ++ codes ")")
name_of (vector element) = codes "vec(" ++ (name_of element ++ codes ")")
name_of (pair first second) = codes "(" ++ (name_of first ++ (codes ", " ++ (name_of second ++ codes ")")))
name_of (triple first second third) = codes "(" ++ (name_of first ++ (codes ", " ++ (name_of second ++ (codes ", " ++ (name_of third ++ codes ")")))))
name_of (array element count) = codes "[" ++ (name_of element ++ (codes "; " ++ (decimal count ++ codes "]")))
name_of (quadruple first second third fourth) = codes "(" ++ (name_of first ++ (codes ", " ++ (name_of second ++ (codes ", " ++ (name_of third ++ (codes ", " ++ (name_of fourth ++ codes ")")))))))
name_of (quintuple first second third fourth fifth) = codes "(" ++ (name_of first ++ (codes ", " ++ (name_of second ++ (codes ", " ++ (name_of third ++ (codes ", " ++ (name_of fourth ++ (codes ", " ++ (name_of fifth ++ codes ")")))))))))
name_of (sextuple first second third fourth fifth sixth) = codes "(" ++ (name_of first ++ (codes ", " ++ (name_of second ++ (codes ", " ++ (name_of third ++ (codes ", " ++ (name_of fourth ++ (codes ", " ++ (name_of fifth ++ (codes ", " ++ (name_of sixth ++ codes ")")))))))))))
name_of (set key entries) = codes "[" ++ (name_of key ++ (codes " / " ++ (decimal entries ++ codes "]")))
name_of (map key value entries) = codes "[" ++ (name_of key ++ (codes " -> " ++ (name_of value ++ (codes " / " ++ (decimal entries ++ codes "]")))))

-- the entries a node are a number of 64 bits, and a stated name has no `>`
abbrev pub IsNameable : TypeTerm → Type 0
IsNameable (own name) = All (λ byte. byte ≢ 62) name
IsNameable (option value) = IsNameable value
IsNameable (vector element) = IsNameable element
IsNameable (pair first second) = IsNameable first × IsNameable second
IsNameable (triple first second third) = IsNameable first × IsNameable second × IsNameable third
IsNameable (array element count) = IsNameable element × (count < 2 ^ 64)
IsNameable (quadruple first second third fourth) = IsNameable first × IsNameable second × IsNameable third × IsNameable fourth
IsNameable (quintuple first second third fourth fifth) = IsNameable first × IsNameable second × IsNameable third × IsNameable fourth × IsNameable fifth
IsNameable (sextuple first second third fourth fifth sixth) = IsNameable first × IsNameable second × IsNameable third × IsNameable fourth × IsNameable fifth × IsNameable sixth
IsNameable (set key entries) = IsNameable key × (entries < 2 ^ 64)
IsNameable (map key value entries) = IsNameable key × IsNameable value × (entries < 2 ^ 64)
IsNameable t = Unit {0}
