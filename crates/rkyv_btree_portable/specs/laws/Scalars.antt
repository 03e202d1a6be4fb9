-- Archived numbers, truth values, characters and the empty value are lawful.
use Rattle.std.specs.Hash as fed
use Rattle.std.specs.Int.{w8, w16, w32, w64}
use Rattle.std.proofs.Common.{refl, arith}
use Rattle.rkyv_btree_portable.specs.Kind.{IsLawful}
use Rattle.rkyv_btree_portable.specs.Rounding.{one, two, four, eight}
use Rattle.rkyv_btree_portable.specs.Scalars.{number, signed, boolean, nothing, character, non_zero, u8_kind, u16_kind, u32_kind, u64_kind, i8_kind, i16_kind, i32_kind, i64_kind, bool_kind, unit_kind, char_kind, non_zero_kind}
use Rattle.rkyv_btree_portable.specs.laws.Plain.{plain_laws}

pub u8_laws : IsLawful u8_kind
u8_laws = plain_laws (number 1 fed.u8) one refl (omega arith)

pub u16_laws : IsLawful u16_kind
u16_laws = plain_laws (number 2 fed.u16) two refl (omega arith)

pub u32_laws : IsLawful u32_kind
u32_laws = plain_laws (number 4 fed.u32) four refl (omega arith)

pub u64_laws : IsLawful u64_kind
u64_laws = plain_laws (number 8 fed.u64) eight refl (omega arith)

pub i8_laws : IsLawful i8_kind
i8_laws = plain_laws (signed w8 fed.i8) one refl (omega arith)

pub i16_laws : IsLawful i16_kind
i16_laws = plain_laws (signed w16 fed.i16) two refl (omega arith)

pub i32_laws : IsLawful i32_kind
i32_laws = plain_laws (signed w32 fed.i32) four refl (omega arith)

pub i64_laws : IsLawful i64_kind
i64_laws = plain_laws (signed w64 fed.i64) eight refl (omega arith)

pub bool_laws : IsLawful bool_kind
bool_laws = plain_laws boolean one refl (omega arith)

pub unit_laws : IsLawful unit_kind
unit_laws = plain_laws nothing one refl (omega arith)

pub char_laws : IsLawful char_kind
char_laws = plain_laws character four refl (omega arith)

pub non_zero_laws : IsLawful non_zero_kind
non_zero_laws = plain_laws non_zero four refl (omega arith)
