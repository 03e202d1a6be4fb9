-- An account in sixteen bytes: the cents, the flags, the branch, and two bytes of padding, which are zeros.
use Rattle.std.specs.Prelude.{◌<◌, ◌^◌, ◌∷◌, ◌++◌, [], ◌&&◌, nat_eq, refl, slice_index}
use Rattle.std.specs.Int.{to_le_bytes, w16, w32, w64}
use Rattle.std.proofs.Common.{arith}
use Rattle.rkyv_btree_base.specs.Bytes.{bytes_at, from_le}
use Rattle.rkyv_btree_base.specs.Rounding.{eight}
use Rattle.rkyv_btree.specs.PlainValues.{PlainLayout, IsPlainLayout}
use Rattle.callers.specs.declared.accounts.Account.{Account}

abbrev pub account_layout : PlainLayout Account
account_layout = record {
  size = 16;
  align = 8;
  is_value = λ bytes. nat_eq (slice_index bytes 14) 0 && nat_eq (slice_index bytes 15) 0;
  value = λ bytes. record {
    cents = from_le (bytes_at bytes 0 8);
    flags = from_le (bytes_at bytes 8 4);
    branch = from_le (bytes_at bytes 12 2);
  };
  bytes = λ a. to_le_bytes w64 a.cents ++ to_le_bytes w32 a.flags ++ to_le_bytes w16 a.branch ++ 0 ∷ 0 ∷ [];
  IsIn = λ a. (a.cents < 2 ^ 64) × (a.flags < 2 ^ 32) × (a.branch < 2 ^ 16);
}

-- the bytes of an account say that account
pub account_lawful : IsPlainLayout account_layout
account_lawful = record { alignment = eight; whole = refl; small = omega arith; many = λ a. refl; valid = λ a. refl; back = λ a in_range. grind arith }
