-- What numbers without a sign owe as items.
use Rattle.std.specs.Fmt.{decimal}
use Rattle.std.specs.Hash as fed
use Rattle.std.specs.Int.{Width, w8, w16, w32, w64, w128, byte_len}
use Rattle.std.specs.Ordering.{nat_cmp}
use Rattle.std.specs.Prelude.{◌≡◌, ℕ, ◌<◌, ◌^◌, List}
use Rattle.std.proofs.Common.{refl, sym, subst, arith}
use Rattle.btreekv_items.specs.Items.{IsSpelledApart, SameValues}
use Rattle.btreekv_items.specs.laws.Decimals.{decimal_apart}
use Rattle.btreekv_items.specs.laws.OwnBytes.{own_below}
use Rattle.rkyv_btree_portable.specs.Bytes.{bytes_at, from_le}
use Rattle.rkyv_btree_portable.specs.Natives.{unsigned_form}
use Rattle.rkyv_btree_portable.specs.Plain.{plain_kind}
use Rattle.rkyv_btree_portable.specs.Scalars.{number}
use Rattle.rkyv_btree_writer.specs.Archiving.{itself, native_archival}

-- numbers of a width that has fewer than 64 digits are written apart
abbrev pub UnsignedApart : ℕ → Type 0
UnsignedApart k = IsSpelledApart (λ (n : ℕ). n < 2 ^ k) (λ style n. decimal n)

-- they are the values of their kind
abbrev pub UnsignedSame : Width → (ℕ → List (List ℕ)) → ℕ → Type 0
UnsignedSame width hash_input k =
    SameValues (native_archival (unsigned_form width hash_input)) (plain_kind (number (byte_len width) hash_input)) (λ n. n < 2 ^ k) nat_cmp
    (plain_kind (number (byte_len width) hash_input)).read (λ n. n) nat_cmp

pub unsigned_apart : (k : ℕ) → 2 ^ k < 10 ^ 64 → UnsignedApart k
unsigned_apart k few style x y small small2 e = decimal_apart x y (omega (arith, few, small)) (omega (arith, few, small2)) e

pub unsigned_same : (width : Width) (hash_input : ℕ → List (List ℕ)) (k : ℕ) → 256 ^ byte_len width ≡ 2 ^ k → UnsignedSame width hash_input k
unsigned_same width hash_input k all = record {
  same = itself (plain_kind (number (byte_len width) hash_input));
  to = λ v. v;
  from = λ v. v;
  from_to = λ v. refl;
  to_from = λ v. refl;
  read = λ b at. refl;
  meant = λ b lo hi at left v bytes m. subst (λ n. n < 2 ^ k) (sym m.value) (subst (λ top. from_le (bytes_at b at (byte_len width)) < top) all (own_below b at (byte_len width) m.lies.inside bytes));
  native = λ x. refl;
  ordered = λ v w. refl;
  natively = λ x y. refl;
}

pub u8_apart : UnsignedApart 8
u8_apart = unsigned_apart 8 (omega arith)

pub u8_same : UnsignedSame w8 fed.u8 8
u8_same = unsigned_same w8 fed.u8 8 refl

pub u16_apart : UnsignedApart 16
u16_apart = unsigned_apart 16 (omega arith)

pub u16_same : UnsignedSame w16 fed.u16 16
u16_same = unsigned_same w16 fed.u16 16 refl

pub u32_apart : UnsignedApart 32
u32_apart = unsigned_apart 32 (omega arith)

pub u32_same : UnsignedSame w32 fed.u32 32
u32_same = unsigned_same w32 fed.u32 32 refl

pub u64_apart : UnsignedApart 64
u64_apart = unsigned_apart 64 (omega arith)

pub u64_same : UnsignedSame w64 fed.u64 64
u64_same = unsigned_same w64 fed.u64 64 refl

pub u128_apart : UnsignedApart 128
u128_apart = unsigned_apart 128 (omega arith)

pub u128_same : UnsignedSame w128 fed.u128 128
u128_same = unsigned_same w128 fed.u128 128 refl
