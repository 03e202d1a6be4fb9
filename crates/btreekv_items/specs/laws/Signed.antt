-- What numbers with a sign owe as items.
use Rattle.std.specs.Fmt.{signed_decimal}
use Rattle.std.specs.Hash as fed
use Rattle.std.specs.Int.{Width, w8, w16, w32, w64, w128, byte_len}
use Rattle.std.specs.Ordering.{int_cmp}
use Rattle.std.specs.Prelude.{◌≡◌, ℕ, ◌+◌, suc, ◌-◌, ◌<◌, ◌^◌, ltb, Bool, true, false, List, ℤ, pos, negsuc, FitsSigned}
use Rattle.std.proofs.Common.{refl, sym, subst, arith}
use Rattle.std.proofs.lemmas.Bool.{ltb-false, ltb-true}
use Rattle.btreekv_items.specs.Items.{IsSpelledApart, SameValues}
use Rattle.btreekv_items.specs.laws.Decimals.{signed_apart}
use Rattle.btreekv_items.specs.laws.OwnBytes.{own_below}
use Rattle.rkyv_btree_portable.specs.Bytes.{bytes_at, from_le}
use Rattle.rkyv_btree_portable.specs.Natives.{signed_form}
use Rattle.rkyv_btree_portable.specs.Plain.{plain_kind}
use Rattle.rkyv_btree_portable.specs.Scalars.{signed}
use Rattle.rkyv_btree_writer.specs.Archiving.{itself, native_archival}
use lib.Signed.{mag}
use mir.Val.{bits, hbits, sel}

-- numbers of a width that has fewer than 64 digits are written apart
abbrev pub SignedApart : Width → Type 0
SignedApart width = IsSpelledApart (FitsSigned width) (λ style z. signed_decimal z)

-- they are the values of their kind
abbrev pub SignedSame : Width → (ℤ → List (List ℕ)) → Type 0
SignedSame width hash_input =
    SameValues (native_archival (signed_form width hash_input)) (plain_kind (signed width hash_input)) (FitsSigned width) int_cmp
    (plain_kind (signed width hash_input)).read (λ z. z) int_cmp

pub signed_spelled : (width : Width) → ((z : ℤ) → FitsSigned width z → mag z + 1 < 10 ^ 64) → SignedApart width
signed_spelled width few style x y fits fits2 e = signed_apart x y (few x fits) (few y fits2) e

-- what bits are read as has so many
chosen : (width : Width) (n : ℕ) (b : Bool) → ltb n (2 ^ hbits width) ≡ b → n < 2 ^ bits width → 2 ^ bits width ≡ 2 ^ hbits width + 2 ^ hbits width
    → FitsSigned width (sel b (pos n) (negsuc (2 ^ bits width - suc n)))
chosen width n true test small twice = record { sfits = ltb-true n (2 ^ hbits width) test }
chosen width n false test small twice = record { sfits = let past = ltb-false n (2 ^ hbits width) test in omega (arith, past, small, twice) }

pub signed_same : (width : Width) (hash_input : ℤ → List (List ℕ)) → 256 ^ byte_len width ≡ 2 ^ bits width → 2 ^ bits width ≡ 2 ^ hbits width + 2 ^ hbits width
    → SignedSame width hash_input
signed_same width hash_input all twice = record {
  same = itself (plain_kind (signed width hash_input));
  to = λ v. v;
  from = λ v. v;
  from_to = λ v. refl;
  to_from = λ v. refl;
  read = λ b at. refl;
  meant = λ b lo hi at left v bytes m. subst (FitsSigned width) (sym m.value)
      (chosen width (from_le (bytes_at b at (byte_len width))) _ refl (subst (λ top. from_le (bytes_at b at (byte_len width)) < top) all (own_below b at (byte_len width) m.lies.inside bytes)) twice);
  native = λ x. refl;
  ordered = λ v w. refl;
  natively = λ x y. refl;
}

pub i8_apart : SignedApart w8
i8_apart = signed_spelled w8 (λ z fits. omega (arith, fits.sfits))

pub i8_same : SignedSame w8 fed.i8
i8_same = signed_same w8 fed.i8 refl refl

pub i16_apart : SignedApart w16
i16_apart = signed_spelled w16 (λ z fits. omega (arith, fits.sfits))

pub i16_same : SignedSame w16 fed.i16
i16_same = signed_same w16 fed.i16 refl refl

pub i32_apart : SignedApart w32
i32_apart = signed_spelled w32 (λ z fits. omega (arith, fits.sfits))

pub i32_same : SignedSame w32 fed.i32
i32_same = signed_same w32 fed.i32 refl refl

pub i64_apart : SignedApart w64
i64_apart = signed_spelled w64 (λ z fits. omega (arith, fits.sfits))

pub i64_same : SignedSame w64 fed.i64
i64_same = signed_same w64 fed.i64 refl refl

pub i128_apart : SignedApart w128
i128_apart = signed_spelled w128 (λ z fits. omega (arith, fits.sfits))

pub i128_same : SignedSame w128 fed.i128
i128_same = signed_same w128 fed.i128 refl refl
