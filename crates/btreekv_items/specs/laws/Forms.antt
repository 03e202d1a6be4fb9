-- Which texts are never empty, and which have no comma.
use Rattle.std.specs.Char.{IsScalar, encode_utf8}
use Rattle.std.specs.Fmt.{decimal, signed_decimal}
use Rattle.std.specs.Int.{Width, w8, w16, w32, w64, w128}
use Rattle.std.specs.List.{list_all}
use Rattle.std.specs.Prelude.{◌≡◌, ◌≢◌, not, nat_eq, ℕ, suc, ◌+◌, ◌<◌, ◌^◌, Bool, true, false, List, [], ◌∷◌, ◌++◌, length, ℤ, pos, negsuc, FitsSigned}
use Rattle.std.specs.Str.Parse.{AllDigits}
use Rattle.std.proofs.Common.{refl, ap, subst, arith, rules}
use Rattle.std.proofs.lemmas.Bool.{and_parts}
use Rattle.std.proofs.lemmas.Fmt.{decimal_is_IsNumeral_wide}
use Rattle.std.proofs.lemmas.List.Elements.{All-cons, All-nil}
use Rattle.std.proofs.lemmas.Str.{len_utf8_bounds, length-encode}
use Rattle.std.proofs.lemmas.Str.Parse.{digit_from_value}
use Rattle.btreekv_items.specs.Optional.{IsNeverEmpty}
use Rattle.btreekv_items.specs.Pairs.{HasNoComma, IsPairOf, IsWithoutComma, pair_text}
use Rattle.btreekv_items.specs.Words.{bool_text}
use Rattle.btreekv_items.specs.declared.item.BytesStyle.{BytesStyle}
use lib.Signed.{mag}

digits_no_comma : (ds : List ℕ) → AllDigits 10 ds → HasNoComma ds
digits_no_comma [] digits = All-nil (λ byte. byte ≢ 44)
digits_no_comma (c ∷ cs) digits =
    All-cons (λ byte. byte ≢ 44) c cs (λ comma. let in_range = digit_from_value c digits.0 in omega (arith, in_range, comma)) (digits_no_comma cs digits.1)

decimal_no_comma : (n : ℕ) → n < 10 ^ 64 → HasNoComma (decimal n)
decimal_no_comma n few = digits_no_comma (decimal n) (decimal_is_IsNumeral_wide n few).0.1

decimal_some : (n : ℕ) → n < 10 ^ 64 → decimal n ≢ []
decimal_some n few none = let long = (decimal_is_IsNumeral_wide n few).0.0 in omega (arith, long, ap length none)

unsigned_some : (k : ℕ) → 2 ^ k < 10 ^ 64 → IsNeverEmpty (λ (n : ℕ). n < 2 ^ k) (λ style n. decimal n)
unsigned_some k few style n small = decimal_some n (omega (arith, few, small))

unsigned_no_comma : (k : ℕ) → 2 ^ k < 10 ^ 64 → IsWithoutComma (λ (n : ℕ). n < 2 ^ k) (λ style n. decimal n)
unsigned_no_comma k few style n small = decimal_no_comma n (omega (arith, few, small))

spelled_some : (z : ℤ) → mag z + 1 < 10 ^ 64 → signed_decimal z ≢ []
spelled_some (pos n) few none = decimal_some n (omega arith) none
spelled_some (negsuc n) few none = omega (arith, ap length none)

spelled_no_comma : (z : ℤ) → mag z + 1 < 10 ^ 64 → HasNoComma (signed_decimal z)
spelled_no_comma (pos n) few = decimal_no_comma n (omega arith)
spelled_no_comma (negsuc n) few = All-cons (λ byte. byte ≢ 44) 45 (decimal (suc n)) (λ comma. omega arith) (decimal_no_comma (suc n) (omega arith))

signed_some : (width : Width) → ((z : ℤ) → FitsSigned width z → mag z + 1 < 10 ^ 64) → IsNeverEmpty (FitsSigned width) (λ style z. signed_decimal z)
signed_some width few style z fits = spelled_some z (few z fits)

signed_no_comma : (width : Width) → ((z : ℤ) → FitsSigned width z → mag z + 1 < 10 ^ 64) → IsWithoutComma (FitsSigned width) (λ style z. signed_decimal z)
signed_no_comma width few style z fits = spelled_no_comma z (few z fits)

pub bool_some : IsNeverEmpty (λ (value : Bool). Unit {0}) (λ style value. bool_text value)
bool_some style true is none = omega (arith, ap length none)
bool_some style false is none = omega (arith, ap length none)

ne_test : (c : ℕ) → not (nat_eq c 44) ≡ true → c ≢ 44
ne_test c passes same = let h : not (nat_eq 44 44) ≡ true = subst (λ d. not (nat_eq d 44) ≡ true) same passes in search (rules, h)

tested : (bs : List ℕ) → list_all (λ byte. not (nat_eq byte 44)) bs ≡ true → HasNoComma bs
tested [] passes = All-nil (λ byte. byte ≢ 44)
tested (c ∷ cs) passes =
    let both = and_parts (not (nat_eq c 44)) (list_all (λ byte. not (nat_eq byte 44)) cs) passes in
    All-cons (λ byte. byte ≢ 44) c cs (ne_test c both.0) (tested cs both.1)

pub bool_no_comma : IsWithoutComma (λ (value : Bool). Unit {0}) (λ style value. bool_text value)
bool_no_comma style true is = tested (bool_text true) refl
bool_no_comma style false is = tested (bool_text false) refl

pub char_some : IsNeverEmpty IsScalar (λ style character. encode_utf8 character)
char_some style c is none = let long = length-encode c in let bounds = len_utf8_bounds c in omega (arith, long, bounds, ap length none)

after_comma : (xs ys : List ℕ) → xs ++ 44 ∷ ys ≢ []
after_comma [] ys none = omega (arith, ap length none)
after_comma (x ∷ xs) ys none = omega (arith, ap length none)

pub pair_some : {A B : Type 0} (IsFirst : A → Type 0) (IsSecond : B → Type 0) (first : BytesStyle → A → List ℕ) (second : BytesStyle → B → List ℕ)
    → IsNeverEmpty (IsPairOf IsFirst IsSecond) (pair_text first second)
pair_some IsFirst IsSecond first second style x is = after_comma (first style x.0) (second style x.1)

pub u8_some : IsNeverEmpty (λ (n : ℕ). n < 2 ^ 8) (λ style n. decimal n)
u8_some = unsigned_some 8 (omega arith)

pub u8_no_comma : IsWithoutComma (λ (n : ℕ). n < 2 ^ 8) (λ style n. decimal n)
u8_no_comma = unsigned_no_comma 8 (omega arith)

pub u16_some : IsNeverEmpty (λ (n : ℕ). n < 2 ^ 16) (λ style n. decimal n)
u16_some = unsigned_some 16 (omega arith)

pub u16_no_comma : IsWithoutComma (λ (n : ℕ). n < 2 ^ 16) (λ style n. decimal n)
u16_no_comma = unsigned_no_comma 16 (omega arith)

pub u32_some : IsNeverEmpty (λ (n : ℕ). n < 2 ^ 32) (λ style n. decimal n)
u32_some = unsigned_some 32 (omega arith)

pub u32_no_comma : IsWithoutComma (λ (n : ℕ). n < 2 ^ 32) (λ style n. decimal n)
u32_no_comma = unsigned_no_comma 32 (omega arith)

pub u64_some : IsNeverEmpty (λ (n : ℕ). n < 2 ^ 64) (λ style n. decimal n)
u64_some = unsigned_some 64 (omega arith)

pub u64_no_comma : IsWithoutComma (λ (n : ℕ). n < 2 ^ 64) (λ style n. decimal n)
u64_no_comma = unsigned_no_comma 64 (omega arith)

pub u128_some : IsNeverEmpty (λ (n : ℕ). n < 2 ^ 128) (λ style n. decimal n)
u128_some = unsigned_some 128 (omega arith)

pub u128_no_comma : IsWithoutComma (λ (n : ℕ). n < 2 ^ 128) (λ style n. decimal n)
u128_no_comma = unsigned_no_comma 128 (omega arith)

pub i8_some : IsNeverEmpty (FitsSigned w8) (λ style z. signed_decimal z)
i8_some = signed_some w8 (λ z fits. omega (arith, fits.sfits))

pub i8_no_comma : IsWithoutComma (FitsSigned w8) (λ style z. signed_decimal z)
i8_no_comma = signed_no_comma w8 (λ z fits. omega (arith, fits.sfits))

pub i16_some : IsNeverEmpty (FitsSigned w16) (λ style z. signed_decimal z)
i16_some = signed_some w16 (λ z fits. omega (arith, fits.sfits))

pub i16_no_comma : IsWithoutComma (FitsSigned w16) (λ style z. signed_decimal z)
i16_no_comma = signed_no_comma w16 (λ z fits. omega (arith, fits.sfits))

pub i32_some : IsNeverEmpty (FitsSigned w32) (λ style z. signed_decimal z)
i32_some = signed_some w32 (λ z fits. omega (arith, fits.sfits))

pub i32_no_comma : IsWithoutComma (FitsSigned w32) (λ style z. signed_decimal z)
i32_no_comma = signed_no_comma w32 (λ z fits. omega (arith, fits.sfits))

pub i64_some : IsNeverEmpty (FitsSigned w64) (λ style z. signed_decimal z)
i64_some = signed_some w64 (λ z fits. omega (arith, fits.sfits))

pub i64_no_comma : IsWithoutComma (FitsSigned w64) (λ style z. signed_decimal z)
i64_no_comma = signed_no_comma w64 (λ z fits. omega (arith, fits.sfits))

pub i128_some : IsNeverEmpty (FitsSigned w128) (λ style z. signed_decimal z)
i128_some = signed_some w128 (λ z fits. omega (arith, fits.sfits))

pub i128_no_comma : IsWithoutComma (FitsSigned w128) (λ style z. signed_decimal z)
i128_no_comma = signed_no_comma w128 (λ z fits. omega (arith, fits.sfits))
