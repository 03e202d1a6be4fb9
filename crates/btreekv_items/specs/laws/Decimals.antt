-- Different numbers are different in decimal.
use Rattle.std.specs.Fmt.{decimal, signed_decimal}
use Rattle.std.specs.Prelude.{◌≡◌, ◌≢◌, ℕ, suc, ◌+◌, ◌<◌, ◌^◌, List, ◌∷◌, drop, ℤ, pos, negsuc}
use Rattle.std.specs.Str.Parse.{AllDigits, digits_value}
use Rattle.std.proofs.Common.{sym, ap, subst, ◌∙◌, arith}
use Rattle.std.proofs.lemmas.Fmt.{decimal_is_IsNumeral_wide}
use Rattle.std.proofs.lemmas.Str.Parse.{digit_from_value}
use lib.Signed.{mag}

pub decimal_apart : (m n : ℕ) → m < 10 ^ 64 → n < 10 ^ 64 → decimal m ≡ decimal n → m ≡ n
decimal_apart m n p q e = sym (decimal_is_IsNumeral_wide m p).1 ∙ ap (digits_value 10) e ∙ (decimal_is_IsNumeral_wide n q).1

-- a number begins with no minus sign
pub no_minus : (n : ℕ) (ds : List ℕ) → n < 10 ^ 64 → decimal n ≢ 45 ∷ ds
no_minus n ds h e = omega (arith, digit_from_value 45 (subst (AllDigits 10) e (decimal_is_IsNumeral_wide n h).0.1).0)

pub signed_apart : (y z : ℤ) → mag y + 1 < 10 ^ 64 → mag z + 1 < 10 ^ 64 → signed_decimal y ≡ signed_decimal z → y ≡ z
signed_apart (pos m) (pos n) p q e = ap pos (decimal_apart m n (omega arith) (omega arith) e)
signed_apart (pos m) (negsuc n) p q e = absurd (no_minus m _ (omega arith) e)
signed_apart (negsuc m) (pos n) p q e = absurd (no_minus n _ (omega arith) (sym e))
signed_apart (negsuc m) (negsuc n) p q e = ap negsuc (omega (arith, decimal_apart (suc m) (suc n) (omega arith) (omega arith) (ap (drop 1) e)))
