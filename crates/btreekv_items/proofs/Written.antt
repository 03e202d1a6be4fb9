-- Numbers that a text isn't.
use Rattle.std.proofs.Common.{refl, sym, subst, ap, ◌∙◌, arith}
use Rattle.std.specs.Fmt.{decimal, signed_decimal}
use Rattle.std.specs.Int.{Width}
use Rattle.std.specs.Prelude.{◌≡◌, ℕ, suc, ◌+◌, ◌<◌, ◌^◌, List, ◌∷◌, Option, Some, None, Result, Ok, IfNone, IfOk, ℤ, pos, negsuc, neg_ℤ, FitsSigned}
use Rattle.std.specs.Str.Parse.{ParsesSigned, ParsesUnsigned}
use Rattle.std.proofs.lemmas.Fmt.{decimal_is_IsNumeral_wide, parse-decimal_wide}
use Rattle.std.proofs.lemmas.Result.{Ok-from_Ok_iff}
use Rattle.std.proofs.lemmas.Str.Parse.{numerals_by_value, parse_signed_digits, parse_signed_minus, tells_digits}
use lib.Signed.{mag}

-- a text was parsed as no number, or as one that is written otherwise
abbrev pub IsUnwritten : {N E : Type 0} → (Result N E → Type 0) → (N → List ℕ) → List ℕ → Type 0
IsUnwritten {N} {E} Parses written bs = (r : Result N E) × Parses r × IfOk r (λ n. written n ≡ bs → ⊥)

-- then no number is written so
pub no_number : {E : Type 0} {Parses : Result ℕ E → Type 0} (k : ℕ) (bs : List ℕ) (o : Option ℕ) → 2 ^ k < 10 ^ 64
    → ((r : Result ℕ E) → Parses r → ParsesUnsigned k 10 bs r) → IfNone o (IsUnwritten Parses decimal bs)
    → IfNone o ((number : ℕ) → number < 2 ^ k → decimal number ≡ bs → ⊥)
no_number k bs (Some n) wide by h = tt
no_number {E} k bs None wide by h = λ number small same.
    let e : h.0 ≡ Ok number = parse-decimal_wide k number bs h.0 small (omega (arith, small, wide)) (sym same) (by h.0 h.1) in
    subst (λ (q : Result ℕ E). IfOk q (λ n. decimal n ≡ bs → ⊥)) e h.2 same

parse_signed : {E : Type 0} (w : Width) (z : ℤ) (bs : List ℕ) (r : Result ℤ E) → FitsSigned w z → mag z + 1 < 10 ^ 64 → bs ≡ signed_decimal z
    → ParsesSigned w 10 bs r → r ≡ Ok z
parse_signed w (pos n) bs r fits small is h =
    let k = decimal_is_IsNumeral_wide n (omega arith) in
    let read = parse_signed_digits (numerals_by_value _ tells_digits) w (decimal n) r (subst (λ l. ParsesSigned w 10 l r) is h) k.0.1 in
    Ok-from_Ok_iff r _ _ read (k.0.0, omega (arith, k.1, fits.sfits)) ∙ ap (λ m. Ok (pos m)) k.1
parse_signed w (negsuc n) bs r fits small is h =
    let k = decimal_is_IsNumeral_wide (suc n) (omega arith) in
    let read = parse_signed_minus (numerals_by_value _ tells_digits) w (45 ∷ decimal (suc n)) r (subst (λ l. ParsesSigned w 10 l r) is h) refl in
    Ok-from_Ok_iff r _ _ read (k.0.1, k.0.0, omega (arith, k.1, fits.sfits)) ∙ ap (λ m. Ok (neg_ℤ (pos m))) k.1

pub no_signed : {E : Type 0} {Parses : Result ℤ E → Type 0} (w : Width) (bs : List ℕ) (o : Option ℤ)
    → ((z : ℤ) → FitsSigned w z → mag z + 1 < 10 ^ 64) → ((r : Result ℤ E) → Parses r → ParsesSigned w 10 bs r)
    → IfNone o (IsUnwritten Parses signed_decimal bs) → IfNone o ((number : ℤ) → FitsSigned w number → signed_decimal number ≡ bs → ⊥)
no_signed w bs (Some n) wide by h = tt
no_signed {E} w bs None wide by h = λ number small same.
    let e : h.0 ≡ Ok number = parse_signed w number bs h.0 small (wide number small) (sym same) (by h.0 h.1) in
    subst (λ (q : Result ℤ E). IfOk q (λ n. signed_decimal n ≡ bs → ⊥)) e h.2 same
