-- Digits at the front of a list.
use Rattle.std.proofs.Common.{◌≡◌, ℕ, zero, suc, ◌+◌, ◌*◌, ◌-◌, ◌<◌, ◌≤◌, ◌^◌, List, [], ◌∷◌, ◌++◌, length, take, drop, get_or, refl, ap, sym, subst, ◌∙◌, arith, rules, Option, Some, None, IfNone}
use Rattle.std.proofs.lemmas.Str.Parse.{IsNumeralModel, numerals_by_fold, digits_value_short}
use Rattle.std.proofs.lemmas.List.{append-nil, take_more, take-append-drop, take_rest}
use Rattle.std.proofs.lemmas.Grind.{common_steps}
use Rattle.btreearc_lines.specs.Grammar.{IsDigit, AreDigits, IsNumber, value_after}
use Rattle.btreearc_lines.specs.Reading.{NoDigitFirst, NumberFirst, ReadDigits}

pub own : IsNumeralModel AreDigits (value_after 0)
own = numerals_by_fold _ (search rules) value_after (search rules)

digits-snoc : (ds : List ℕ) (c : ℕ) → AreDigits ds → IsDigit c → AreDigits (ds ++ c ∷ [])
digits-snoc [] c h d = (d, tt)
digits-snoc (x ∷ xs) c h d = (h.0, digits-snoc xs c h.1 d)

value-snoc : (n : ℕ) (ds : List ℕ) (c : ℕ) → value_after n (ds ++ c ∷ []) ≡ value_after n ds * 10 + (c - 48)
value-snoc n [] c = refl
value-snoc n (x ∷ xs) c = value-snoc (n * 10 + (x - 48)) xs c

taken : (bytes : List ℕ) (len : ℕ) → len ≤ length bytes → length (take len bytes) ≡ len
taken bytes len h = grind (arith, common_steps)

pub read-bound : (bytes : List ℕ) (len value : ℕ) → ReadDigits bytes len value → value < 10000000000
read-bound bytes len value r =
    let few : length (take len bytes) ≤ 10 = omega (arith, taken bytes len r.within, r.few) in
    let bound : value_after 0 (take len bytes) < 10 ^ 10 = digits_value_short own (take len bytes) 10 r.digits few in
    rw r.value_is at bound

pub short-bound : (bytes : List ℕ) (len value : ℕ) → ReadDigits bytes len value → len < 10 → value < 4294967296
short-bound bytes len value r short =
    let few : length (take len bytes) ≤ 9 = omega (arith, taken bytes len r.within, short) in
    let bound : value_after 0 (take len bytes) < 10 ^ 9 = digits_value_short own (take len bytes) 9 r.digits few in
    omega (arith, r.value_is, bound)

pub read-more : (bytes : List ℕ) (len value : ℕ) → ReadDigits bytes len value → len < length bytes → IsDigit (get_or bytes len 0) → len < 10 → ReadDigits bytes (len + 1) (value * 10 + (get_or bytes len 0 - 48))
read-more bytes len value r lt d few = record {
  within = omega arith;
  few = omega arith;
  digits = subst AreDigits (sym (take_more bytes len 0 lt)) (digits-snoc (take len bytes) (get_or bytes len 0) r.digits d);
  value_is = ap (value_after 0) (take_more bytes len 0 lt) ∙ (value-snoc 0 (take len bytes) (get_or bytes len 0) ∙ ap (λ (v : ℕ). v * 10 + (get_or bytes len 0 - 48)) r.value_is);
}

-- digits that end where no digit stands are the same, however they are found
pub same_front : (a b x y : List ℕ) → AreDigits a → AreDigits b → NoDigitFirst x → NoDigitFirst y → a ++ x ≡ b ++ y → (a ≡ b) × (x ≡ y)
same_front [] [] x y da db nx ny e = (refl, e)
same_front [] (c ∷ cs) [] y da db nx ny e = absurd (grind (arith, e))
same_front [] (c ∷ cs) (d ∷ ds) y da db nx ny e = absurd (nx (let h : d ≡ c = cc in rw h db.0))
same_front (c ∷ cs) [] x [] da db nx ny e = absurd (grind (arith, e))
same_front (c ∷ cs) [] x (d ∷ ds) da db nx ny e = absurd (ny (let h : d ≡ c = cc in rw h da.0))
same_front (c ∷ cs) (d ∷ ds) x y da db nx ny e =
    let head : c ≡ d = cc in
    let tail : cs ++ x ≡ ds ++ y = cc in
    let r = same_front cs ds x y da.1 db.1 nx ny tail in
    let front : cs ≡ ds = r.0 in
    (cc, r.1)

-- digits at the front reach no further than those that end where no digit stands
no_further : (a b x y : List ℕ) → AreDigits a → AreDigits b → NoDigitFirst y → a ++ x ≡ b ++ y → length a ≤ length b
no_further [] b x y da db ny e = omega arith
no_further (c ∷ cs) [] x [] da db ny e = absurd (grind (arith, e))
no_further (c ∷ cs) [] x (d ∷ ds) da db ny e = absurd (ny (let h : d ≡ c = cc in rw h da.0))
no_further (c ∷ cs) (d ∷ ds) x y da db ny e =
    let tail : cs ++ x ≡ ds ++ y = cc in
    omega (arith, no_further cs ds x y da.1 db.1 ny tail)

ends-drop : (bytes : List ℕ) (len : ℕ) → (IsDigit (get_or bytes len 0) → ⊥) → NoDigitFirst (drop len bytes)
ends-drop [] zero h = tt
ends-drop [] (suc n) h = tt
ends-drop (c ∷ cs) zero h = h
ends-drop (c ∷ cs) (suc n) h = ends-drop cs n h

-- the digits that were read are the number's
same_digits : (bytes : List ℕ) (len value n : ℕ) (rest : List ℕ) → ReadDigits bytes len value → (IsDigit (get_or bytes len 0) → ⊥) → (p : NumberFirst bytes n rest) → take len bytes ≡ p.digits
same_digits bytes len value n rest r ends p = (same_front (take len bytes) p.digits (drop len bytes) rest r.digits p.is.digits (ends-drop bytes len ends) p.ends (take-append-drop len bytes ∙ p.spelled)).0

pub number_read : (bytes : List ℕ) (len value : ℕ) → ReadDigits bytes len value → (IsDigit (get_or bytes len 0) → ⊥) → 1 ≤ len → value < 4294967296 → NumberFirst bytes value (take (length bytes - len) (drop len bytes))
number_read bytes len value r ends some fits =
    let found : NumberFirst bytes value (drop len bytes) = record {
      digits = take len bytes;
      spelled = sym (take-append-drop len bytes);
      is = record { digits = r.digits; some = omega (arith, taken bytes len r.within, some); few = omega (arith, taken bytes len r.within, r.few); value = r.value_is; fits = fits };
      ends = ends-drop bytes len ends;
    } in
    subst (NumberFirst bytes value) (sym (take_rest bytes len)) found

pub too_great : (bytes : List ℕ) (len value n : ℕ) (rest : List ℕ) → ReadDigits bytes len value → (IsDigit (get_or bytes len 0) → ⊥) → 4294967295 < value → NumberFirst bytes n rest → ⊥
too_great bytes len value n rest r ends much p =
    let e : value_after 0 (take len bytes) ≡ value_after 0 p.digits = ap (value_after 0) (same_digits bytes len value n rest r ends p) in
    omega (arith, p.is.fits, p.is.value, r.value_is)

-- a digit stands before the end
digit_within : (bytes : List ℕ) (len : ℕ) → IsDigit (get_or bytes len 0) → len < length bytes
digit_within [] len d = absurd (omega (arith, d.0))
digit_within (c ∷ cs) zero d = omega arith
digit_within (c ∷ cs) (suc n) d = omega (arith, digit_within cs n d)

pub too_many : (bytes : List ℕ) (len value n : ℕ) (rest : List ℕ) → ReadDigits bytes len value → 10 ≤ len → IsDigit (get_or bytes len 0) → NumberFirst bytes n rest → ⊥
too_many bytes len value n rest r many d p =
    let more : len < length bytes = digit_within bytes len d in
    let digits : AreDigits (take (len + 1) bytes) = subst AreDigits (sym (take_more bytes len 0 more)) (digits-snoc (take len bytes) (get_or bytes len 0) r.digits d) in
    let far = no_further (take (len + 1) bytes) p.digits (drop (len + 1) bytes) rest digits p.is.digits p.ends (take-append-drop (len + 1) bytes ∙ p.spelled) in
    omega (arith, far, taken bytes (len + 1) (omega (arith, more)), p.is.few, many)

-- a number is found in one way
pub number_once : (bytes : List ℕ) (n m : ℕ) (x y : List ℕ) → NumberFirst bytes n x → NumberFirst bytes m y → (n ≡ m) × (x ≡ y)
number_once bytes n m x y p q =
    let s = same_front p.digits q.digits x y p.is.digits q.is.digits p.ends q.ends (sym p.spelled ∙ q.spelled) in
    (sym p.is.value ∙ (ap (value_after 0) s.0 ∙ q.is.value), s.1)

-- a number by itself is at the front, with nothing after it
pub whole_first : (bytes : List ℕ) (n : ℕ) → IsNumber bytes n → NumberFirst bytes n []
whole_first bytes n is = record { digits = bytes; spelled = sym (append-nil bytes); is = is; ends = tt }

pub if_none : {A P : Type 0} (o : Option A) → P → IfNone o P
if_none None p = p
if_none (Some x) p = tt
