-- Escapes are read from their first byte on.
use Rattle.std.proofs.Common.{◌≡◌, ◌≢◌, ℕ, ◌<◌, List, [], ◌∷◌, ◌++◌, Option, Some, None, length, refl, sym, ap, ◌∙◌, append_assoc, arith}
use Rattle.btreekv_commands.specs.Escapes.{escape, escape_byte, escape_letter, lettered}

letter_same : (b c l : ℕ) → escape_letter b ≡ Some l → escape_letter c ≡ Some l → b ≡ c
letter_same b c l e f = grind (arith, e, f)

unlettered : (c : ℕ) → 92 ≡ c → escape_letter c ≡ None → ⊥
unlettered c e f = grind (arith, e, f)

first_by : (o p : Option ℕ) (b c : ℕ) (xs ys : List ℕ) → escape_letter b ≡ o → escape_letter c ≡ p → lettered o b ++ xs ≡ lettered p c ++ ys → (b ≡ c) × (xs ≡ ys)
first_by (Some l) (Some m) b c xs ys e f same = let letters : l ≡ m = cc same in (letter_same b c l e (f ∙ ap Some (sym letters)), cc same)
first_by (Some l) None b c xs ys e f same = absurd (unlettered c (cc same) f)
first_by None (Some m) b c xs ys e f same = absurd (unlettered b (sym (cc same)) e)
first_by None None b c xs ys e f same = (cc same, cc same)

pub first_same : (b c : ℕ) (xs ys : List ℕ) → escape_byte b ++ xs ≡ escape_byte c ++ ys → (b ≡ c) × (xs ≡ ys)
first_same b c xs ys same = first_by (escape_letter b) (escape_letter c) b c xs ys refl refl same

some_byte_by : (o : Option ℕ) (b : ℕ) (xs : List ℕ) → [] ≡ lettered o b ++ xs → ⊥
some_byte_by (Some l) b xs same = cc same
some_byte_by None b xs same = cc same

some_byte : (b : ℕ) (xs : List ℕ) → [] ≡ escape_byte b ++ xs → ⊥
some_byte b xs same = some_byte_by (escape_letter b) b xs same

pub escape_same : (text other : List ℕ) → escape text ≡ escape other → text ≡ other
escape_same [] [] same = refl
escape_same [] (y ∷ ys) same = absurd (some_byte y (escape ys) same)
escape_same (x ∷ xs) [] same = absurd (some_byte x (escape xs) (sym same))
escape_same (x ∷ xs) (y ∷ ys) same =
    let first = first_same x y (escape xs) (escape ys) same in
    ap (λ b. b ∷ xs) first.0 ∙ ap (λ bs. y ∷ bs) (escape_same xs ys first.1)

-- bytes are no escape that go on by none
pub no_escape : (text out rest : List ℕ) → 0 < length rest → ((b : ℕ) (after : List ℕ) → ¬ (rest ≡ escape_byte b ++ after)) → escape text ≡ escape out ++ rest → ⊥
no_escape [] [] rest more none same = let short : length rest ≡ 0 = ap length (sym same) in absurd (omega (arith, short, more))
no_escape (x ∷ xs) [] rest more none same = none x (escape xs) (sym same)
no_escape [] (y ∷ ys) rest more none same = some_byte y (escape ys ++ rest) (same ∙ append_assoc (escape_byte y) (escape ys) rest)
no_escape (x ∷ xs) (y ∷ ys) rest more none same =
    let first = first_same x y (escape xs) (escape ys ++ rest) (same ∙ append_assoc (escape_byte y) (escape ys) rest) in
    no_escape xs ys rest more none first.1
