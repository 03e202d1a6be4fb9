-- JSON lines that are written are read as the same entries.
use Rattle.std.proofs.Common.{◌≡◌, ◌≢◌, ℕ, ◌/◌, ◌%◌, ◌≤◌, inl, inr, List, [], ◌∷◌, ◌++◌, codes, cond, refl, sym, ap, subst, ◌∙◌, arith, append_assoc, ◌==◌, nat_lt, true, false, IsUtf8, Some, flat_map, option_and_then, append-nil}
use Rattle.std.proofs.lemmas.Bool.{cases_Bool, eqb-true}
use Rattle.std.proofs.lemmas.Bool.Decides.{nat_tests}
use Rattle.std.proofs.lemmas.Str.{IsUtf8-append}
use Rattle.std.specs.Char.{digit_char}
use Rattle.std.specs.List.{AllByRecursion}
use Rattle.json.specs.Json as json
use Rattle.json.specs.Print.{escape_byte, quoted, print, print_from}
use Rattle.json.specs.Tree.{json_tokens}
use Rattle.json.proofs.Printed.Tokens.{tokens-print}
use Rattle.json.proofs.Printed.Trees.{ArePrintable-json_tokens, value-json_tokens}
use Rattle.json.proofs.Printed.Utf8.{IsUtf8-are_ascii, IsUtf8-quoted}
use Rattle.serde_json.specs.Data.{object, string, member, no_members}
use Rattle.serde_json.specs.Read.{read, of_json, max_depth}
use Rattle.btreekv_commands.specs.Forms.{entry_line, text_in}
use Rattle.btreekv_commands.specs.Json.{escaped, hex_digit, json_string}
use Rattle.btreekv_commands.specs.JsonRecords.{IsJsonEntry}
use Rattle.btreekv_commands.specs.Lines.{Entry, Lacks}
use Rattle.btreekv_commands.specs.Records.{AreRecords, AreUtf8, records}
use Rattle.btreekv_commands.specs.declared.forms.Form.TheVariants as forms
use Rattle.btreekv_commands.specs.declared.records.Records.TheVariants.{Json}
use Rattle.btreekv_commands.proofs.Recorded.{ended, lacks_both, lacks_more, match_first, nothing_lacks}

-- Both libraries have one escape for a byte.

digit_same : (n : ℕ) → digit_char n ≡ hex_digit n
digit_same n = elim (cases_Bool (nat_lt n 10)) [
  | inl e ↦ rw e refl
  | inr e ↦ let high : 10 ≤ n = grind (arith, nat_tests) in rw e (omega arith)
]

control : (m n k l : ℕ) → m ≡ k → n ≡ l → 92 ∷ 117 ∷ 48 ∷ 48 ∷ m ∷ n ∷ [] ≡ 92 ∷ 117 ∷ 48 ∷ 48 ∷ k ∷ l ∷ []
control m n k l e f = ap (λ z. 92 ∷ 117 ∷ 48 ∷ 48 ∷ z ∷ n ∷ []) e ∙ ap (λ z. 92 ∷ 117 ∷ 48 ∷ 48 ∷ k ∷ z ∷ []) f

-- a byte is one with a short escape, or it is none of these
pub data Byte (x : ℕ) : Type 0 where
  is34 : x ≡ 34 → Byte x
  is92 : x ≡ 92 → Byte x
  is8 : x ≡ 8 → Byte x
  is9 : x ≡ 9 → Byte x
  is10 : x ≡ 10 → Byte x
  is12 : x ≡ 12 → Byte x
  is13 : x ≡ 13 → Byte x
  other : (x == 34) ≡ false → (x == 92) ≡ false → (x == 8) ≡ false → (x == 9) ≡ false → (x == 10) ≡ false → (x == 12) ≡ false → (x == 13) ≡ false → Byte x

byte : (x : ℕ) → Byte x
byte x = elim (cases_Bool (x == 34)) [
  | inl e ↦ is34 (eqb-true x 34 e)
  | inr a ↦ elim (cases_Bool (x == 92)) [
    | inl e ↦ is92 (eqb-true x 92 e)
    | inr b ↦ elim (cases_Bool (x == 8)) [
      | inl e ↦ is8 (eqb-true x 8 e)
      | inr c ↦ elim (cases_Bool (x == 9)) [
        | inl e ↦ is9 (eqb-true x 9 e)
        | inr d ↦ elim (cases_Bool (x == 10)) [
          | inl e ↦ is10 (eqb-true x 10 e)
          | inr f ↦ elim (cases_Bool (x == 12)) [
            | inl e ↦ is12 (eqb-true x 12 e)
            | inr g ↦ elim (cases_Bool (x == 13)) [
              | inl e ↦ is13 (eqb-true x 13 e)
              | inr h ↦ other a b c d f g h
            ]
          ]
        ]
      ]
    ]
  ]
]

other_same : (x : ℕ) → (x == 34) ≡ false → (x == 92) ≡ false → (x == 8) ≡ false → (x == 9) ≡ false → (x == 10) ≡ false → (x == 12) ≡ false → (x == 13) ≡ false → escape_byte x ≡ escaped x
unfolding escape_byte
other_same x a b c d f g h =
    rw (a, b, c, d, f, g, h) (ap (λ z. cond (nat_lt x 32) z (x ∷ [])) (control (digit_char (x / 16)) (digit_char (x % 16)) (hex_digit (x / 16)) (hex_digit (x % 16)) (digit_same (x / 16)) (digit_same (x % 16))))

same_escape : (x : ℕ) → Byte x → escape_byte x ≡ escaped x
unfolding escape_byte
same_escape x (is34 e) = subst (λ z. escape_byte z ≡ escaped z) (sym e) refl
same_escape x (is92 e) = subst (λ z. escape_byte z ≡ escaped z) (sym e) refl
same_escape x (is8 e) = subst (λ z. escape_byte z ≡ escaped z) (sym e) refl
same_escape x (is9 e) = subst (λ z. escape_byte z ≡ escaped z) (sym e) refl
same_escape x (is10 e) = subst (λ z. escape_byte z ≡ escaped z) (sym e) refl
same_escape x (is12 e) = subst (λ z. escape_byte z ≡ escaped z) (sym e) refl
same_escape x (is13 e) = subst (λ z. escape_byte z ≡ escaped z) (sym e) refl
same_escape x (other a b c d f g h) = other_same x a b c d f g h

all_same : (s : List ℕ) → flat_map escape_byte s ≡ flat_map escaped s
all_same [] = refl
all_same (x ∷ xs) = ap (λ z. z ++ flat_map escape_byte xs) (same_escape x (byte x)) ∙ ap (λ z. escaped x ++ z) (all_same xs)

pub quoted_same : (s : List ℕ) → quoted s ≡ json_string s
quoted_same s = ap (λ z. 34 ∷ (z ++ 34 ∷ [])) (all_same s)

-- No escape has a line feed.

any_lacks : (xs : List ℕ) → flat_map (λ x. cond (x == 10) (x ∷ []) []) xs ≡ [] → Lacks 10 xs
any_lacks [] none = nothing_lacks 10
any_lacks (x ∷ xs) none = elim (cases_Bool (x == 10)) [
  | inl e ↦ absurd (cc (rw e at none))
  | inr e ↦ lacks_more 10 x xs (λ same. cc (sym e ∙ (let is : (x == 10) ≡ true = ap (λ z. z == 10) same in is))) (any_lacks xs (rw e at none))
]

hex_high : (n : ℕ) → hex_digit n ≢ 10
hex_high n same = elim (cases_Bool (nat_lt n 10)) [
  | inl e ↦ absurd (let h = rw e at same in omega arith)
  | inr e ↦ absurd (let h = rw e at same in omega arith)
]

other_lacks : (x : ℕ) → (x == 34) ≡ false → (x == 92) ≡ false → (x == 8) ≡ false → (x == 9) ≡ false → (x == 10) ≡ false → (x == 12) ≡ false → (x == 13) ≡ false → Lacks 10 (escaped x)
other_lacks x a b c d f g h = rw (a, b, c, d, f, g, h) (elim (cases_Bool (nat_lt x 32)) [
  | inl e ↦
      let digits = hex_digit (x / 16) ∷ hex_digit (x % 16) ∷ [] in
      rw e (lacks_both 10 (codes "\\u00") digits (any_lacks (codes "\\u00") refl)
      (lacks_more 10 (hex_digit (x / 16)) (hex_digit (x % 16) ∷ []) (hex_high (x / 16)) (lacks_more 10 (hex_digit (x % 16)) [] (hex_high (x % 16)) (nothing_lacks 10))))
  | inr e ↦ rw e (lacks_more 10 x [] (λ same. cc (sym f ∙ (let is : (x == 10) ≡ true = ap (λ z. z == 10) same in is))) (nothing_lacks 10))
])

byte_lacks : (x : ℕ) → Byte x → Lacks 10 (escaped x)
byte_lacks x (is34 e) = subst (λ z. Lacks 10 (escaped z)) (sym e) (any_lacks (escaped 34) refl)
byte_lacks x (is92 e) = subst (λ z. Lacks 10 (escaped z)) (sym e) (any_lacks (escaped 92) refl)
byte_lacks x (is8 e) = subst (λ z. Lacks 10 (escaped z)) (sym e) (any_lacks (escaped 8) refl)
byte_lacks x (is9 e) = subst (λ z. Lacks 10 (escaped z)) (sym e) (any_lacks (escaped 9) refl)
byte_lacks x (is10 e) = subst (λ z. Lacks 10 (escaped z)) (sym e) (any_lacks (escaped 10) refl)
byte_lacks x (is12 e) = subst (λ z. Lacks 10 (escaped z)) (sym e) (any_lacks (escaped 12) refl)
byte_lacks x (is13 e) = subst (λ z. Lacks 10 (escaped z)) (sym e) (any_lacks (escaped 13) refl)
byte_lacks x (other a b c d f g h) = other_lacks x a b c d f g h

all_lacks : (s : List ℕ) → Lacks 10 (flat_map escaped s)
all_lacks [] = nothing_lacks 10
all_lacks (x ∷ xs) = lacks_both 10 (escaped x) (flat_map escaped xs) (byte_lacks x (byte x)) (all_lacks xs)

string_lacks : (s : List ℕ) → Lacks 10 (json_string s)
string_lacks s = lacks_more 10 34 (flat_map escaped s ++ 34 ∷ []) (λ z. cc z) (lacks_both 10 (flat_map escaped s) (34 ∷ []) (all_lacks s) (any_lacks (34 ∷ []) refl))

-- A line, without its line feed.

abbrev line : Entry → List ℕ
line e = codes "{\"key\":" ++ (json_string e.0 ++ (codes ",\"value\":" ++ (json_string e.1 ++ codes "}")))

line_lacks : (e : Entry) → Lacks 10 (line e)
line_lacks e =
    let end = json_string e.1 ++ codes "}" in
    lacks_both 10 (codes "{\"key\":") (json_string e.0 ++ (codes ",\"value\":" ++ end)) (any_lacks (codes "{\"key\":") refl) (lacks_both 10 (json_string e.0) (codes ",\"value\":" ++ end) (string_lacks e.0)
    (lacks_both 10 (codes ",\"value\":") end (any_lacks (codes ",\"value\":") refl) (lacks_both 10 (json_string e.1) (codes "}") (string_lacks e.1) (any_lacks (codes "}") refl))))

line_ends : (e : Entry) (rest : List ℕ) → entry_line forms.Json e ++ rest ≡ line e ++ 10 ∷ rest
line_ends e rest =
    let k = json_string e.0 in
    let v = json_string e.1 in
    ap (λ z. codes "{\"key\":" ++ z) (append_assoc k (codes ",\"value\":" ++ (v ++ codes "}\n")) rest
    ∙ (ap (λ z. k ++ (codes ",\"value\":" ++ z)) (append_assoc v (codes "}\n") rest ∙ sym (append_assoc v (codes "}") (10 ∷ rest)))
    ∙ sym (append_assoc k (codes ",\"value\":" ++ (v ++ codes "}")) (10 ∷ rest))))

abbrev tree : Entry → json.Json
tree e = json.object (json.member (codes "key") (json.string e.0) (json.member (codes "value") (json.string e.1) json.no_members))

printed : (e : Entry) → print (json_tokens (tree e)) ≡ codes "{\"key\":" ++ (quoted e.0 ++ (codes ",\"value\":" ++ (quoted e.1 ++ codes "}")))
unfolding escape_byte print_from
printed e = refl

line_printed : (e : Entry) → print (json_tokens (tree e)) ≡ line e
line_printed e =
    printed e ∙ (ap (λ z. codes "{\"key\":" ++ (z ++ (codes ",\"value\":" ++ (quoted e.1 ++ codes "}")))) (quoted_same e.0)
    ∙ ap (λ z. codes "{\"key\":" ++ (json_string e.0 ++ (codes ",\"value\":" ++ (z ++ codes "}")))) (quoted_same e.1))

line_read : (e : Entry) → read (line e) ≡ Some (object (member (codes "key") (string e.0) (member (codes "value") (string e.1) no_members)))
line_read e = subst (λ text. read text ≡ Some (object (member (codes "key") (string e.0) (member (codes "value") (string e.1) no_members)))) (line_printed e)
    (ap (λ found. option_and_then of_json (option_and_then (λ p. json.if_last p.0 p.1) found))
    (ap (json.value max_depth) (tokens-print (json_tokens (tree e)) (ArePrintable-json_tokens (tree e) (tt, (tt, tt))) ∙ sym (append-nil (json_tokens (tree e)))) ∙ value-json_tokens (tree e) max_depth [] (omega arith)))

line_utf8 : (e : Entry) → AreUtf8 e → IsUtf8 (line e)
line_utf8 e h =
    IsUtf8-append (codes "{\"key\":") _ (IsUtf8-are_ascii (codes "{\"key\":") refl) (IsUtf8-append (json_string e.0) _ (subst IsUtf8 (quoted_same e.0) (IsUtf8-quoted e.0 h.0))
    (IsUtf8-append (codes ",\"value\":") _ (IsUtf8-are_ascii (codes ",\"value\":") refl) (IsUtf8-append (json_string e.1) (codes "}") (subst IsUtf8 (quoted_same e.1) (IsUtf8-quoted e.1 h.1)) (IsUtf8-are_ascii (codes "}") refl))))

line_is : (e : Entry) → AreUtf8 e → IsJsonEntry (line e) e
line_is e h = record { utf8 = line_utf8 e h; object_ = object (member (codes "key") (string e.0) (member (codes "value") (string e.1) no_members)); is = line_read e; two = refl; key = refl; value = refl }

pub json_read : (entries : List Entry) → AllByRecursion AreUtf8 entries → AreRecords Json (text_in forms.Json entries) entries
json_read [] h = tt
json_read (e ∷ es) h =
    match_first IsJsonEntry (records 10 (text_in forms.Json (e ∷ es))) (records 10 (text_in forms.Json es)) (line e) e es
    (ap (records 10) (line_ends e (text_in forms.Json es)) ∙ ended 10 (line e) (text_in forms.Json es) (line_lacks e))
    (line_is e h.0) (json_read es h.1)
