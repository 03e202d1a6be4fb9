-- Each name is read back as one type, so different types have different names.
use Rattle.std.proofs.Common.{◌≡◌, ◌≢◌, ◌∙◌, ℕ, zero, suc, ◌+◌, ◌<◌, ◌≤◌, ◌^◌, nat_eq, if◌then◌else◌, List, [], ◌∷◌, ◌++◌, Option, Some, None, codes, decimal, refl, sym, ap, subst, arith}
use Rattle.std.proofs.lemmas.Bool.{eq-eqb, ne_eqb}
use Rattle.std.proofs.lemmas.Fmt.{decimal_is_IsNumeral}
use Rattle.std.proofs.lemmas.List.{append_assoc}
use Rattle.std.specs.List.{All}
use Rattle.std.specs.Str.Parse.{AllDigits, digits_value}
use Rattle.std.specs.Char.{digit_value}
use Rattle.rkyv_btree_typed.specs.TypeNames.{TypeTerm, IsNameable, name_of}
use Rattle.rkyv_btree_typed.specs.TypeNames as term

-- a type, and the bytes after its name; and a part of a name, and the bytes after it
abbrev Read : Type 0
Read = Option (TypeTerm × List ℕ)

abbrev Rest : Type 0
Rest = Option (List ℕ)

abbrev or_else : Read → Read → Read
or_else (Some x) other = Some x
or_else None other = other

-- the bytes after a text
abbrev after : List ℕ → List ℕ → Rest
after [] bytes = Some bytes
after (c ∷ cs) [] = None
after (c ∷ cs) (b ∷ bs) = if nat_eq c b then after cs bs else None

abbrev leaf_end : TypeTerm → Rest → Read
leaf_end t None = None
leaf_end t (Some rest) = Some (t, rest)

abbrev leaf : TypeTerm → List ℕ → Read
leaf t bytes = leaf_end t (after (name_of t) bytes)

-- what comes before a byte, and what comes after it
abbrev front : ℕ → List ℕ → List ℕ
front stop [] = []
front stop (c ∷ cs) = if nat_eq c stop then [] else c ∷ front stop cs

abbrev back : ℕ → List ℕ → List ℕ
back stop [] = []
back stop (c ∷ cs) = if nat_eq c stop then cs else back stop cs

abbrev own_end : Rest → Read
own_end None = None
own_end (Some rest) = Some (term.own (front 62 rest), back 62 rest)

abbrev set_end : TypeTerm → Rest → Read
set_end key None = None
set_end key (Some rest) = Some (term.set key (digits_value 10 (front 93 rest)), back 93 rest)

abbrev map_end : TypeTerm → TypeTerm → Rest → Read
map_end key value None = None
map_end key value (Some rest) = Some (term.map key value (digits_value 10 (front 93 rest)), back 93 rest)

abbrev map_value : TypeTerm → Read → Read
map_value key None = None
map_value key (Some x) = map_end key x.0 (after (codes " / ") x.1)

abbrev array_end : TypeTerm → Rest → Read
array_end element None = None
array_end element (Some rest) = Some (term.array element (digits_value 10 (front 93 rest)), back 93 rest)

abbrev bracket_end : TypeTerm → List ℕ → Rest → Read
bracket_end key rest (Some entries) = set_end key (Some entries)
bracket_end key rest None = array_end key (after (codes "; ") rest)

-- after the key of a map or a set, or the elements of an array, whichever it is
abbrev bracket_key : (List ℕ → Read) → TypeTerm → List ℕ → Rest → Read
bracket_key read key rest (Some value) = map_value key (read value)
bracket_key read key rest None = bracket_end key rest (after (codes " / ") rest)

abbrev bracket_first : (List ℕ → Read) → Read → Read
bracket_first read None = None
bracket_first read (Some x) = bracket_key read x.0 x.1 (after (codes " -> ") x.1)

abbrev bracket : (List ℕ → Read) → Rest → Read
bracket read None = None
bracket read (Some rest) = bracket_first read (read rest)

-- a name in parentheses, of the value of an option or of the elements of a vector
abbrev wrapped_end : (TypeTerm → TypeTerm) → TypeTerm → Rest → Read
wrapped_end make value None = None
wrapped_end make value (Some rest) = Some (make value, rest)

abbrev wrapped_value : (TypeTerm → TypeTerm) → Read → Read
wrapped_value make None = None
wrapped_value make (Some x) = wrapped_end make x.0 (after (codes ")") x.1)

abbrev wrapped : (TypeTerm → TypeTerm) → (List ℕ → Read) → Rest → Read
wrapped make read None = None
wrapped make read (Some rest) = wrapped_value make (read rest)

abbrev sextuple_end : TypeTerm → TypeTerm → TypeTerm → TypeTerm → TypeTerm → TypeTerm → Rest → Read
sextuple_end first second third fourth fifth sixth None = None
sextuple_end first second third fourth fifth sixth (Some rest) = Some (term.sextuple first second third fourth fifth sixth, rest)

abbrev sextuple_sixth : TypeTerm → TypeTerm → TypeTerm → TypeTerm → TypeTerm → Read → Read
sextuple_sixth first second third fourth fifth None = None
sextuple_sixth first second third fourth fifth (Some x) = sextuple_end first second third fourth fifth x.0 (after (codes ")") x.1)

abbrev sextuple_comma : (List ℕ → Read) → TypeTerm → TypeTerm → TypeTerm → TypeTerm → TypeTerm → Rest → Read
sextuple_comma read first second third fourth fifth None = None
sextuple_comma read first second third fourth fifth (Some rest) = sextuple_sixth first second third fourth fifth (read rest)

-- after so many names in parentheses: their end, or another one
abbrev quintuple_end : (List ℕ → Read) → TypeTerm → TypeTerm → TypeTerm → TypeTerm → TypeTerm → List ℕ → Rest → Read
quintuple_end read first second third fourth fifth rest (Some end) = Some (term.quintuple first second third fourth fifth, end)
quintuple_end read first second third fourth fifth rest None = sextuple_comma read first second third fourth fifth (after (codes ", ") rest)

abbrev quintuple_fifth : (List ℕ → Read) → TypeTerm → TypeTerm → TypeTerm → TypeTerm → Read → Read
quintuple_fifth read first second third fourth None = None
quintuple_fifth read first second third fourth (Some x) = quintuple_end read first second third fourth x.0 x.1 (after (codes ")") x.1)

abbrev quintuple_comma : (List ℕ → Read) → TypeTerm → TypeTerm → TypeTerm → TypeTerm → Rest → Read
quintuple_comma read first second third fourth None = None
quintuple_comma read first second third fourth (Some rest) = quintuple_fifth read first second third fourth (read rest)

-- after so many names in parentheses: their end, or another one
abbrev quadruple_end : (List ℕ → Read) → TypeTerm → TypeTerm → TypeTerm → TypeTerm → List ℕ → Rest → Read
quadruple_end read first second third fourth rest (Some end) = Some (term.quadruple first second third fourth, end)
quadruple_end read first second third fourth rest None = quintuple_comma read first second third fourth (after (codes ", ") rest)

abbrev quadruple_fourth : (List ℕ → Read) → TypeTerm → TypeTerm → TypeTerm → Read → Read
quadruple_fourth read first second third None = None
quadruple_fourth read first second third (Some x) = quadruple_end read first second third x.0 x.1 (after (codes ")") x.1)

abbrev quadruple_comma : (List ℕ → Read) → TypeTerm → TypeTerm → TypeTerm → Rest → Read
quadruple_comma read first second third None = None
quadruple_comma read first second third (Some rest) = quadruple_fourth read first second third (read rest)

abbrev triple_end : (List ℕ → Read) → TypeTerm → TypeTerm → TypeTerm → List ℕ → Rest → Read
triple_end read first second third rest (Some end) = Some (term.triple first second third, end)
triple_end read first second third rest None = quadruple_comma read first second third (after (codes ", ") rest)

abbrev triple_third : (List ℕ → Read) → TypeTerm → TypeTerm → Read → Read
triple_third read first second None = None
triple_third read first second (Some x) = triple_end read first second x.0 x.1 (after (codes ")") x.1)

abbrev triple_comma : (List ℕ → Read) → TypeTerm → TypeTerm → Rest → Read
triple_comma read first second None = None
triple_comma read first second (Some rest) = triple_third read first second (read rest)

-- after two names in parentheses: their end, or a third one
abbrev pair_end : (List ℕ → Read) → TypeTerm → TypeTerm → List ℕ → Rest → Read
pair_end read first second rest (Some end) = Some (term.pair first second, end)
pair_end read first second rest None = triple_comma read first second (after (codes ", ") rest)

abbrev pair_second : (List ℕ → Read) → TypeTerm → Read → Read
pair_second read first None = None
pair_second read first (Some x) = pair_end read first x.0 x.1 (after (codes ")") x.1)

abbrev pair_comma : (List ℕ → Read) → TypeTerm → Rest → Read
pair_comma read first None = None
pair_comma read first (Some rest) = pair_second read first (read rest)

abbrev pair_first : (List ℕ → Read) → Read → Read
pair_first read None = None
pair_first read (Some x) = pair_comma read x.0 (after (codes ", ") x.1)

abbrev pair : (List ℕ → Read) → Rest → Read
pair read None = None
pair read (Some rest) = pair_first read (read rest)

-- the names of numbers of 128 bits, of which none begins with another
abbrev wide_leaves : List ℕ → Read
wide_leaves bytes =
    or_else (leaf term.u128 bytes) (or_else (leaf term.i128 bytes) (or_else (leaf term.non_zero_u128 bytes) (leaf term.non_zero_i128 bytes)))

-- the names of floating-point numbers and of the other numbers than 0, of which none begins with another
abbrev more_leaves : List ℕ → Read
more_leaves bytes =
    or_else (leaf term.non_zero_u8 bytes) (or_else (leaf term.non_zero_u16 bytes) (or_else (leaf term.non_zero_u64 bytes) (or_else (leaf term.non_zero_i8 bytes)
    (or_else (leaf term.non_zero_i16 bytes) (or_else (leaf term.non_zero_i32 bytes) (or_else (leaf term.non_zero_i64 bytes)
    (or_else (leaf term.f32 bytes) (or_else (leaf term.f64 bytes) (wide_leaves bytes)))))))))

abbrev leaves : List ℕ → Read
leaves bytes =
    or_else (leaf term.u8 bytes) (or_else (leaf term.u16 bytes) (or_else (leaf term.u32 bytes) (or_else (leaf term.u64 bytes)
    (or_else (leaf term.i8 bytes) (or_else (leaf term.i16 bytes) (or_else (leaf term.i32 bytes) (or_else (leaf term.i64 bytes)
    (or_else (leaf term.bool bytes) (or_else (leaf term.char bytes) (or_else (leaf term.non_zero_u32 bytes) (or_else (leaf term.unit_type bytes)
    (or_else (leaf term.text bytes) (or_else (leaf term.byte_string bytes) (more_leaves bytes))))))))))))))

-- the type whose name comes first, if it is at most so deep
abbrev read_name : ℕ → List ℕ → Read
read_name zero bytes = None
read_name (suc n) bytes =
    or_else (pair (read_name n) (after (codes "(") bytes))
    (or_else (bracket (read_name n) (after (codes "[") bytes))
    (or_else (wrapped term.option (read_name n) (after (codes "option(") bytes))
    (or_else (wrapped term.vector (read_name n) (after (codes "vec(") bytes))
    (or_else (own_end (after (codes "<") bytes)) (leaves bytes)))))

abbrev depth : TypeTerm → ℕ
depth (term.option value) = suc (depth value)
depth (term.vector element) = suc (depth element)
depth (term.pair first second) = suc (depth first + depth second)
depth (term.triple first second third) = suc (depth first + depth second + depth third)
depth (term.array element count) = suc (depth element)
depth (term.quadruple first second third fourth) = suc (depth first + depth second + depth third + depth fourth)
depth (term.quintuple first second third fourth fifth) = suc (depth first + depth second + depth third + depth fourth + depth fifth)
depth (term.sextuple first second third fourth fifth sixth) = suc (depth first + depth second + depth third + depth fourth + depth fifth + depth sixth)
depth (term.set key entries) = suc (depth key)
depth (term.map key value entries) = suc (depth key + depth value)
depth t = 0

-- bytes without a stop are read up to it
abbrev Free : ℕ → List ℕ → Type 0
Free stop [] = Unit {0}
Free stop (c ∷ cs) = (c ≢ stop) × Free stop cs

front_is : (stop : ℕ) (cs rest : List ℕ) → Free stop cs → front stop (cs ++ (stop ∷ rest)) ≡ cs
front_is stop [] rest free = ap (λ b. if b then [] else stop ∷ front stop rest) (eq-eqb stop stop refl)
front_is stop (c ∷ cs) rest free = ap (λ b. if b then [] else c ∷ front stop (cs ++ (stop ∷ rest))) (ne_eqb c stop free.0) ∙ ap (λ z. c ∷ z) (front_is stop cs rest free.1)

back_is : (stop : ℕ) (cs rest : List ℕ) → Free stop cs → back stop (cs ++ (stop ∷ rest)) ≡ rest
back_is stop [] rest free = ap (λ b. if b then rest else back stop rest) (eq-eqb stop stop refl)
back_is stop (c ∷ cs) rest free = ap (λ b. if b then cs ++ (stop ∷ rest) else back stop (cs ++ (stop ∷ rest))) (ne_eqb c stop free.0) ∙ back_is stop cs rest free.1

free_of_all : (stop : ℕ) (cs : List ℕ) → All (λ c. c ≢ stop) cs → Free stop cs
free_of_all stop [] all = tt
free_of_all stop (c ∷ cs) all = (all 0 0 (omega arith), free_of_all stop cs (λ k d less. all (suc k) d (omega (arith, less))))

free_of_digits : (cs : List ℕ) → AllDigits 10 cs → Free 93 cs
free_of_digits [] all = tt
free_of_digits (c ∷ cs) all = ((λ e. absurd (omega (arith, subst (λ b. digit_value b < 10) e all.0))), free_of_digits cs all.1)

-- a number and a closing bracket are read
number_front : (n : ℕ) (rest : List ℕ) → n < 2 ^ 64 → digits_value 10 (front 93 (decimal n ++ (93 ∷ rest))) ≡ n
number_front n rest small = let numeral = decimal_is_IsNumeral n small in ap (digits_value 10) (front_is 93 (decimal n) rest (free_of_digits (decimal n) numeral.0.1)) ∙ numeral.1

number_back : (n : ℕ) (rest : List ℕ) → n < 2 ^ 64 → back 93 (decimal n ++ (93 ∷ rest)) ≡ rest
number_back n rest small = back_is 93 (decimal n) rest (free_of_digits (decimal n) (decimal_is_IsNumeral n small).0.1)

-- a name is read, and what comes after it is left
parses : (t : TypeTerm) (n : ℕ) (x : List ℕ) → depth t ≤ n → IsNameable t → read_name (suc n) (name_of t ++ x) ≡ Some (t, x)
parses term.u8 n x d h = refl
parses term.u16 n x d h = refl
parses term.u32 n x d h = refl
parses term.u64 n x d h = refl
parses term.i8 n x d h = refl
parses term.i16 n x d h = refl
parses term.i32 n x d h = refl
parses term.i64 n x d h = refl
parses term.bool n x d h = refl
parses term.char n x d h = refl
parses term.non_zero_u32 n x d h = refl
parses term.non_zero_u8 n x d h = refl
parses term.non_zero_u16 n x d h = refl
parses term.non_zero_u64 n x d h = refl
parses term.non_zero_i8 n x d h = refl
parses term.non_zero_i16 n x d h = refl
parses term.non_zero_i32 n x d h = refl
parses term.non_zero_i64 n x d h = refl
parses term.u128 n x d h = refl
parses term.i128 n x d h = refl
parses term.non_zero_u128 n x d h = refl
parses term.non_zero_i128 n x d h = refl
parses term.f32 n x d h = refl
parses term.f64 n x d h = refl
parses term.unit_type zero x d h = refl
parses term.unit_type (suc n) x d h = refl
parses term.text n x d h = refl
parses term.byte_string n x d h = refl
parses (term.own name) n x d h =
    let free = free_of_all 62 name h in
    ap (λ z. read_name (suc n) (60 ∷ z)) (append_assoc name (codes ">") x)
    ∙ (ap (λ z. Some (term.own z, back 62 (name ++ (62 ∷ x)))) (front_is 62 name x free) ∙ ap (λ z. Some (term.own name, z)) (back_is 62 name x free))
parses (term.option value) zero x d h = absurd (omega (arith, d))
parses (term.option value) (suc n) x d h =
    ap (λ z. read_name (suc (suc n)) (codes "option(" ++ z)) (append_assoc (name_of value) (codes ")") x)
    ∙ ap (λ r. or_else (wrapped_value term.option r) None) (parses value n (41 ∷ x) (omega (arith, d)) h)
parses (term.vector element) zero x d h = absurd (omega (arith, d))
parses (term.vector element) (suc n) x d h =
    ap (λ z. read_name (suc (suc n)) (codes "vec(" ++ z)) (append_assoc (name_of element) (codes ")") x)
    ∙ ap (λ r. or_else (wrapped_value term.vector r) None) (parses element n (41 ∷ x) (omega (arith, d)) h)
parses (term.pair first second) zero x d h = absurd (omega (arith, d))
parses (term.pair first second) (suc n) x d h =
    let read = read_name (suc n) in
    let rest = name_of second ++ (41 ∷ x) in
    let other = leaves (40 ∷ (name_of first ++ (codes ", " ++ rest))) in
    let whole : (name_of first ++ (codes ", " ++ (name_of second ++ codes ")"))) ++ x ≡ name_of first ++ (codes ", " ++ rest) =
    append_assoc (name_of first) (codes ", " ++ (name_of second ++ codes ")")) x ∙ ap (λ z. name_of first ++ (codes ", " ++ z)) (append_assoc (name_of second) (codes ")") x) in
    ap (λ z. read_name (suc (suc n)) (40 ∷ z)) whole
    ∙ (ap (λ r. or_else (pair_first read r) other) (parses first n (codes ", " ++ rest) (omega (arith, d)) h.0)
    ∙ ap (λ r. or_else (pair_second read first r) other) (parses second n (41 ∷ x) (omega (arith, d)) h.1))
parses (term.triple first second third) zero x d h = absurd (omega (arith, d))
parses (term.triple first second third) (suc n) x d h =
    let read = read_name (suc n) in
    let end = name_of third ++ (41 ∷ x) in
    let rest = name_of second ++ (codes ", " ++ end) in
    let other = leaves (40 ∷ (name_of first ++ (codes ", " ++ rest))) in
    let whole : (name_of first ++ (codes ", " ++ (name_of second ++ (codes ", " ++ (name_of third ++ codes ")"))))) ++ x ≡ name_of first ++ (codes ", " ++ rest) =
    append_assoc (name_of first) (codes ", " ++ (name_of second ++ (codes ", " ++ (name_of third ++ codes ")")))) x
    ∙ ap (λ z. name_of first ++ (codes ", " ++ z)) (append_assoc (name_of second) (codes ", " ++ (name_of third ++ codes ")")) x ∙ ap (λ z. name_of second ++ (codes ", " ++ z)) (append_assoc (name_of third) (codes ")") x)) in
    ap (λ z. read_name (suc (suc n)) (40 ∷ z)) whole
    ∙ (ap (λ r. or_else (pair_first read r) other) (parses first n (codes ", " ++ rest) (omega (arith, d)) h.0)
    ∙ (ap (λ r. or_else (pair_second read first r) other) (parses second n (codes ", " ++ end) (omega (arith, d)) h.1)
    ∙ ap (λ r. or_else (triple_third read first second r) other) (parses third n (41 ∷ x) (omega (arith, d)) h.2)))
parses (term.array element count) zero x d h = absurd (omega (arith, d))
parses (term.array element count) (suc n) x d h =
    let read = read_name (suc n) in
    let rest = decimal count ++ (93 ∷ x) in
    let whole : (name_of element ++ (codes "; " ++ (decimal count ++ codes "]"))) ++ x ≡ name_of element ++ (codes "; " ++ rest) =
    append_assoc (name_of element) (codes "; " ++ (decimal count ++ codes "]")) x ∙ ap (λ z. name_of element ++ (codes "; " ++ z)) (append_assoc (decimal count) (codes "]") x) in
    ap (λ z. read_name (suc (suc n)) (91 ∷ z)) whole
    ∙ (ap (λ r. or_else (bracket_first read r) None) (parses element n (codes "; " ++ rest) (omega (arith, d)) h.0)
    ∙ (ap (λ z. Some (term.array element z, back 93 rest)) (number_front count x h.1) ∙ ap (λ z. Some (term.array element count, z)) (number_back count x h.1)))
parses (term.quadruple first second third fourth) zero x d h = absurd (omega (arith, d))
parses (term.quadruple first second third fourth) (suc n) x d h =
    let read = read_name (suc n) in
    let at_fourth = name_of fourth ++ (41 ∷ x) in
    let at_third = name_of third ++ (codes ", " ++ at_fourth) in
    let at_second = name_of second ++ (codes ", " ++ at_third) in
    let other = leaves (40 ∷ (name_of first ++ (codes ", " ++ at_second))) in
    let whole : (name_of first ++ (codes ", " ++ (name_of second ++ (codes ", " ++ (name_of third ++ (codes ", " ++ (name_of fourth ++ codes ")"))))))) ++ x ≡ name_of first ++ (codes ", " ++ at_second) =
    append_assoc (name_of first) (codes ", " ++ (name_of second ++ (codes ", " ++ (name_of third ++ (codes ", " ++ (name_of fourth ++ codes ")")))))) x ∙ ap (λ z. name_of first ++ (codes ", " ++ z)) (append_assoc (name_of second) (codes ", " ++ (name_of third ++ (codes ", " ++ (name_of fourth ++ codes ")")))) x ∙ ap (λ z. name_of second ++ (codes ", " ++ z)) (append_assoc (name_of third) (codes ", " ++ (name_of fourth ++ codes ")")) x ∙ ap (λ z. name_of third ++ (codes ", " ++ z)) (append_assoc (name_of fourth) (codes ")") x))) in
    ap (λ z. read_name (suc (suc n)) (40 ∷ z)) whole
    ∙ (ap (λ r. or_else (pair_first read r) other) (parses first n (codes ", " ++ at_second) (omega (arith, d)) h.0)
    ∙ (ap (λ r. or_else (pair_second read first r) other) (parses second n (codes ", " ++ at_third) (omega (arith, d)) h.1)
    ∙ (ap (λ r. or_else (triple_third read first second r) other) (parses third n (codes ", " ++ at_fourth) (omega (arith, d)) h.2)
    ∙ ap (λ r. or_else (quadruple_fourth read first second third r) other) (parses fourth n (41 ∷ x) (omega (arith, d)) h.3))))
parses (term.quintuple first second third fourth fifth) zero x d h = absurd (omega (arith, d))
parses (term.quintuple first second third fourth fifth) (suc n) x d h =
    let read = read_name (suc n) in
    let at_fifth = name_of fifth ++ (41 ∷ x) in
    let at_fourth = name_of fourth ++ (codes ", " ++ at_fifth) in
    let at_third = name_of third ++ (codes ", " ++ at_fourth) in
    let at_second = name_of second ++ (codes ", " ++ at_third) in
    let other = leaves (40 ∷ (name_of first ++ (codes ", " ++ at_second))) in
    let whole : (name_of first ++ (codes ", " ++ (name_of second ++ (codes ", " ++ (name_of third ++ (codes ", " ++ (name_of fourth ++ (codes ", " ++ (name_of fifth ++ codes ")"))))))))) ++ x ≡ name_of first ++ (codes ", " ++ at_second) =
    append_assoc (name_of first) (codes ", " ++ (name_of second ++ (codes ", " ++ (name_of third ++ (codes ", " ++ (name_of fourth ++ (codes ", " ++ (name_of fifth ++ codes ")")))))))) x ∙ ap (λ z. name_of first ++ (codes ", " ++ z)) (append_assoc (name_of second) (codes ", " ++ (name_of third ++ (codes ", " ++ (name_of fourth ++ (codes ", " ++ (name_of fifth ++ codes ")")))))) x ∙ ap (λ z. name_of second ++ (codes ", " ++ z)) (append_assoc (name_of third) (codes ", " ++ (name_of fourth ++ (codes ", " ++ (name_of fifth ++ codes ")")))) x ∙ ap (λ z. name_of third ++ (codes ", " ++ z)) (append_assoc (name_of fourth) (codes ", " ++ (name_of fifth ++ codes ")")) x ∙ ap (λ z. name_of fourth ++ (codes ", " ++ z)) (append_assoc (name_of fifth) (codes ")") x)))) in
    ap (λ z. read_name (suc (suc n)) (40 ∷ z)) whole
    ∙ (ap (λ r. or_else (pair_first read r) other) (parses first n (codes ", " ++ at_second) (omega (arith, d)) h.0)
    ∙ (ap (λ r. or_else (pair_second read first r) other) (parses second n (codes ", " ++ at_third) (omega (arith, d)) h.1)
    ∙ (ap (λ r. or_else (triple_third read first second r) other) (parses third n (codes ", " ++ at_fourth) (omega (arith, d)) h.2)
    ∙ (ap (λ r. or_else (quadruple_fourth read first second third r) other) (parses fourth n (codes ", " ++ at_fifth) (omega (arith, d)) h.3)
    ∙ ap (λ r. or_else (quintuple_fifth read first second third fourth r) other) (parses fifth n (41 ∷ x) (omega (arith, d)) h.4)))))
parses (term.sextuple first second third fourth fifth sixth) zero x d h = absurd (omega (arith, d))
parses (term.sextuple first second third fourth fifth sixth) (suc n) x d h =
    let read = read_name (suc n) in
    let at_sixth = name_of sixth ++ (41 ∷ x) in
    let at_fifth = name_of fifth ++ (codes ", " ++ at_sixth) in
    let at_fourth = name_of fourth ++ (codes ", " ++ at_fifth) in
    let at_third = name_of third ++ (codes ", " ++ at_fourth) in
    let at_second = name_of second ++ (codes ", " ++ at_third) in
    let other = leaves (40 ∷ (name_of first ++ (codes ", " ++ at_second))) in
    let whole : (name_of first ++ (codes ", " ++ (name_of second ++ (codes ", " ++ (name_of third ++ (codes ", " ++ (name_of fourth ++ (codes ", " ++ (name_of fifth ++ (codes ", " ++ (name_of sixth ++ codes ")"))))))))))) ++ x ≡ name_of first ++ (codes ", " ++ at_second) =
    append_assoc (name_of first) (codes ", " ++ (name_of second ++ (codes ", " ++ (name_of third ++ (codes ", " ++ (name_of fourth ++ (codes ", " ++ (name_of fifth ++ (codes ", " ++ (name_of sixth ++ codes ")")))))))))) x ∙ ap (λ z. name_of first ++ (codes ", " ++ z)) (append_assoc (name_of second) (codes ", " ++ (name_of third ++ (codes ", " ++ (name_of fourth ++ (codes ", " ++ (name_of fifth ++ (codes ", " ++ (name_of sixth ++ codes ")")))))))) x ∙ ap (λ z. name_of second ++ (codes ", " ++ z)) (append_assoc (name_of third) (codes ", " ++ (name_of fourth ++ (codes ", " ++ (name_of fifth ++ (codes ", " ++ (name_of sixth ++ codes ")")))))) x ∙ ap (λ z. name_of third ++ (codes ", " ++ z)) (append_assoc (name_of fourth) (codes ", " ++ (name_of fifth ++ (codes ", " ++ (name_of sixth ++ codes ")")))) x ∙ ap (λ z. name_of fourth ++ (codes ", " ++ z)) (append_assoc (name_of fifth) (codes ", " ++ (name_of sixth ++ codes ")")) x ∙ ap (λ z. name_of fifth ++ (codes ", " ++ z)) (append_assoc (name_of sixth) (codes ")") x))))) in
    ap (λ z. read_name (suc (suc n)) (40 ∷ z)) whole
    ∙ (ap (λ r. or_else (pair_first read r) other) (parses first n (codes ", " ++ at_second) (omega (arith, d)) h.0)
    ∙ (ap (λ r. or_else (pair_second read first r) other) (parses second n (codes ", " ++ at_third) (omega (arith, d)) h.1)
    ∙ (ap (λ r. or_else (triple_third read first second r) other) (parses third n (codes ", " ++ at_fourth) (omega (arith, d)) h.2)
    ∙ (ap (λ r. or_else (quadruple_fourth read first second third r) other) (parses fourth n (codes ", " ++ at_fifth) (omega (arith, d)) h.3)
    ∙ (ap (λ r. or_else (quintuple_fifth read first second third fourth r) other) (parses fifth n (codes ", " ++ at_sixth) (omega (arith, d)) h.4)
    ∙ ap (λ r. or_else (sextuple_sixth first second third fourth fifth r) other) (parses sixth n (41 ∷ x) (omega (arith, d)) h.5))))))
parses (term.set key entries) zero x d h = absurd (omega (arith, d))
parses (term.set key entries) (suc n) x d h =
    let read = read_name (suc n) in
    let rest = decimal entries ++ (93 ∷ x) in
    let whole : (name_of key ++ (codes " / " ++ (decimal entries ++ codes "]"))) ++ x ≡ name_of key ++ (codes " / " ++ rest) =
    append_assoc (name_of key) (codes " / " ++ (decimal entries ++ codes "]")) x ∙ ap (λ z. name_of key ++ (codes " / " ++ z)) (append_assoc (decimal entries) (codes "]") x) in
    ap (λ z. read_name (suc (suc n)) (91 ∷ z)) whole
    ∙ (ap (λ r. or_else (bracket_first read r) None) (parses key n (codes " / " ++ rest) (omega (arith, d)) h.0)
    ∙ (ap (λ z. Some (term.set key z, back 93 rest)) (number_front entries x h.1) ∙ ap (λ z. Some (term.set key entries, z)) (number_back entries x h.1)))
parses (term.map key value entries) zero x d h = absurd (omega (arith, d))
parses (term.map key value entries) (suc n) x d h =
    let read = read_name (suc n) in
    let rest = decimal entries ++ (93 ∷ x) in
    let end = codes " / " ++ (decimal entries ++ codes "]") in
    let whole : (name_of key ++ (codes " -> " ++ (name_of value ++ end))) ++ x ≡ name_of key ++ (codes " -> " ++ (name_of value ++ (codes " / " ++ rest))) =
    append_assoc (name_of key) (codes " -> " ++ (name_of value ++ end)) x
    ∙ ap (λ z. name_of key ++ (codes " -> " ++ z)) (append_assoc (name_of value) end x ∙ ap (λ z. name_of value ++ (codes " / " ++ z)) (append_assoc (decimal entries) (codes "]") x)) in
    ap (λ z. read_name (suc (suc n)) (91 ∷ z)) whole
    ∙ (ap (λ r. or_else (bracket_first read r) None) (parses key n (codes " -> " ++ (name_of value ++ (codes " / " ++ rest))) (omega (arith, d)) h.0)
    ∙ (ap (λ r. or_else (map_value key r) None) (parses value n (codes " / " ++ rest) (omega (arith, d)) h.1)
    ∙ (ap (λ z. Some (term.map key value z, back 93 rest)) (number_front entries x h.2) ∙ ap (λ z. Some (term.map key value entries, z)) (number_back entries x h.2))))

type_of : TypeTerm → Read → TypeTerm
type_of t None = t
type_of t (Some x) = x.0

pub names_apart : (s t : TypeTerm) → IsNameable s → IsNameable t → name_of s ≡ name_of t → s ≡ t
unfolding type_of
names_apart s t h k e =
    let deep = depth s + depth t in
    let both : Some (s, []) ≡ Some (t, []) = sym (parses s deep [] (omega arith) h) ∙ (ap (λ z. read_name (suc deep) (z ++ [])) e ∙ parses t deep [] (omega arith) k) in
    ap (type_of s) both
