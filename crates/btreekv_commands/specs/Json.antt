-- Texts and entries as JSON, by their bytes in UTF-8.
use Rattle.std.specs.Prelude.{◌≡◌, ℕ, ◌+◌, ◌-◌, ◌/◌, ◌%◌, ◌==◌, if◌then◌else◌, nat_lt, List, [], ◌∷◌, ◌++◌, Option, Some, None, codes, flat_map, map}
use Rattle.std.specs.Iterator.{Drains}
use Rattle.btreekv_commands.specs.Lines.{Entry}

-- the digit of a number below 16
abbrev pub hex_digit : ℕ → ℕ
hex_digit n = if nat_lt n 10 then 48 + n else 97 + (n - 10)

-- the letter of the short escape of a byte, if it has one
abbrev pub short_escape : ℕ → Option ℕ
short_escape byte =
    if byte == 34 then Some 34
    else if byte == 92 then Some 92
    else if byte == 8 then Some 98
    else if byte == 9 then Some 116
    else if byte == 10 then Some 110
    else if byte == 12 then Some 102
    else if byte == 13 then Some 114
    else None

-- the escape of a byte without a short one: control characters have one, and other bytes are as they are
abbrev pub long_escape : ℕ → List ℕ
long_escape byte = if nat_lt byte 32 then codes "\\u00" ++ (hex_digit (byte / 16) ∷ hex_digit (byte % 16) ∷ []) else byte ∷ []

abbrev pub escape_with : Option ℕ → ℕ → List ℕ
escape_with (Some letter) byte = 92 ∷ letter ∷ []
escape_with None byte = long_escape byte

-- a byte within a JSON string
abbrev pub escaped : ℕ → List ℕ
escaped byte = escape_with (short_escape byte) byte

-- a text as a JSON string
abbrev pub json_string : List ℕ → List ℕ
json_string text = 34 ∷ (flat_map escaped text ++ 34 ∷ [])

-- an entry as a member of a JSON object
abbrev pub member : Entry → List ℕ
member e = json_string e.0 ++ 58 ∷ json_string e.1

-- members with a comma between
abbrev pub members : List Entry → List ℕ
members [] = []
members (e ∷ es) = member e ++ flat_map (λ e. 44 ∷ member e) es

-- entries as a JSON object, in their order
abbrev pub json_object : List Entry → List ℕ
json_object entries = 123 ∷ (members entries ++ 125 ∷ [])

-- the same as a line
abbrev pub json_line : List Entry → List ℕ
json_line entries = json_object entries ++ 10 ∷ []
