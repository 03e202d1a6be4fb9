-- Texts within a line: a tab, a line feed and a backslash are escaped.
use Rattle.std.specs.Prelude.{ℕ, ◌==◌, if◌then◌else◌, List, [], ◌∷◌, Option, Some, None, flat_map}

-- the letter of the escape of a byte, if it has one
abbrev pub escape_letter : ℕ → Option ℕ
escape_letter byte =
    if byte == 9 then Some 116
    else if byte == 10 then Some 110
    else if byte == 92 then Some 92
    else None

abbrev pub lettered : Option ℕ → ℕ → List ℕ
lettered (Some letter) byte = 92 ∷ letter ∷ []
lettered None byte = byte ∷ []

-- a byte of a text within a line
abbrev pub escape_byte : ℕ → List ℕ
escape_byte byte = lettered (escape_letter byte) byte

-- a text within a line
abbrev pub escape : List ℕ → List ℕ
escape text = flat_map escape_byte text
