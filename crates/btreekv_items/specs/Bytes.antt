-- Byte strings as text.
use Rattle.base64.specs.Engines.{standard}
use Rattle.base64.specs.GeneralPurpose.{encode_of}
use Rattle.hex.specs.Hex.{encode_lower}
use Rattle.std.specs.List.{All}
use Rattle.std.specs.Prelude.{ℕ, ◌<◌, List}
use Rattle.btreekv_items.specs.declared.item.BytesStyle.{BytesStyle}
use Rattle.btreekv_items.specs.declared.item.BytesStyle.TheVariants.{Base64, Hexadecimal}

-- each number of a list is that of a byte
abbrev pub AreBytes : List ℕ → Type 0
AreBytes b = All (λ byte. byte < 256) b

-- the text of bytes in a style
abbrev pub bytes_text : BytesStyle → List ℕ → List ℕ
bytes_text Hexadecimal bytes = encode_lower bytes
bytes_text Base64 bytes = encode_of standard bytes
