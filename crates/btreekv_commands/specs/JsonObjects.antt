-- Entries in one JSON object.
use Rattle.std.specs.Prelude.{◌≡◌, ℕ, List, [], ◌∷◌, IsUtf8, Some}
use Rattle.serde_json.specs.Data.{Members, no_members, member, object, string}
use Rattle.serde_json.specs.Read.{read}
use Rattle.btreekv_commands.specs.Lines.{Entry}

-- entries as the members of an object
abbrev pub string_members : List Entry → Members
string_members [] = no_members
string_members (e ∷ es) = member e.0 (string e.1) (string_members es)

-- a text is a JSON object whose members are all strings: these, each key once, with its last value in the text
pub record IsJsonObject (text : List ℕ) (entries : List Entry) : Type 0 where
  pub utf8 : IsUtf8 text
  pub is : read text ≡ Some (object (string_members entries))
