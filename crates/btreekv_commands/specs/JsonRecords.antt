-- Entries in JSON objects.
use Rattle.std.specs.Prelude.{◌≡◌, ℕ, suc, List, codes, IsUtf8, Option, Some, option_and_then}
use Rattle.serde_json.specs.Data.{Data, null, boolean, number, string, array, object, Members, no_members, member}
use Rattle.serde_json.specs.Find.{as_str, get}
use Rattle.serde_json.specs.Read.{read}
use Rattle.btreekv_commands.specs.Lines.{Entry}

-- the text of a member of an object
abbrev pub text_of : List ℕ → Data → Option (List ℕ)
text_of name d = option_and_then as_str (get name d)

abbrev pub count_members : Members → ℕ
count_members no_members = 0
count_members (member k d ms) = suc (count_members ms)

-- how many members an object has
abbrev pub members_in : Data → ℕ
members_in null = 0
members_in (boolean b) = 0
members_in (number n) = 0
members_in (string s) = 0
members_in (array ds) = 0
members_in (object ms) = count_members ms

-- a JSON object of a key and a value, which are texts, and of nothing else
pub record IsJsonEntry (line : List ℕ) (x : Entry) : Type 0 where
  pub utf8 : IsUtf8 line
  pub object_ : Data
  pub is : read line ≡ Some object_
  pub two : members_in object_ ≡ 2
  pub key : text_of (codes "key") object_ ≡ Some x.0
  pub value : text_of (codes "value") object_ ≡ Some x.1
