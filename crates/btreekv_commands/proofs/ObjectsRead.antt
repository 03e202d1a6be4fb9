-- Members that are texts, as entries.
use Rattle.std.proofs.Common.{◌≡◌, ℕ, List, [], ◌∷◌, ◌++◌, map, refl, sym, ap, ◌∙◌, Bool, BTreeMap, IsUtf8, IfNone, IfSome, None, Option, Some, Vec, rules, String, Global, string_bytes}
use Rattle.std.specs.Cmp.Lexicographic.{slice_cmp}
use Rattle.std.specs.List.{AllByRecursion}
use Rattle.std.specs.List.Sorted.{IsStrictlySortedBy}
use Rattle.std.specs.Map.{keys_of}
use Rattle.std.specs.Ordering.{nat_cmp}
use Rattle.std.specs.String.{string_cmp}
use Rattle.std.specs.declared.cmp.Ordering.TheVariants.{Less}
use Rattle.serde_json.specs.Data.{Data, Members, boolean, member, null, number, object, string}
use Rattle.serde_json.specs.Read.{read}
use Rattle.serde_json.specs.View.{members_view, number_view, view}
use Rattle.serde_json.proofs.Views.{view-Object}
use Rattle.serde_json.specs.declared.number.Number.{Number}
use Rattle.serde_json.specs.declared.value.Value.{Value, Bool as Truth, Null, Number as Numeric, Object, String as Text, the_lemmas}
use Rattle.btreekv_commands.specs.JsonObjects.{IsJsonObject, string_members}
use Rattle.btreekv_commands.specs.Lines.{Entry}
use Rattle.btreekv_commands.specs.Opening.{KeysIncrease}
use Rattle.btreekv_commands.specs.Texts.{texts_of}

abbrev pub Pair : Type 0
Pair = String Global × String Global

-- an entry as a member of a value
abbrev pub text_member : Pair → String Global × Value
text_member e = (e.0, Text e.1)

pub view_text : (s : String Global) → view (Text s) ≡ string (string_bytes s)
view_text s = search (rules, the_lemmas)

pub texts_view : (es : List Pair) → members_view (map text_member es) ≡ string_members (map texts_of es)
texts_view [] = refl
texts_view (e ∷ es) = ap (λ d. member (string_bytes e.0) d (members_view (map text_member es))) (view_text e.1) ∙ ap (λ ms. member (string_bytes e.0) (string (string_bytes e.1)) ms) (texts_view es)

same_first : (k l : List ℕ) (d e : Data) (ms ns : Members) → member k d ms ≡ member l e ns → d ≡ e
same_first k l d e ms ns is = cc is

same_rest : (k l : List ℕ) (d e : Data) (ms ns : Members) → member k d ms ≡ member l e ns → ms ≡ ns
same_rest k l d e ms ns is = cc is

-- a member that is no text
pub not_text : (es : List Pair) (k : String Global) (v : Value) (rest : List (String Global × Value)) → ((s : List ℕ) → ¬ (view v ≡ string s)) → (entries : List Entry)
    → ¬ (members_view (map text_member es ++ (k, v) ∷ rest) ≡ string_members entries)
not_text [] k v rest none [] is = cc is
not_text [] k v rest none (x ∷ xs) is = none x.1 (same_first (string_bytes k) x.0 (view v) (string x.1) (members_view rest) (string_members xs) is)
not_text (e ∷ es) k v rest none [] is = cc is
not_text (e ∷ es) k v rest none (x ∷ xs) is = not_text es k v rest none xs (same_rest (string_bytes e.0) x.0 (view (Text e.1)) (string x.1) (members_view (map text_member es ++ (k, v) ∷ rest)) (string_members xs) is)

view_null : view Null ≡ null
view_null = search (rules, the_lemmas)

view_bool : (b : Bool) → view (Truth b) ≡ boolean b
view_bool b = search (rules, the_lemmas)

view_number : (n : Number) → view (Numeric n) ≡ number (number_view n)
view_number n = search (rules, the_lemmas)

-- a value that isn't made of a text is none
pub no_text : (v : Value) → ((t : String Global) → ¬ (v ≡ Text t)) → (s : List ℕ) → ¬ (view v ≡ string s)
no_text Null none s is = absurd (cc (sym view_null ∙ is))
no_text (Truth b) none s is = absurd (cc (sym (view_bool b) ∙ is))
no_text (Numeric n) none s is = absurd (cc (sym (view_number n) ∙ is))
no_text (Text t) none s is = none t refl
no_text v none s is = search (rules, the_lemmas, is)

-- keys that are texts increase by their bytes

below : (k : String Global) (es : List Pair) → AllByRecursion (λ l. string_cmp k l ≡ Less) (keys_of (map text_member es)) → AllByRecursion (λ l. slice_cmp nat_cmp (string_bytes k) l ≡ Less) (keys_of (map texts_of es))
below k [] h = tt
below k (e ∷ es) h = (h.0, below k es h.1)

pub texts_increase : (es : List Pair) → IsStrictlySortedBy string_cmp (keys_of (map text_member es)) → KeysIncrease (map texts_of es)
unfolding IsStrictlySortedBy
texts_increase [] h = tt
texts_increase (e ∷ es) h = (below e.0 es h.0, texts_increase es h.1)

-- what a text is read as
module _ (text : List ℕ) (v : Value) (members : BTreeMap (String Global) Value) (made : v ≡ Object members) (ok : IsUtf8 text × (read text ≡ Some (view v))) where
  viewed : read text ≡ Some (object (members_view members.entries))
  viewed = ok.1 ∙ ap (λ x. Some (view x)) made ∙ ap Some (view-Object members)

  pub is_object : (entries : List Entry) → members_view members.entries ≡ string_members entries → IsJsonObject text entries
  is_object entries are = record { utf8 = ok.0; is = viewed ∙ ap (λ ms. Some (object ms)) are }

  same_members : (ms ns : Members) → Some (object ms) ≡ Some (object ns) → ms ≡ ns
  same_members ms ns is = cc is

  pub are_members : (entries : List Entry) → IsJsonObject text entries → members_view members.entries ≡ string_members entries
  are_members entries is = same_members (members_view members.entries) (string_members entries) (sym viewed ∙ is.is)

-- of entries that are found
pub some_so : (found : Option (Vec Pair Global)) (P Q : List Entry → Type 0) → ((entries : List Entry) → P entries → Q entries) → IfSome found (λ es. P (map texts_of es.items)) → IfSome found (λ es. Q (map texts_of es.items))
some_so (Some es) P Q more h = more (map texts_of es.items) h
some_so None P Q more h = tt

-- and where none are
pub none_so : (found : Option (Vec Pair Global)) (P Q : List Entry → Type 0) → ((entries : List Entry) → Q entries → P entries) → IfNone found ((entries : List Entry) → ¬ P entries) → IfNone found ((entries : List Entry) → ¬ Q entries)
none_so (Some es) P Q less h = tt
none_so None P Q less h = λ entries is. h entries (less entries is)
