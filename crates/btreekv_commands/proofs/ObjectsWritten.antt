-- JSON objects that are written are read as the same entries.
use Rattle.std.proofs.Common.{◌≡◌, ℕ, List, [], ◌∷◌, ◌++◌, refl, sym, ap, ap₂, subst, ◌∙◌, arith, append_assoc, append-nil, false, IsUtf8, Some, flat_map, option_and_then}
use Rattle.std.proofs.lemmas.Str.{IsUtf8-append}
use Rattle.std.specs.BTreeMap.{insert_entry}
use Rattle.std.specs.Cmp.Lexicographic.{slice_cmp, nat_list_cmp_total}
use Rattle.std.specs.List.{AllByRecursion, fold}
use Rattle.std.specs.Ordering.{match_ordering, nat_cmp}
use Rattle.std.specs.declared.cmp.Ordering.{Ordering}
use Rattle.std.specs.declared.cmp.Ordering.TheVariants.{Less, Equal, Greater}
use Rattle.json.specs.Json as json
use Rattle.json.specs.Lex.{Lexeme, token, comma, colon, between, lex, punctuate, fresh, after_value, begins_colon, string_token}
use Rattle.json.specs.Print.{escape}
use Rattle.json.specs.Token.{begin_object, end_object, key, string as string_of}
use Rattle.json.specs.Tree.{json_tokens, members_tokens, members_depth}
use Rattle.json.proofs.Printed.Strings.{content-escape, lex-escape}
use Rattle.json.proofs.Printed.Trees.{value-json_tokens}
use Rattle.json.proofs.Printed.Utf8.{IsUtf8-are_ascii, IsUtf8-quoted}
use Rattle.serde_json.specs.Data.{member as data_member, object, put, string}
use Rattle.serde_json.specs.Read.{max_depth, of_json, of_members, read}
use Rattle.rkyv_btree_convert.proofs.LastWins.{counts_last}
use Rattle.btreekv_commands.specs.Building.{last_values}
use Rattle.btreekv_commands.specs.Json.{json_line, json_string, member}
use Rattle.btreekv_commands.specs.JsonObjects.{IsJsonObject, string_members}
use Rattle.btreekv_commands.specs.Lines.{Entry}
use Rattle.btreekv_commands.specs.Opening.{KeysIncrease}
use Rattle.btreekv_commands.specs.Records.{AreUtf8}
use Rattle.btreekv_commands.proofs.JsonRead.{quoted_same}

-- The lexemes of an object.

string_lexed : (s rest : List ℕ) → lex between (json_string s ++ rest) ≡ token (string_of s) ∷ lex between rest
unfolding lex
string_lexed s rest =
    ap (λ z. lex between (z ++ rest)) (sym (quoted_same s))
    ∙ (ap (λ z. lex between (34 ∷ z)) (append_assoc (escape s) (34 ∷ []) rest) ∙ ap₂ (λ o ls. token (string_token o) ∷ ls) (content-escape s rest) (lex-escape s rest))

abbrev pair : Entry → List Lexeme → List Lexeme
pair e more = token (string_of e.0) ∷ colon ∷ token (string_of e.1) ∷ more

member_lexed : (e : Entry) (rest : List ℕ) → lex between (member e ++ rest) ≡ pair e (lex between rest)
unfolding lex
member_lexed e rest =
    ap (lex between) (append_assoc (json_string e.0) (58 ∷ json_string e.1) rest)
    ∙ (string_lexed e.0 (58 ∷ (json_string e.1 ++ rest)) ∙ ap (λ ls. token (string_of e.0) ∷ colon ∷ ls) (string_lexed e.1 rest))

-- further members, up to the end of the object
abbrev closed : List Entry → List Lexeme
closed [] = token end_object ∷ []
closed (e ∷ es) = comma ∷ pair e (closed es)

closed_lexed : (es : List Entry) → lex between (flat_map (λ e. 44 ∷ member e) es ++ 125 ∷ 10 ∷ []) ≡ closed es
unfolding lex
closed_lexed [] = refl
closed_lexed (e ∷ es) =
    ap (lex between) (append_assoc (44 ∷ member e) (flat_map (λ e. 44 ∷ member e) es) (125 ∷ 10 ∷ []))
    ∙ ap (λ ls. comma ∷ ls) (member_lexed e (flat_map (λ e. 44 ∷ member e) es ++ 125 ∷ 10 ∷ []) ∙ ap (pair e) (closed_lexed es))

abbrev opened : List Entry → List Lexeme
opened [] = token begin_object ∷ token end_object ∷ []
opened (e ∷ es) = token begin_object ∷ pair e (closed es)

line_lexed : (es : List Entry) → lex between (json_line es) ≡ opened es
unfolding lex
line_lexed [] = refl
line_lexed (e ∷ es) =
    let more = flat_map (λ e. 44 ∷ member e) es in
    ap (λ z. lex between (123 ∷ z)) (append_assoc (member e ++ more) (125 ∷ []) (10 ∷ []) ∙ append_assoc (member e) more (125 ∷ 10 ∷ []))
    ∙ ap (λ ls. token begin_object ∷ ls) (member_lexed e (more ++ 125 ∷ 10 ∷ []) ∙ ap (pair e) (closed_lexed es))

-- Its tokens are those of a tree.

abbrev tree : List Entry → json.Members
tree [] = json.no_members
tree (e ∷ es) = json.member e.0 (json.string e.1) (tree es)

no_colon : (es : List Entry) → begins_colon (closed es) ≡ false
no_colon [] = refl
no_colon (e ∷ es) = refl

closed_tokens : (es : List Entry) → punctuate after_value (closed es) ≡ members_tokens (tree es)
unfolding punctuate
closed_tokens [] = refl
closed_tokens (e ∷ es) = rw (no_colon es) (ap (λ ts. key e.0 ∷ string_of e.1 ∷ ts) (closed_tokens es))

opened_tokens : (es : List Entry) → punctuate fresh (opened es) ≡ json_tokens (json.object (tree es))
unfolding punctuate
opened_tokens [] = refl
opened_tokens (e ∷ es) = rw (no_colon es) (ap (λ ts. begin_object ∷ key e.0 ∷ string_of e.1 ∷ ts) (closed_tokens es))

flat : (es : List Entry) → members_depth (tree es) ≡ 0
flat [] = refl
flat (e ∷ es) = rw (flat es) refl

-- What the tree is read as: all members are put, in turn.

put_chosen : (o : Ordering) (a b c : List Entry) → string_members (match_ordering o a b c) ≡ match_ordering o (string_members a) (string_members b) (string_members c)
put_chosen Less a b c = refl
put_chosen Equal a b c = refl
put_chosen Greater a b c = refl

put_is : (k v : List ℕ) (m : List Entry) → put k (string v) (string_members m) ≡ string_members (insert_entry (slice_cmp nat_cmp) m k v)
put_is k v [] = refl
put_is k v (e ∷ m) =
    let first = string_members ((k, v) ∷ e ∷ m) in
    let same = string_members ((e.0, v) ∷ m) in
    ap (λ z. match_ordering (slice_cmp nat_cmp k e.0) first same (data_member e.0 (string e.1) z)) (put_is k v m)
    ∙ sym (put_chosen (slice_cmp nat_cmp k e.0) ((k, v) ∷ e ∷ m) ((e.0, v) ∷ m) (e ∷ insert_entry (slice_cmp nat_cmp) m k v))

all_put : (es m : List Entry) → of_members (tree es) (string_members m) ≡ Some (string_members (fold (λ m e. insert_entry (slice_cmp nat_cmp) m e.0 e.1) m es))
all_put [] m = refl
all_put (e ∷ es) m = ap (of_members (tree es)) (put_is e.0 e.1 m) ∙ all_put es (insert_entry (slice_cmp nat_cmp) m e.0 e.1)

line_read : (es : List Entry) → read (json_line es) ≡ Some (object (string_members (last_values es)))
line_read es =
    let spelled = ap (punctuate fresh) (line_lexed es) ∙ opened_tokens es in
    let whole = ap (json.value max_depth) (spelled ∙ sym (append-nil (json_tokens (json.object (tree es))))) ∙ value-json_tokens (json.object (tree es)) max_depth [] (omega (arith, flat es)) in
    ap (λ found. option_and_then of_json (option_and_then (λ p. json.if_last p.0 p.1) found)) whole ∙ ap (λ found. option_and_then (λ ms. Some (object ms)) found) (all_put es [])

-- It is UTF-8.

string_utf8 : (s : List ℕ) → IsUtf8 s → IsUtf8 (json_string s)
string_utf8 s h = subst IsUtf8 (quoted_same s) (IsUtf8-quoted s h)

member_utf8 : (e : Entry) → AreUtf8 e → IsUtf8 (member e)
member_utf8 e h = IsUtf8-append (json_string e.0) (58 ∷ json_string e.1) (string_utf8 e.0 h.0) (IsUtf8-append (58 ∷ []) (json_string e.1) (IsUtf8-are_ascii (58 ∷ []) refl) (string_utf8 e.1 h.1))

more_utf8 : (es : List Entry) → AllByRecursion AreUtf8 es → IsUtf8 (flat_map (λ e. 44 ∷ member e) es ++ 125 ∷ 10 ∷ [])
more_utf8 [] h = IsUtf8-are_ascii (125 ∷ 10 ∷ []) refl
more_utf8 (e ∷ es) h =
    subst IsUtf8 (sym (append_assoc (44 ∷ member e) (flat_map (λ e. 44 ∷ member e) es) (125 ∷ 10 ∷ [])))
    (IsUtf8-append (44 ∷ []) _ (IsUtf8-are_ascii (44 ∷ []) refl) (IsUtf8-append (member e) _ (member_utf8 e h.0) (more_utf8 es h.1)))

line_utf8 : (es : List Entry) → AllByRecursion AreUtf8 es → IsUtf8 (json_line es)
line_utf8 [] h = IsUtf8-are_ascii (123 ∷ 125 ∷ 10 ∷ []) refl
line_utf8 (e ∷ es) h =
    let more = flat_map (λ e. 44 ∷ member e) es in
    subst (λ z. IsUtf8 (123 ∷ z)) (sym (append_assoc (member e ++ more) (125 ∷ []) (10 ∷ []) ∙ append_assoc (member e) more (125 ∷ 10 ∷ [])))
    (IsUtf8-append (123 ∷ []) _ (IsUtf8-are_ascii (123 ∷ []) refl) (IsUtf8-append (member e) _ (member_utf8 e h.0) (more_utf8 es h.1)))

pub line_is_object : (es : List Entry) → AllByRecursion AreUtf8 es → IsJsonObject (json_line es) (last_values es)
line_is_object es h = record { utf8 = line_utf8 es h; is = line_read es }

pub line_is_same : (es : List Entry) → AllByRecursion AreUtf8 es → KeysIncrease es → IsJsonObject (json_line es) es
line_is_same es h increase = subst (IsJsonObject (json_line es)) ((counts_last nat_list_cmp_total es).stay increase) (line_is_object es h)
