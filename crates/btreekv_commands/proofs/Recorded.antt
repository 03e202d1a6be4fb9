-- Records, and the entries that they are.
use Rattle.std.proofs.Common.{◌≡◌, ◌≢◌, ℕ, zero, suc, ◌+◌, ◌<◌, ◌≤◌, List, [], ◌∷◌, ◌++◌, length, map, refl, sym, ap, subst, ◌∙◌, arith, rules, append_assoc, append-nil, ◌==◌, true, false, slice_index, Option, Some, None, IsUtf8}
use Rattle.std.proofs.lemmas.List.{map_push}
use Rattle.btreekv_commands.specs.Escapes.{escape, escape_byte, escape_letter, lettered}
use Rattle.std.specs.List.{AllByRecursion}
use Rattle.btreekv_commands.specs.Forms.{text_in}
use Rattle.btreekv_commands.specs.Lines.{Entry, IsEntry, Lacks}
use Rattle.btreekv_commands.specs.Records.{AreRecords, AreUtf8, IsBadRecord, IsEscaped, IsNullFree, IsRecord, Match, end_of, records}
use Rattle.btreekv_commands.specs.Building.{Native}
use Rattle.btreekv_commands.specs.Texts.{texts_of}
use Rattle.btreekv_commands.specs.declared.forms.Form.TheVariants as forms
use Rattle.btreekv_commands.specs.declared.records.Records.{Records}
use Rattle.btreekv_commands.specs.declared.records.Records.TheVariants.{Escaped, Null}
use Rattle.btreekv_commands.proofs.Escaped.{escape_same}
use Rattle.btreekv_commands.proofs.Splitting.{lacks_rest, no_split, one_split}

-- The first record.

not_end : (c b : ℕ) → c ≢ b → (c == b) ≡ false
not_end c b h = search rules

pub ended : (b : ℕ) (line rest : List ℕ) → Lacks b line → records b (line ++ b ∷ rest) ≡ line ∷ records b rest
ended b [] rest h = let same : (b == b) ≡ true = search rules in rw same refl
ended b (c ∷ cs) rest h = rw (not_end c b (h 0 (omega arith)), ended b cs rest (lacks_rest b c cs h)) refl

last_record : (b c : ℕ) (cs : List ℕ) → Lacks b (c ∷ cs) → records b (c ∷ cs) ≡ (c ∷ cs) ∷ []
last_record b c [] h = rw (not_end c b (h 0 (omega arith))) refl
last_record b c (d ∷ ds) h = rw (not_end c b (h 0 (omega arith)), last_record b d ds (lacks_rest b c (d ∷ ds) h)) refl

pub unended : (b : ℕ) (line : List ℕ) → 0 < length line → Lacks b line → records b line ≡ line ∷ records b []
unended b [] some h = absurd (omega arith)
unended b (c ∷ cs) some h = last_record b c cs h

-- Escapes have no tab.

pub lacks_more : (b x : ℕ) (xs : List ℕ) → x ≢ b → Lacks b xs → Lacks b (x ∷ xs)
lacks_more b x xs h rest zero in_range same = h same
lacks_more b x xs h rest (suc k) in_range same = rest k (omega (arith, in_range)) same

no_tab : (b : ℕ) → escape_letter b ≡ None → b ≢ 9
no_tab b is same = grind (arith, is, same)

no_letter_tab : (b l : ℕ) → escape_letter b ≡ Some l → l ≢ 9
no_letter_tab b l is same = grind (arith, is, same)

no_feed : (b : ℕ) → escape_letter b ≡ None → b ≢ 10
no_feed b is same = grind (arith, is, same)

no_letter_feed : (b l : ℕ) → escape_letter b ≡ Some l → l ≢ 10
no_letter_feed b l is same = grind (arith, is, same)

no_backslash : (c b : ℕ) → c ≡ 92 → b < 92 → c ≢ b
no_backslash c b is less same = omega (arith, is, less, same)

pub nothing_lacks : (b : ℕ) → Lacks b []
nothing_lacks b k in_range = absurd (omega (arith, in_range))

module _ (b : ℕ) (low : b < 92) (none : (c : ℕ) → escape_letter c ≡ None → c ≢ b) (letters : (c l : ℕ) → escape_letter c ≡ Some l → l ≢ b) where
  lettered_lacks : (o : Option ℕ) (c : ℕ) (xs : List ℕ) → escape_letter c ≡ o → Lacks b xs → Lacks b (lettered o c ++ xs)
  lettered_lacks (Some l) c xs is h = lacks_more b 92 (l ∷ xs) (no_backslash 92 b refl low) (lacks_more b l xs (letters c l is) h)
  lettered_lacks None c xs is h = lacks_more b c xs (none c is) h

  escape_lacks : (text : List ℕ) → Lacks b (escape text)
  escape_lacks [] = nothing_lacks b
  escape_lacks (x ∷ xs) = lettered_lacks (escape_letter x) x (escape xs) refl (escape_lacks xs)

pub tabless : (text : List ℕ) → Lacks 9 (escape text)
tabless = escape_lacks 9 (omega arith) no_tab no_letter_tab

pub feedless : (text : List ℕ) → Lacks 10 (escape text)
feedless = escape_lacks 10 (omega arith) no_feed no_letter_feed

pub lacks_both : (b : ℕ) (xs ys : List ℕ) → Lacks b xs → Lacks b ys → Lacks b (xs ++ ys)
lacks_both b [] ys p q = q
lacks_both b (x ∷ xs) ys p q = lacks_more b x (xs ++ ys) (p 0 (omega arith)) (lacks_both b xs ys (lacks_rest b x xs p) q)

-- a record that is split at its first tab has the escapes of a key and a value in these parts alone
pub escaped_parts : (line key value : List ℕ) → line ≡ key ++ 9 ∷ value → Lacks 9 key → (x : Entry) → IsEscaped line x → (escape x.0 ≡ key) × (escape x.1 ≡ value)
escaped_parts line key value is lacks x entry =
    let both = one_split 9 (escape x.0) (escape x.1) key value (tabless x.0) lacks (sym entry.spelled ∙ is) in both

pub not_escaped : (line : List ℕ) → Lacks 9 line → (x : Entry) → ¬ IsEscaped line x
not_escaped line lacks x entry = no_split 9 line (escape x.0) (escape x.1) lacks entry.spelled

-- Records that are entries.

-- the records before the rest are these entries
pub record Read (form : Records) (bytes rest : List ℕ) (entries : List Entry) : Type 0 where
  pub before : List (List ℕ)
  pub split : records (end_of form) bytes ≡ before ++ records (end_of form) rest
  pub good : Match (IsRecord form) before entries

push_match : (R : List ℕ → Entry → Type 0) (ls : List (List ℕ)) (xs : List Entry) (line : List ℕ) (x : Entry) → Match R ls xs → R line x → Match R (ls ++ line ∷ []) (xs ++ x ∷ [])
push_match R [] [] line x h is = (is, tt)
push_match R [] (y ∷ ys) line x h is = absurd h
push_match R (l ∷ ls) [] line x h is = absurd h
push_match R (l ∷ ls) (y ∷ ys) line x h is = (h.0, push_match R ls ys line x h.1 is)

count : (R : List ℕ → Entry → Type 0) (ls : List (List ℕ)) (xs : List Entry) → Match R ls xs → length ls ≡ length xs
count R [] [] h = refl
count R [] (y ∷ ys) h = absurd h
count R (l ∷ ls) [] h = absurd h
count R (l ∷ ls) (y ∷ ys) h = ap suc (count R ls ys h.1)

pub one_read : (form : Records) (end : ℕ) (bytes rest line after : List ℕ) (xs : List Entry) (x : Entry) → end ≡ end_of form → Read form bytes rest xs
    → records end rest ≡ line ∷ records end after → IsRecord form line x → Read form bytes after (xs ++ x ∷ [])
one_read form end bytes rest line after xs x ends r first is = record {
  before = r.before ++ line ∷ [];
  split = r.split ∙ (ap (λ (ls : List (List ℕ)). r.before ++ ls) (subst (λ b. records b rest ≡ line ∷ records b after) ends first) ∙ sym (append_assoc r.before (line ∷ []) (records (end_of form) after)));
  good = push_match (IsRecord form) r.before xs line x r.good is;
}

pub all_read : (form : Records) (bytes rest : List ℕ) (xs : List Entry) → Read form bytes rest xs → length rest ≤ 0 → AreRecords form bytes xs
all_read form bytes [] xs r few = subst (λ (ls : List (List ℕ)). Match (IsRecord form) ls xs) (sym (r.split ∙ append-nil r.before)) r.good
all_read form bytes (y ∷ ys) xs r few = absurd (omega (arith, few))

pub bad_read : (form : Records) (end : ℕ) (bytes rest line after : List ℕ) (xs : List Entry) (n : ℕ) → end ≡ end_of form → Read form bytes rest xs
    → records end rest ≡ line ∷ records end after → ((x : Entry) → ¬ IsRecord form line x) → n ≡ length xs + 1 → IsBadRecord form bytes n
bad_read form end bytes rest line after xs n ends r first none number = record {
  before = r.before;
  bad = line;
  after = records (end_of form) after;
  entries = xs;
  split = r.split ∙ ap (λ (ls : List (List ℕ)). r.before ++ ls) (subst (λ b. records b rest ≡ line ∷ records b after) ends first);
  good = r.good;
  no_entry = none;
  number = omega (arith, number, count (IsRecord form) r.before xs r.good);
}

-- a native entry of this record is one more
pub entry_read : (form : Records) (end : ℕ) (bytes rest line after : List ℕ) (items new : List Native) (e : Native) → end ≡ end_of form → Read form bytes rest (map texts_of items)
    → records end rest ≡ line ∷ records end after → IsRecord form line (texts_of e) → new ≡ items ++ e ∷ [] → Read form bytes after (map texts_of new)
entry_read form end bytes rest line after items new e ends r first is pushed =
    subst (λ (xs : List Entry). Read form bytes after xs) (sym (ap (map texts_of) pushed ∙ map_push texts_of items e)) (one_read form end bytes rest line after (map texts_of items) (texts_of e) ends r first is)

-- What is written is read.

-- a first record in front of others
in_front : (end : ℕ) (key value rest : List ℕ) → Lacks end key → Lacks end value → 9 ≢ end
    → records end ((key ++ (9 ∷ value ++ end ∷ [])) ++ rest) ≡ (key ++ 9 ∷ value) ∷ records end rest
in_front end key value rest in_key in_value tab =
    let spelled : (key ++ (9 ∷ value ++ end ∷ [])) ++ rest ≡ (key ++ 9 ∷ value) ++ end ∷ rest =
    append_assoc key (9 ∷ value ++ end ∷ []) rest ∙ (ap (λ (z : List ℕ). key ++ 9 ∷ z) (append_assoc value (end ∷ []) rest) ∙ sym (append_assoc key (9 ∷ value) (end ∷ rest))) in
    ap (records end) spelled ∙ ended end (key ++ 9 ∷ value) rest (lacks_both end key (9 ∷ value) in_key (lacks_more end 9 value tab in_value))

pub match_first : (R : List ℕ → Entry → Type 0) (parts rest : List (List ℕ)) (part : List ℕ) (x : Entry) (xs : List Entry) → parts ≡ part ∷ rest → R part x → Match R rest xs → Match R parts (x ∷ xs)
match_first R parts rest part x xs is one more = subst (λ ps. Match R ps (x ∷ xs)) (sym is) (one, more)

tab_is_no : (b c : ℕ) → c ≡ 9 → b ≢ 9 → c ≢ b
tab_is_no b c is other same = other (sym same ∙ is)

pub escapes_read : (entries : List Entry) → AllByRecursion AreUtf8 entries → AreRecords Escaped (text_in forms.Escaped entries) entries
escapes_read [] h = tt
escapes_read (e ∷ es) h =
    match_first IsEscaped (records 10 (text_in forms.Escaped (e ∷ es))) (records 10 (text_in forms.Escaped es)) (escape e.0 ++ 9 ∷ escape e.1) e es
    (in_front 10 (escape e.0) (escape e.1) (text_in forms.Escaped es) (feedless e.0) (feedless e.1) (tab_is_no 10 9 refl (λ same. omega (arith, same))))
    (record { spelled = refl; key = h.0.0; value = h.0.1 }) (escapes_read es h.1)

pub nulls_read : (entries : List Entry) → AllByRecursion IsNullFree entries → AreRecords Null (text_in forms.Null entries) entries
nulls_read [] h = tt
nulls_read (e ∷ es) h =
    match_first IsEntry (records 0 (text_in forms.Null (e ∷ es))) (records 0 (text_in forms.Null es)) (e.0 ++ 9 ∷ e.1) e es
    (in_front 0 e.0 e.1 (text_in forms.Null es) h.0.no_zero.0 h.0.no_zero.1 (tab_is_no 0 9 refl (λ same. omega (arith, same))))
    (record { spelled = refl; tab = h.0.no_tab; key = h.0.utf8.0; value = h.0.utf8.1 }) (nulls_read es h.1)
