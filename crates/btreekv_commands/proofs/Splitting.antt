-- Lines, and the entries that they are.
use Rattle.std.proofs.Common.{◌≡◌, ◌≢◌, ℕ, suc, ◌+◌, ◌<◌, List, [], ◌∷◌, ◌++◌, length, map, refl, sym, ap, subst, ◌∙◌, arith, rules, append_assoc, append-nil, ◌==◌, false, slice_index}
use Rattle.std.proofs.lemmas.List.{map_push}
use Rattle.btreearc_lines.specs.Grammar.{lines}
use Rattle.std.specs.Prelude.{string_bytes}
use Rattle.btreekv_commands.specs.Building.{Native}
use Rattle.btreekv_commands.specs.Texts.{texts_of}
use Rattle.btreekv_commands.specs.Lines.{Entry, Lacks, IsEntry, AreEntries, AreLines, IsBadLine}

-- A byte that isn't among some.

pub lacks_rest : (b x : ℕ) (xs : List ℕ) → Lacks b (x ∷ xs) → Lacks b xs
lacks_rest b x xs h k inside = h (suc k) (omega arith)

middle : (xs : List ℕ) (y : ℕ) (ys : List ℕ) → slice_index (xs ++ y ∷ ys) (length xs) ≡ y
middle [] y ys = refl
middle (x ∷ xs) y ys = middle xs y ys

inside : (xs : List ℕ) (y : ℕ) (ys : List ℕ) → length xs < length (xs ++ y ∷ ys)
inside [] y ys = omega arith
inside (x ∷ xs) y ys = let rest = inside xs y ys in omega arith

pub no_split : (b : ℕ) (bytes xs ys : List ℕ) → Lacks b bytes → bytes ≡ xs ++ b ∷ ys → ⊥
no_split b bytes xs ys lacks is = subst (Lacks b) is lacks (length xs) (inside xs b ys) (middle xs b ys)

pub one_split : (b : ℕ) (xs ys us vs : List ℕ) → Lacks b xs → Lacks b us → xs ++ b ∷ ys ≡ us ++ b ∷ vs → (xs ≡ us) × (ys ≡ vs)
one_split b [] ys [] vs p q e = (refl, cc)
one_split b [] ys (u ∷ us) vs p q e = let same : u ≡ b = cc in absurd (q 0 (omega arith) same)
one_split b (x ∷ xs) ys [] vs p q e = let same : x ≡ b = cc in absurd (p 0 (omega arith) same)
one_split b (x ∷ xs) ys (u ∷ us) vs p q e =
    let rest : xs ++ b ∷ ys ≡ us ++ b ∷ vs = cc in
    let first : x ≡ u = cc in
    let both = one_split b xs ys us vs (lacks_rest b x xs p) (lacks_rest b u us q) rest in
    (ap (λ (z : ℕ). z ∷ xs) first ∙ ap (λ (zs : List ℕ). u ∷ zs) both.0, both.1)

-- a line that is split at its first tab is an entry of these parts alone
pub entry_parts : (line key value : List ℕ) → line ≡ key ++ 9 ∷ value → Lacks 9 key → (x : Entry) → IsEntry line x → (key ≡ x.0) × (value ≡ x.1)
entry_parts line key value is lacks x entry = one_split 9 key value x.0 x.1 lacks entry.tab (sym is ∙ entry.spelled)

-- The first line.

not_feed : (c : ℕ) → c ≢ 10 → (c == 10) ≡ false
not_feed c h = search rules

pub line_fed : (line rest : List ℕ) → Lacks 10 line → lines (line ++ 10 ∷ rest) ≡ line ∷ lines rest
line_fed [] rest h = refl
line_fed (c ∷ cs) rest h = rw (not_feed c (h 0 (omega arith)), line_fed cs rest (lacks_rest 10 c cs h)) refl

last_line : (c : ℕ) (cs : List ℕ) → Lacks 10 (c ∷ cs) → lines (c ∷ cs) ≡ (c ∷ cs) ∷ []
last_line c [] h = rw (not_feed c (h 0 (omega arith))) refl
last_line c (d ∷ ds) h = rw (not_feed c (h 0 (omega arith)), last_line d ds (lacks_rest 10 c (d ∷ ds) h)) refl

pub line_unfed : (line : List ℕ) → 0 < length line → Lacks 10 line → lines line ≡ line ∷ lines []
line_unfed [] some h = absurd (omega arith)
line_unfed (c ∷ cs) some h = last_line c cs h

-- Lines that are entries.

-- the lines before the rest are these entries
pub record ReadLines (bytes rest : List ℕ) (entries : List Entry) : Type 0 where
  pub before : List (List ℕ)
  pub split : lines bytes ≡ before ++ lines rest
  pub good : AreEntries before entries

push_entry : (ls : List (List ℕ)) (xs : List Entry) (line : List ℕ) (x : Entry) → AreEntries ls xs → IsEntry line x → AreEntries (ls ++ line ∷ []) (xs ++ x ∷ [])
push_entry [] [] line x h is = (is, tt)
push_entry [] (y ∷ ys) line x h is = absurd h
push_entry (l ∷ ls) [] line x h is = absurd h
push_entry (l ∷ ls) (y ∷ ys) line x h is = (h.0, push_entry ls ys line x h.1 is)

count : (ls : List (List ℕ)) (xs : List Entry) → AreEntries ls xs → length ls ≡ length xs
count [] [] h = refl
count [] (y ∷ ys) h = absurd h
count (l ∷ ls) [] h = absurd h
count (l ∷ ls) (y ∷ ys) h = ap suc (count ls ys h.1)

pub one_read : (bytes rest line after : List ℕ) (xs : List Entry) (x : Entry) → ReadLines bytes rest xs → lines rest ≡ line ∷ lines after → IsEntry line x → ReadLines bytes after (xs ++ x ∷ [])
one_read bytes rest line after xs x r first is = record {
  before = r.before ++ line ∷ [];
  split = r.split ∙ (ap (λ (ls : List (List ℕ)). r.before ++ ls) first ∙ sym (append_assoc r.before (line ∷ []) (lines after)));
  good = push_entry r.before xs line x r.good is;
}

-- a native entry of these texts is one more
pub native_read : (bytes rest : List ℕ) (items new : List Native) (e : Native) (key value : List ℕ) → ReadLines bytes rest (map texts_of items ++ (key, value) ∷ []) → new ≡ items ++ e ∷ [] → string_bytes e.0 ≡ key → string_bytes e.1 ≡ value → ReadLines bytes rest (map texts_of new)
native_read bytes rest items new e key value r is key_is value_is =
    let entry : texts_of e ≡ (key, value) = ap (λ (k : List ℕ). (k, string_bytes e.1)) key_is ∙ ap (λ (v : List ℕ). (key, v)) value_is in
    subst (λ (xs : List Entry). ReadLines bytes rest xs) (sym (ap (map texts_of) is ∙ (map_push texts_of items e ∙ ap (λ (x : Entry). map texts_of items ++ x ∷ []) entry))) r

pub all_read : (bytes rest : List ℕ) (xs : List Entry) → ReadLines bytes rest xs → rest ≡ [] → AreLines bytes xs
all_read bytes rest xs r none = subst (λ (ls : List (List ℕ)). AreEntries ls xs) (sym (r.split ∙ (ap (λ (z : List ℕ). r.before ++ lines z) none ∙ append-nil r.before))) r.good

pub bad_read : (bytes rest line after : List ℕ) (xs : List Entry) (n : ℕ) → ReadLines bytes rest xs → lines rest ≡ line ∷ lines after → ((x : Entry) → ¬ IsEntry line x) → n ≡ length xs + 1 → IsBadLine bytes n
bad_read bytes rest line after xs n r first none number = record {
  before = r.before;
  bad = line;
  after = lines after;
  entries = xs;
  split = r.split ∙ ap (λ (ls : List (List ℕ)). r.before ++ ls) first;
  good = r.good;
  no_entry = none;
  number = omega (arith, count r.before xs r.good);
}
