-- Lines, and the changes that they are.
use Rattle.std.proofs.Common.{◌≡◌, ℕ, suc, ◌+◌, List, [], ◌∷◌, ◌++◌, length, map, refl, sym, ap, subst, ◌∙◌, arith, append_assoc, append-nil}
use Rattle.std.proofs.lemmas.List.{map_push}
use Rattle.rkyv_btree_update.specs.declared.change.Change.TheVariants.{Put, Delete}
use Rattle.btreearc_lines.specs.Grammar.{AreEach, lines}
use Rattle.std.specs.Prelude.{IsUtf8}
use Rattle.btreekv_commands.specs.Changing.{AreChanges, IsBadChange, IsChange, TextChange}
use Rattle.btreekv_commands.specs.Lines.{Entry, IsEntry, Lacks}
use Rattle.btreekv_commands.proofs.Splitting.{no_split}

-- a line without a tab that isn't UTF-8 is no change
pub no_change : (line : List ℕ) → Lacks 9 line → (IsUtf8 line → ⊥) → (c : TextChange) → ¬ IsChange line c
no_change line lacks none (k, Put v) h = no_split 9 line k v lacks h.spelled
no_change line lacks none (k, Delete) h = none (subst IsUtf8 (sym h.0) h.2)

-- a line with a tab that is no entry is no change
pub no_entry : (line key value : List ℕ) → line ≡ key ++ 9 ∷ value → ((x : Entry) → ¬ IsEntry line x) → (c : TextChange) → ¬ IsChange line c
no_entry line key value is none (k, Put v) h = none (k, v) h
no_entry line key value is none (k, Delete) h = no_split 9 k key value h.1 (sym h.0 ∙ is)

-- the lines before the rest are these changes
pub record ReadChanges (bytes rest : List ℕ) (changes : List TextChange) : Type 0 where
  pub before : List (List ℕ)
  pub split : lines bytes ≡ before ++ lines rest
  pub good : AreEach IsChange before changes

pub none_read : (bytes : List ℕ) → ReadChanges bytes bytes []
none_read bytes = record { before = []; split = refl; good = tt }

push_change : (ls : List (List ℕ)) (xs : List TextChange) (line : List ℕ) (x : TextChange) → AreEach IsChange ls xs → IsChange line x
    → AreEach IsChange (ls ++ line ∷ []) (xs ++ x ∷ [])
push_change [] [] line x h is = (is, tt)
push_change [] (y ∷ ys) line x h is = absurd h
push_change (l ∷ ls) [] line x h is = absurd h
push_change (l ∷ ls) (y ∷ ys) line x h is = (h.0, push_change ls ys line x h.1 is)

count : (ls : List (List ℕ)) (xs : List TextChange) → AreEach IsChange ls xs → length ls ≡ length xs
count [] [] h = refl
count [] (y ∷ ys) h = absurd h
count (l ∷ ls) [] h = absurd h
count (l ∷ ls) (y ∷ ys) h = ap suc (count ls ys h.1)

pub one_read : {X : Type 0} (means : X → TextChange) (bytes rest line after : List ℕ) (items new : List X) (x : X)
    → ReadChanges bytes rest (map means items) → lines rest ≡ line ∷ lines after → IsChange line (means x) → new ≡ items ++ x ∷ []
    → ReadChanges bytes after (map means new)
one_read means bytes rest line after items new x r first is pushed = record {
  before = r.before ++ line ∷ [];
  split = r.split ∙ (ap (λ (ls : List (List ℕ)). r.before ++ ls) first ∙ sym (append_assoc r.before (line ∷ []) (lines after)));
  good = subst (λ (xs : List TextChange). AreEach IsChange (r.before ++ line ∷ []) xs) (sym (ap (map means) pushed ∙ map_push means items x))
      (push_change r.before (map means items) line (means x) r.good is);
}

pub all_read : (bytes rest : List ℕ) (xs : List TextChange) → ReadChanges bytes rest xs → rest ≡ [] → AreChanges bytes xs
all_read bytes rest xs r none =
    subst (λ (ls : List (List ℕ)). AreEach IsChange ls xs) (sym (r.split ∙ (ap (λ (z : List ℕ). r.before ++ lines z) none ∙ append-nil r.before)))
    r.good

pub bad_read : (bytes rest line after : List ℕ) (xs : List TextChange) (n : ℕ) → ReadChanges bytes rest xs → lines rest ≡ line ∷ lines after
    → ((c : TextChange) → ¬ IsChange line c) → n ≡ length xs + 1 → IsBadChange bytes n
bad_read bytes rest line after xs n r first none number = record {
  before = r.before;
  bad = line;
  after = lines after;
  changes = xs;
  split = r.split ∙ ap (λ (ls : List (List ℕ)). r.before ++ ls) first;
  good = r.good;
  no_change = none;
  number = omega (arith, number, count r.before xs r.good);
}
