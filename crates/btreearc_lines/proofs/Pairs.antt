-- Two numbers at the front of bytes, and lines that are such.
use Rattle.std.proofs.Common.{◌≡◌, ℕ, ◌-◌, List, [], ◌∷◌, ◌++◌, length, take, drop, get_or, true, Option, Some, None, refl, sym, ap, subst, ◌∙◌, arith, append_assoc, append-nil}
use Rattle.std.proofs.lemmas.List.{length-append, take-append-le, take_all}
use Rattle.std.specs.Io.KnownBytes.{Consumes, Keeps}
use Rattle.btreearc_lines.specs.Grammar.{lines, IsEntry}
use Rattle.btreearc_lines.specs.Reading.{NumberFirst, PairFirst, ReadsLine, ReadsNext, TakesLine}
use Rattle.btreearc_lines.specs.declared.entries.NextLine.{NextLine}
use Rattle.btreearc_lines.specs.declared.entries.NextLine.TheVariants.{Entry, Bad, End}
use Rattle.btreearc_lines.proofs.Digits.{number_once, whole_first}
use Rattle.btreearc_lines.proofs.Splitting.{NoFeed, digits-no_feed, nil_feed, lines-feed}

-- Two numbers are at the front in one way.

pub no_space : (bytes space : List ℕ) (k : ℕ) → NumberFirst bytes k space → ((rest : List ℕ) → space ≡ 32 ∷ rest → ⊥) → (x : ℕ × ℕ) (rest : List ℕ) → PairFirst bytes x rest → ⊥
no_space bytes space k p none x rest e = none e.after_space ((number_once bytes k x.0 space e.space p e.key).1 ∙ e.one_space)

-- a list that begins with a space, by what is read there
pub space_first : (space : List ℕ) → get_or space 0 0 ≡ 32 → space ≡ 32 ∷ take (length space - 1) (drop 1 space)
space_first [] first = absurd (omega (arith, first))
space_first (c ∷ cs) first =
    let rest : take (length cs) cs ≡ cs = take_all (length cs) cs (omega arith) in
    let size : length (c ∷ cs) - 1 ≡ length cs = omega arith in
    rw (first, size, rest) refl

same_digits : (bytes space digits : List ℕ) (k : ℕ) → NumberFirst bytes k space → space ≡ 32 ∷ digits → (x : ℕ × ℕ) (rest : List ℕ) → (e : PairFirst bytes x rest) → e.after_space ≡ digits
same_digits bytes space digits k p one x rest e =
    let h : space ≡ e.space = (number_once bytes k x.0 space e.space p e.key).1 in
    let g : 32 ∷ e.after_space ≡ 32 ∷ digits = sym e.one_space ∙ (sym h ∙ one) in
    cc

pub no_value : (bytes space digits : List ℕ) (k : ℕ) → NumberFirst bytes k space → space ≡ 32 ∷ digits → ((n : ℕ) (end : List ℕ) → NumberFirst digits n end → ⊥) → (x : ℕ × ℕ) (rest : List ℕ) → PairFirst bytes x rest → ⊥
no_value bytes space digits k p one none x rest e = none x.1 rest (subst (λ ds. NumberFirst ds x.1 rest) (same_digits bytes space digits k p one x rest e) e.value)

pub pair_once : (bytes : List ℕ) (x y : ℕ × ℕ) (rest after : List ℕ) → PairFirst bytes x rest → PairFirst bytes y after → rest ≡ after
pair_once bytes x y rest after p q =
    let value : NumberFirst p.after_space y.1 after = subst (λ ds. NumberFirst ds y.1 after) (same_digits bytes p.space p.after_space x.0 p.key p.one_space y after q) q.value in
    (number_once p.after_space x.1 y.1 rest after p.value value).1

-- A line that is two numbers and no more.

pub entry_pair : (line : List ℕ) (x : ℕ × ℕ) → IsEntry line x → PairFirst line x []
entry_pair line x is = record {
  space = 32 ∷ is.value;
  after_space = is.value;
  key = record { digits = is.key; spelled = is.spelled; is = is.key_is; ends = λ d. omega (arith, d.0) };
  one_space = refl;
  value = whole_first is.value x.1 is.value_is;
}

-- the bytes of the two numbers, and what is after them
pub record PairParts (bytes : List ℕ) (x : ℕ × ℕ) (rest : List ℕ) : Type 0 where
  pub line : List ℕ
  pub parts : bytes ≡ line ++ rest
  pub is : IsEntry line x
  pub no_feed : NoFeed line

pub pair_parts : (bytes : List ℕ) (x : ℕ × ℕ) (rest : List ℕ) → PairFirst bytes x rest → PairParts bytes x rest
pair_parts bytes x rest p =
    let found = p.key.digits ++ 32 ∷ p.value.digits in
    record {
      line = found;
      parts = p.key.spelled ∙ (ap (λ (t : List ℕ). p.key.digits ++ t) (p.one_space ∙ ap (λ (t : List ℕ). 32 ∷ t) p.value.spelled) ∙ sym (append_assoc p.key.digits (32 ∷ p.value.digits) rest));
      is = record { key = p.key.digits; value = p.value.digits; spelled = refl; key_is = p.key.is; value_is = p.value.is };
      no_feed = digits-no_feed p.key.digits (32 ∷ p.value.digits) p.key.is.digits ((λ h. omega (arith, h)), nil_feed p.value.digits p.value.is.digits);
    }

pub pair_entry : (line : List ℕ) (x : ℕ × ℕ) (rest : List ℕ) → PairFirst line x rest → rest ≡ [] → IsEntry line x
pair_entry line x rest p none =
    let q = pair_parts line x rest p in
    subst (λ (t : List ℕ). IsEntry t x) (sym (q.parts ∙ (ap (λ (r : List ℕ). q.line ++ r) none ∙ append-nil q.line))) q.is

pub more_no_entry : (line : List ℕ) (x : ℕ × ℕ) (rest : List ℕ) → PairFirst line x rest → (rest ≡ [] → ⊥) → (y : ℕ × ℕ) → IsEntry line y → ⊥
more_no_entry line x rest p some y is = some (pair_once line x y rest [] p (entry_pair line y is))

-- A line that a reader has at hand.

taken_line : (line after : List ℕ) → take (length (line ++ 10 ∷ after) - length after) (line ++ 10 ∷ after) ≡ line ++ 10 ∷ []
taken_line line after =
    let n : length (line ++ 10 ∷ after) - length after ≡ length (line ++ 10 ∷ []) = omega (arith, length-append line (10 ∷ after), length-append line (10 ∷ [])) in
    ap (λ (k : ℕ). take k (line ++ 10 ∷ after)) n ∙ (ap (take (length (line ++ 10 ∷ []))) (sym (append_assoc line (10 ∷ []) after))
    ∙ (take-append-le (length (line ++ 10 ∷ [])) (line ++ 10 ∷ []) after (omega arith) ∙ take_all (length (line ++ 10 ∷ [])) (line ++ 10 ∷ []) (omega arith)))

pub taken_at_hand : (old new : Option (List ℕ)) (bytes after : List ℕ) (x : ℕ × ℕ) → PairFirst bytes x (10 ∷ after) → Consumes old new (take (length bytes - length after) bytes) → TakesLine (λ line. IsEntry line x) old new
taken_at_hand None new bytes after x p took = tt
taken_at_hand (Some xs) None bytes after x p took = absurd took
taken_at_hand (Some xs) (Some ys) bytes after x p took =
    let q = pair_parts bytes x (10 ∷ after) p in
    let front : take (length bytes - length after) bytes ≡ q.line ++ 10 ∷ [] = ap (λ (b : List ℕ). take (length b - length after) b) q.parts ∙ taken_line q.line after in
    let whole : xs ≡ q.line ++ 10 ∷ ys = took ∙ (ap (λ (f : List ℕ). f ++ ys) front ∙ append_assoc q.line (10 ∷ []) ys) in
    (q.line, ap lines whole ∙ lines-feed q.line ys q.no_feed, q.is)

-- what was read as a line was taken
pub read_as : (Is : List ℕ → Type 0) (old new : Option (List ℕ)) (line : List ℕ) → ReadsLine old true line new → Is line → TakesLine Is old new
read_as Is None new line read is = tt
read_as Is (Some bytes) None line read is = absurd read
read_as Is (Some bytes) (Some rest) line read is = (line, read, is)

-- What is read after nothing was taken.

kept_line : (Is : List ℕ → Type 0) (old mid new : Option (List ℕ)) → Keeps old mid → TakesLine Is mid new → TakesLine Is old new
kept_line Is None mid new kept h = tt
kept_line Is (Some xs) None new kept h = absurd kept
kept_line Is (Some xs) (Some ys) new kept h = subst (λ (zs : List ℕ). TakesLine Is (Some zs) new) kept h

kept_end : (old mid : Option (List ℕ)) → Keeps old mid → ReadsNext mid End mid → ReadsNext old End mid
kept_end None mid kept h = tt
kept_end (Some xs) None kept h = absurd kept
kept_end (Some xs) (Some ys) kept h = sym kept ∙ h

pub kept_next : (old mid new : Option (List ℕ)) (next : NextLine) → Keeps old mid → ReadsNext mid next new → ReadsNext old next new
kept_next old mid new (Entry x) kept h = kept_line (λ line. IsEntry line x) old mid new kept h
kept_next old mid new Bad kept h = kept_line (λ line. (x : ℕ × ℕ) → ¬ IsEntry line x) old mid new kept h
kept_next old mid new End kept h = kept_end old mid kept h
