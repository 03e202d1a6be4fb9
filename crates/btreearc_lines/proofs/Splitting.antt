-- Lines and their ends.
use Rattle.std.proofs.Common.{◌≡◌, ◌≢◌, ℕ, suc, ◌+◌, ◌≤◌, List, [], ◌∷◌, ◌++◌, length, refl, sym, ap, subst, ◌∙◌, arith, rules, append_assoc, append-nil, if◌then◌else◌, inl, inr, ◌==◌, Bool, true, false}
use Rattle.std.proofs.lemmas.Grind.{common_steps}
use Rattle.btreearc_lines.specs.Grammar.{LineEnds, AreDigits, IsEntry, begun, lines, AreEntries, IsLines, BadLine}
use Rattle.btreearc_lines.specs.Reading.{NoDigitFirst, NumberFirst}

-- the lines before the rest are the entries so far
pub record ReadLines (bytes rest : List ℕ) (entries : List (ℕ × ℕ)) : Type 0 where
  pub before : List (List ℕ)
  pub split : lines bytes ≡ before ++ lines rest
  pub good : AreEntries before entries

-- an entry is at the front, and rest is after its line
pub record EntryFirst (bytes : List ℕ) (x : ℕ × ℕ) (rest : List ℕ) : Type 0 where
  pub space : List ℕ
  pub after_space : List ℕ
  pub end : List ℕ
  pub key : NumberFirst bytes x.0 space
  pub one_space : space ≡ 32 ∷ after_space
  pub value : NumberFirst after_space x.1 end
  pub ends : LineEnds end rest

-- Lines of a list that begins with an entry.

abbrev pub NoFeed : List ℕ → Type 0
NoFeed [] = Unit {0}
NoFeed (c ∷ cs) = (c ≢ 10) × NoFeed cs

not_ten : (c : ℕ) → c ≢ 10 → (c == 10) ≡ false
not_ten c h = search rules

pub lines-feed : (line rest : List ℕ) → NoFeed line → lines (line ++ 10 ∷ rest) ≡ line ∷ lines rest
lines-feed [] rest h = refl
lines-feed (c ∷ cs) rest h = rw (not_ten c h.0, lines-feed cs rest h.1) refl

lines-last : (c : ℕ) (cs : List ℕ) → NoFeed (c ∷ cs) → lines (c ∷ cs) ≡ (c ∷ cs) ∷ []
lines-last c [] h = rw (not_ten c h.0) refl
lines-last c (d ∷ ds) h = rw (not_ten c h.0, lines-last d ds h.1) refl

pub digits-no_feed : (ds rest : List ℕ) → AreDigits ds → NoFeed rest → NoFeed (ds ++ rest)
digits-no_feed [] rest h r = r
digits-no_feed (c ∷ cs) rest h r = ((λ e. omega (arith, h.0.0)), digits-no_feed cs rest h.1 r)

-- a line in front of its end
pub line-first : (line end rest : List ℕ) → NoFeed line → 1 ≤ length line → LineEnds end rest → lines (line ++ end) ≡ line ∷ lines rest
line-first [] end rest h some ends = absurd (omega (arith, some))
line-first (c ∷ cs) end rest h some (inl e) = rw e (lines-feed (c ∷ cs) rest h)
line-first (c ∷ cs) end rest h some (inr e) = ap (λ (t : List ℕ). lines ((c ∷ cs) ++ t)) e.0 ∙ (ap lines (append-nil (c ∷ cs)) ∙ (lines-last c cs h ∙ ap (λ (r : List ℕ). (c ∷ cs) ∷ lines r) (sym e.1)))

spelled : (bytes : List ℕ) (x : ℕ × ℕ) (rest : List ℕ) → (e : EntryFirst bytes x rest) → bytes ≡ (e.key.digits ++ 32 ∷ e.value.digits) ++ e.end
spelled bytes x rest e = e.key.spelled ∙ (ap (λ (t : List ℕ). e.key.digits ++ t) (e.one_space ∙ ap (λ (t : List ℕ). 32 ∷ t) e.value.spelled) ∙ sym (append_assoc e.key.digits (32 ∷ e.value.digits) e.end))

pub nil_feed : (ds : List ℕ) → AreDigits ds → NoFeed ds
nil_feed ds h = subst NoFeed (append-nil ds) (digits-no_feed ds [] h tt)

pub entry-lines : (bytes : List ℕ) (x : ℕ × ℕ) (rest : List ℕ) → EntryFirst bytes x rest → (line : List ℕ) × IsEntry line x × (lines bytes ≡ line ∷ lines rest)
entry-lines bytes x rest e =
    let found = e.key.digits ++ 32 ∷ e.value.digits in
    let no_feed : NoFeed found = digits-no_feed e.key.digits (32 ∷ e.value.digits) e.key.is.digits ((λ h. omega (arith, h)), nil_feed e.value.digits e.value.is.digits) in
    let some : 1 ≤ length found = grind (arith, common_steps) in (
      found,
      record { key = e.key.digits; value = e.value.digits; spelled = refl; key_is = e.key.is; value_is = e.value.is },
      ap lines (spelled bytes x rest e) ∙ line-first found e.end rest no_feed some e.ends,
    )

-- The first line of a list, and its end.
pub record LineFirst (bytes line : List ℕ) : Type 0 where
  pub end : List ℕ
  pub rest : List ℕ
  pub spelled : bytes ≡ line ++ end
  pub ends : LineEnds end rest

some : (c : ℕ) (ten : Bool) (others : List (List ℕ)) → (if ten then [] ∷ others else begun c others) ≡ [] → ⊥
some c true others e = grind (arith, e)
some c false [] e = grind (arith, e)
some c false (l ∷ ls) e = grind (arith, e)

pub lines-none : (bytes : List ℕ) → lines bytes ≡ [] → bytes ≡ []
lines-none [] e = refl
lines-none (c ∷ cs) e = absurd (some c (c == 10) (lines cs) e)

begun-first : (c : ℕ) (cs : List ℕ) (found : List (List ℕ)) (line : List ℕ) (others : List (List ℕ)) → lines cs ≡ found → begun c found ≡ line ∷ others → ((l : List ℕ) (ls : List (List ℕ)) → lines cs ≡ l ∷ ls → LineFirst cs l) → LineFirst (c ∷ cs) line
begun-first c cs [] line others is e more =
    let h : c ∷ [] ≡ line = cc in
    let n : cs ≡ [] = lines-none cs is in
    record { end = []; rest = []; spelled = ap (λ (t : List ℕ). c ∷ t) n ∙ (h ∙ sym (append-nil line)); ends = inr (refl, refl) }
begun-first c cs (l ∷ ls) line others is e more =
    let h : c ∷ l ≡ line = cc in
    let m = more l ls is in
    record { end = m.end; rest = m.rest; spelled = ap (λ (t : List ℕ). c ∷ t) m.spelled ∙ ap (λ (t : List ℕ). t ++ m.end) h; ends = m.ends }

by_first : (c : ℕ) (cs line : List ℕ) (others : List (List ℕ)) (ten : Bool) → (c == 10) ≡ ten → (if ten then [] ∷ lines cs else begun c (lines cs)) ≡ line ∷ others → ((l : List ℕ) (ls : List (List ℕ)) → lines cs ≡ l ∷ ls → LineFirst cs l) → LineFirst (c ∷ cs) line
by_first c cs line others true is e more =
    let h : [] ≡ line = cc in
    let ten : c ≡ 10 = search rules in
    record { end = 10 ∷ cs; rest = cs; spelled = ap (λ (d : ℕ). d ∷ cs) ten ∙ ap (λ (t : List ℕ). t ++ 10 ∷ cs) h; ends = inl refl }
by_first c cs line others false is e more = begun-first c cs (lines cs) line others refl e more

pub first-line : (bytes line : List ℕ) (others : List (List ℕ)) → lines bytes ≡ line ∷ others → LineFirst bytes line
first-line [] line others e = absurd (grind (arith, e))
first-line (c ∷ cs) line others e = by_first c cs line others (c == 10) refl e (λ l ls h. first-line cs l ls h)

end-no_digit : (end rest : List ℕ) → LineEnds end rest → NoDigitFirst end
end-no_digit end rest (inl e) = rw e (λ d. omega (arith, d.0))
end-no_digit end rest (inr e) = rw e.0 tt

-- an entry on the first line is found there
pub entry-first : (bytes line : List ℕ) (others : List (List ℕ)) (x : ℕ × ℕ) → lines bytes ≡ line ∷ others → IsEntry line x → (rest : List ℕ) × EntryFirst bytes x rest
entry-first bytes line others x e is =
    let f = first-line bytes line others e in
    let whole : bytes ≡ is.key ++ 32 ∷ (is.value ++ f.end) = f.spelled ∙ (ap (λ (t : List ℕ). t ++ f.end) is.spelled ∙ append_assoc is.key (32 ∷ is.value) f.end) in (
      f.rest,
      record {
        space = 32 ∷ (is.value ++ f.end);
        after_space = is.value ++ f.end;
        end = f.end;
        key = record { digits = is.key; spelled = whole; is = is.key_is; ends = λ d. omega (arith, d.0) };
        one_space = refl;
        value = record { digits = is.value; spelled = refl; is = is.value_is; ends = end-no_digit f.end f.rest f.ends };
        ends = f.ends;
      },
    )

-- Lines against entries.

entries-snoc : (ls : List (List ℕ)) (xs : List (ℕ × ℕ)) (line : List ℕ) (x : ℕ × ℕ) → AreEntries ls xs → IsEntry line x → AreEntries (ls ++ line ∷ []) (xs ++ x ∷ [])
entries-snoc [] [] line x h is = (is, tt)
entries-snoc [] (y ∷ ys) line x h is = absurd h
entries-snoc (l ∷ ls) [] line x h is = absurd h
entries-snoc (l ∷ ls) (y ∷ ys) line x h is = (h.0, entries-snoc ls ys line x h.1 is)

pub entries-length : (ls : List (List ℕ)) (xs : List (ℕ × ℕ)) → AreEntries ls xs → length ls ≡ length xs
entries-length [] [] h = refl
entries-length [] (y ∷ ys) h = absurd h
entries-length (l ∷ ls) [] h = absurd h
entries-length (l ∷ ls) (y ∷ ys) h = ap suc (entries-length ls ys h.1)

pub one_read : (bytes rest line after : List ℕ) (xs : List (ℕ × ℕ)) (x : ℕ × ℕ) → ReadLines bytes rest xs → lines rest ≡ line ∷ lines after → IsEntry line x → ReadLines bytes after (xs ++ x ∷ [])
one_read bytes rest line after xs x r first is = record {
  before = r.before ++ line ∷ [];
  split = r.split ∙ (ap (λ (ls : List (List ℕ)). r.before ++ ls) first ∙ sym (append_assoc r.before (line ∷ []) (lines after)));
  good = entries-snoc r.before xs line x r.good is;
}

pub all_read : (bytes rest : List ℕ) (xs : List (ℕ × ℕ)) → ReadLines bytes rest xs → rest ≡ [] → IsLines bytes xs
all_read bytes rest xs r none = subst (λ (ls : List (List ℕ)). AreEntries ls xs) (sym (r.split ∙ (ap (λ (z : List ℕ). r.before ++ lines z) none ∙ append-nil r.before))) r.good

pub bad_read : (bytes rest line after : List ℕ) (xs : List (ℕ × ℕ)) (n : ℕ) → ReadLines bytes rest xs → lines rest ≡ line ∷ lines after → ((x : ℕ × ℕ) → ¬ IsEntry line x) → n ≡ length xs + 1 → BadLine bytes n
bad_read bytes rest line after xs n r first none number = record {
  before = r.before;
  bad = line;
  behind = lines after;
  entries = xs;
  split = r.split ∙ ap (λ (ls : List (List ℕ)). r.before ++ ls) first;
  good = r.good;
  no_entry = none;
  count = omega (arith, number, entries-length r.before xs r.good);
}
