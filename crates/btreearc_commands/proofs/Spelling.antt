-- Lines are entries one after the other.
use Rattle.std.proofs.Common.{◌≡◌, ℕ, ◌≤◌, List, [], ◌∷◌, ◌++◌, length, refl, sym, ap, subst, ◌∙◌, arith, append_assoc}
use Rattle.std.proofs.lemmas.Grind.{common_steps}
use Rattle.btreearc_lines.specs.Grammar.{IsEntry, lines, AreEntries, IsLines, Leads, IsSpelled}
use Rattle.btreearc_lines.proofs.Splitting.{EntryFirst, NoFeed, digits-no_feed, nil_feed, line-first, lines-none, entry-first, entry-lines}

entry-no_feed : (line : List ℕ) (x : ℕ × ℕ) → IsEntry line x → NoFeed line
entry-no_feed line x is = subst NoFeed (sym is.spelled) (digits-no_feed is.key (32 ∷ is.value) is.key_is.digits ((λ h. omega (arith, h)), nil_feed is.value is.value_is.digits))

entry-some : (line : List ℕ) (x : ℕ × ℕ) → IsEntry line x → 1 ≤ length line
entry-some line x is =
    let some : 1 ≤ length (is.key ++ 32 ∷ is.value) = grind (arith, common_steps) in
    subst (λ (t : List ℕ). 1 ≤ length t) (sym is.spelled) some

pub lines-of : (entries : List (ℕ × ℕ)) (bytes : List ℕ) → IsSpelled bytes entries → IsLines bytes entries
lines-of [] bytes h = subst (λ (t : List ℕ). IsLines t []) (sym h) tt
lines-of (x ∷ xs) bytes h =
    let l = h.1 in
    let found : lines bytes ≡ l.line ∷ lines h.0 = ap lines l.spelled ∙ line-first l.line l.end h.0 (entry-no_feed l.line x l.is) (entry-some l.line x l.is) l.ends in
    subst (λ (ls : List (List ℕ)). AreEntries ls (x ∷ xs)) (sym found) (l.is, lines-of xs h.0 h.2)

leads : (bytes : List ℕ) (x : ℕ × ℕ) (rest : List ℕ) → EntryFirst bytes x rest → Leads bytes x rest
leads bytes x rest e = record {
  line = e.key.digits ++ 32 ∷ e.value.digits;
  end = e.end;
  spelled = e.key.spelled ∙ (ap (λ (t : List ℕ). e.key.digits ++ t) (e.one_space ∙ ap (λ (t : List ℕ). 32 ∷ t) e.value.spelled) ∙ sym (append_assoc e.key.digits (32 ∷ e.value.digits) e.end));
  is = record { key = e.key.digits; value = e.value.digits; spelled = refl; key_is = e.key.is; value_is = e.value.is };
  ends = e.ends;
}

pub spelled-of : (entries : List (ℕ × ℕ)) (bytes : List ℕ) (found : List (List ℕ)) → lines bytes ≡ found → AreEntries found entries → IsSpelled bytes entries
spelled-of [] bytes [] is h = lines-none bytes is
spelled-of [] bytes (l ∷ ls) is h = absurd h
spelled-of (x ∷ xs) bytes [] is h = absurd h
spelled-of (x ∷ xs) bytes (l ∷ ls) is h =
    let f = entry-first bytes l ls x is h.0 in
    let e = entry-lines bytes x f.0 f.1 in
    let same : e.0 ∷ lines f.0 ≡ l ∷ ls = sym e.2 ∙ is in
    let others : lines f.0 ≡ ls = cc in
    (f.0, leads bytes x f.0 f.1, spelled-of xs f.0 ls others h.1)
