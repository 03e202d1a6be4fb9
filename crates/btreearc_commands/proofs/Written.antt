-- Written lines are read back.
use Rattle.std.proofs.Common.{◌≡◌, ℕ, ◌<◌, ◌≤◌, ◌^◌, List, [], ◌∷◌, ◌++◌, length, refl, sym, ap, subst, ◌∙◌, arith, rules, append_assoc, inl}
use Rattle.std.proofs.lemmas.Grind.{common_steps}
use Rattle.std.specs.Prelude.{decimal}
use Rattle.std.proofs.lemmas.Fmt.{digits_decimal, digits_value-decimal, length-decimal-le, decimal_is_IsNumeral}
use Rattle.btreearc_lines.specs.Grammar.{IsNumber, IsEntry, lines, line, text_of, AreEntries, AreShort, IsLines}
use Rattle.btreearc_lines.proofs.Digits.{own}
use Rattle.btreearc_lines.proofs.Splitting.{line-first, digits-no_feed, nil_feed, NoFeed}

number-written : (n : ℕ) → n < 2 ^ 32 → IsNumber (decimal n) n
number-written n h = record {
  digits = digits_decimal own n (omega (arith, h));
  some = omega (arith, (decimal_is_IsNumeral n (omega (arith, h))).0.0);
  few = search (rules, length-decimal-le 10);
  value = digits_value-decimal own n (omega (arith, h));
  fits = h;
}

pub entry-written : (x : ℕ × ℕ) (rest : List ℕ) → x.0 < 2 ^ 32 → x.1 < 2 ^ 32 → IsEntry (decimal x.0 ++ 32 ∷ decimal x.1) x × (lines (line x ++ rest) ≡ (decimal x.0 ++ 32 ∷ decimal x.1) ∷ lines rest)
entry-written x rest hk hv =
    let k = number-written x.0 hk in
    let v = number-written x.1 hv in
    let found = decimal x.0 ++ 32 ∷ decimal x.1 in
    let no_feed : NoFeed found = digits-no_feed (decimal x.0) (32 ∷ decimal x.1) k.digits ((λ h. omega (arith, h)), nil_feed (decimal x.1) v.digits) in
    let some : 1 ≤ length found = grind (arith, common_steps) in
    let whole : line x ++ rest ≡ found ++ 10 ∷ rest =
    append_assoc (decimal x.0) (32 ∷ (decimal x.1 ++ 10 ∷ [])) rest ∙ (ap (λ (t : List ℕ). decimal x.0 ++ 32 ∷ t) (append_assoc (decimal x.1) (10 ∷ []) rest) ∙ sym (append_assoc (decimal x.0) (32 ∷ decimal x.1) (10 ∷ rest))) in (
      record { key = decimal x.0; value = decimal x.1; spelled = refl; key_is = k; value_is = v },
      ap lines whole ∙ line-first found (10 ∷ rest) rest no_feed some (inl refl),
    )

pub written-lines : (entries : List (ℕ × ℕ)) → AreShort entries → IsLines (text_of entries) entries
written-lines [] h = tt
written-lines (x ∷ xs) h =
    let w = entry-written x (text_of xs) h.0.0 h.0.1 in
    subst (λ (ls : List (List ℕ)). AreEntries ls (x ∷ xs)) (sym w.1) (w.0, written-lines xs h.1)
