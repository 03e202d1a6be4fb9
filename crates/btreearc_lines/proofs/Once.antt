-- Lines are entries in one way, or have one first bad line.
use Rattle.std.proofs.Common.{◌≡◌, ℕ, suc, List, [], ◌∷◌, ◌++◌, length, refl, sym, ap, subst, ◌∙◌, arith}
use Rattle.btreearc_lines.specs.Grammar.{IsNumber, value_after, IsEntry, AreEntries, IsLines, BadLine}
use Rattle.btreearc_lines.proofs.Digits.{same_front}

number-value : (a b : List ℕ) (n m : ℕ) → IsNumber a n → IsNumber b m → a ≡ b → n ≡ m
number-value a b n m p q e = sym p.value ∙ (ap (value_after 0) e ∙ q.value)

pub entry-once : (line : List ℕ) (x y : ℕ × ℕ) → IsEntry line x → IsEntry line y → x ≡ y
entry-once line x y p q =
    let s = same_front p.key q.key (32 ∷ p.value) (32 ∷ q.value) p.key_is.digits q.key_is.digits (λ d. omega (arith, d.0)) (λ d. omega (arith, d.0)) (sym p.spelled ∙ q.spelled) in
    let tail : 32 ∷ p.value ≡ 32 ∷ q.value = s.1 in
    let values : p.value ≡ q.value = cc in
    let k : x.0 ≡ y.0 = number-value p.key q.key x.0 y.0 p.key_is q.key_is s.0 in
    let v : x.1 ≡ y.1 = number-value p.value q.value x.1 y.1 p.value_is q.value_is values in
    ap (λ (n : ℕ). (n, x.1)) k ∙ ap (λ (n : ℕ). (y.0, n)) v

pub entries-once : (ls : List (List ℕ)) (xs ys : List (ℕ × ℕ)) → AreEntries ls xs → AreEntries ls ys → xs ≡ ys
entries-once [] [] [] p q = refl
entries-once [] [] (y ∷ ys) p q = absurd q
entries-once [] (x ∷ xs) ys p q = absurd p
entries-once (l ∷ ls) [] ys p q = absurd p
entries-once (l ∷ ls) (x ∷ xs) [] p q = absurd q
entries-once (l ∷ ls) (x ∷ xs) (y ∷ ys) p q = ap (λ (z : ℕ × ℕ). z ∷ xs) (entry-once l x y p.0 q.0) ∙ ap (λ (zs : List (ℕ × ℕ)). y ∷ zs) (entries-once ls xs ys p.1 q.1)

one_bad : (before behind : List (List ℕ)) (bad : List ℕ) (xs : List (ℕ × ℕ)) → AreEntries (before ++ bad ∷ behind) xs → ((x : ℕ × ℕ) → IsEntry bad x → ⊥) → ⊥
one_bad [] behind bad [] p none = absurd p
one_bad [] behind bad (x ∷ xs) p none = none x p.0
one_bad (l ∷ ls) behind bad [] p none = absurd p
one_bad (l ∷ ls) behind bad (x ∷ xs) p none = one_bad ls behind bad xs p.1 none

pub not_both : (bytes : List ℕ) (n : ℕ) (xs : List (ℕ × ℕ)) → IsLines bytes xs → BadLine bytes n → ⊥
not_both bytes n xs p b = one_bad b.before b.behind b.bad xs (subst (λ (ls : List (List ℕ)). AreEntries ls xs) b.split p) b.no_entry

same_before : (a b c d : List (List ℕ)) (x y : List ℕ) (xs ys : List (ℕ × ℕ)) → AreEntries a xs → AreEntries b ys → ((z : ℕ × ℕ) → IsEntry x z → ⊥) → ((z : ℕ × ℕ) → IsEntry y z → ⊥) → a ++ x ∷ c ≡ b ++ y ∷ d → length a ≡ length b
same_before [] [] c d x y xs ys p q nx ny e = refl
same_before [] (l ∷ ls) c d x y xs [] p q nx ny e = absurd q
same_before [] (l ∷ ls) c d x y xs (w ∷ ws) p q nx ny e =
    let h : l ≡ x = cc in
    absurd (nx w (subst (λ (t : List ℕ). IsEntry t w) h q.0))
same_before (l ∷ ls) [] c d x y [] ys p q nx ny e = absurd p
same_before (l ∷ ls) [] c d x y (w ∷ ws) ys p q nx ny e =
    let h : l ≡ y = cc in
    absurd (ny w (subst (λ (t : List ℕ). IsEntry t w) h p.0))
same_before (k ∷ ks) (l ∷ ls) c d x y [] ys p q nx ny e = absurd p
same_before (k ∷ ks) (l ∷ ls) c d x y (v ∷ vs) [] p q nx ny e = absurd q
same_before (k ∷ ks) (l ∷ ls) c d x y (v ∷ vs) (w ∷ ws) p q nx ny e =
    let tail : ks ++ x ∷ c ≡ ls ++ y ∷ d = cc in
    ap suc (same_before ks ls c d x y vs ws p.1 q.1 nx ny tail)

pub bad-once : (bytes : List ℕ) (n m : ℕ) → BadLine bytes n → BadLine bytes m → n ≡ m
bad-once bytes n m p q =
    let h : length p.before ≡ length q.before = same_before p.before q.before p.behind q.behind p.bad q.bad p.entries q.entries p.good q.good p.no_entry q.no_entry (sym p.split ∙ q.split) in
    omega (arith, p.count, q.count)
