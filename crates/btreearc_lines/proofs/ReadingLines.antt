-- The first line of bytes, by what reads up to a line feed.
use Rattle.std.proofs.Common.{◌≡◌, ℕ, suc, ◌-◌, List, [], ◌∷◌, length, refl, sym, ap, subst, ◌∙◌, arith, if◌then◌else◌, ◌==◌, Bool, true, false, take, slice_index, nat_lt, Option, Some, None, IfSome}
use Rattle.std.proofs.lemmas.Bool.Decides.{nat_tests}
use Rattle.std.specs.Io.BufRead.{take_through, drop_through, strip_last, DropsThrough}
use Rattle.btreearc_lines.specs.Grammar.{begun, lines}
use Rattle.btreearc_lines.specs.Reading.{ReadsLine}

cut_more : (t : Bool) (x : ℕ) (short long : List ℕ) → (if t then x ∷ short else x ∷ long) ≡ x ∷ (if t then short else long)
cut_more true x short long = refl
cut_more false x short long = refl

-- a byte in front of others stays when the last is cut off
strip_more : (b x y : ℕ) (ys : List ℕ) → strip_last b (x ∷ y ∷ ys) ≡ x ∷ strip_last b (y ∷ ys)
strip_more b x y ys =
    let e : length (x ∷ y ∷ ys) - 1 ≡ suc (length ys) = omega arith in
    let f : length (y ∷ ys) - 1 ≡ length ys = omega arith in
    let p : nat_lt 0 (length (x ∷ y ∷ ys)) ≡ true = grind (arith, nat_tests) in
    let q : nat_lt 0 (length (y ∷ ys)) ≡ true = grind (arith, nat_tests) in
    rw (e, f, p, q) (cut_more (slice_index (y ∷ ys) (length ys) == b) x (take (length ys) (y ∷ ys)) (y ∷ ys))

strip_in_front : (x : ℕ) (ys : List ℕ) (d : ℕ) (ds : List ℕ) → ys ≡ d ∷ ds → strip_last 10 (x ∷ ys) ≡ x ∷ strip_last 10 ys
strip_in_front x ys d ds is = subst (λ (zs : List ℕ). strip_last 10 (x ∷ zs) ≡ x ∷ strip_last 10 zs) (sym is) (strip_more 10 x d ds)

taken_some : (d : ℕ) (ds : List ℕ) (b : Bool) → (d == 10) ≡ b → (e : ℕ) × (es : List ℕ) × (take_through 10 (d ∷ ds) ≡ e ∷ es)
taken_some d ds true is = (d, [], rw is refl)
taken_some d ds false is = (d, take_through 10 ds, rw is refl)

-- the bytes up to a line feed, without it, are the first line
line_read : (c : ℕ) (cs : List ℕ) (b : Bool) → (c == 10) ≡ b → lines (c ∷ cs) ≡ strip_last 10 (take_through 10 (c ∷ cs)) ∷ lines (drop_through 10 (c ∷ cs))
line_read c cs true is = rw is (rw is refl)
line_read c [] false is = rw is (rw is refl)
line_read c (d ∷ ds) false is =
    let some = taken_some d ds (d == 10) refl in
    let rest : lines (d ∷ ds) ≡ strip_last 10 (take_through 10 (d ∷ ds)) ∷ lines (drop_through 10 (d ∷ ds)) = line_read d ds (d == 10) refl in
    rw is (ap (begun c) rest ∙ ap (λ (line : List ℕ). line ∷ lines (drop_through 10 (d ∷ ds))) (sym (strip_in_front c (take_through 10 (d ∷ ds)) some.0 some.1 some.2)))

none_taken : (n : ℕ) → length (take_through 10 []) ≡ n → n ≡ 0
none_taken n is = sym is

-- what reading up to a line feed takes, if it isn't nothing, is the first line
pub line_taken : (old new : Option (List ℕ)) (taken line : List ℕ) → IfSome old (λ xs. taken ≡ take_through 10 xs) → DropsThrough old new 10 → (length taken ≡ 0 → ⊥) → line ≡ strip_last 10 taken → ReadsLine old true line new
line_taken None new taken line is rest some stripped = tt
line_taken (Some []) new taken line is rest some stripped = absurd (some (ap length is))
line_taken (Some (c ∷ cs)) new taken line is rest some stripped =
    subst (λ (n : Option (List ℕ)). ReadsLine (Some (c ∷ cs)) true line n) (sym rest)
    (line_read c cs (c == 10) refl ∙ ap (λ (l : List ℕ). l ∷ lines (drop_through 10 (c ∷ cs))) (sym (stripped ∙ ap (strip_last 10) is)))
