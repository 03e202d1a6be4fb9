-- Pointers to children, one more at a time.
use Rattle.std.proofs.Common.{◌≡◌, ℕ, ◌+◌, ◌*◌, ◌<◌, List, [], ◌∷◌, ◌++◌, length, take, drop, get_or, refl, ap, sym, ◌∙◌, arith, Bool, true, false, ◌&&◌, Option, Some, None}
use Rattle.std.proofs.lemmas.List.{append_assoc, take_more, length-take-le, take-append-drop}
use Rattle.rkyv_btree_writing_laws.specs.Image.{pointers, pointers_reach}
use Rattle.rkyv_btree_writer.specs.Pointers.{pointer, no_pointer, offset_fits}

pub pointers-append : (at : ℕ) (xs ys : List (Option ℕ)) → pointers at (xs ++ ys) ≡ pointers at xs ++ pointers (at + 4 * length xs) ys
pointers-append at [] ys = ap (λ n. pointers n ys) (omega arith)
pointers-append at (None ∷ xs) ys =
    let n : at + 4 + 4 * length xs ≡ at + 4 * length (None ∷ xs) = omega arith in
    ap (λ z. no_pointer ++ z) (pointers-append (at + 4) xs ys) ∙ (sym (append_assoc no_pointer (pointers (at + 4) xs) (pointers (at + 4 + 4 * length xs) ys)) ∙ ap (λ m. (no_pointer ++ pointers (at + 4) xs) ++ pointers m ys) n)
pointers-append at (Some q ∷ xs) ys =
    let n : at + 4 + 4 * length xs ≡ at + 4 * length (Some q ∷ xs) = omega arith in
    ap (λ z. pointer at q ++ z) (pointers-append (at + 4) xs ys) ∙ (sym (append_assoc (pointer at q) (pointers (at + 4) xs) (pointers (at + 4 + 4 * length xs) ys)) ∙ ap (λ m. (pointer at q ++ pointers (at + 4) xs) ++ pointers m ys) n)

and-true : (a b : Bool) → a ≡ true → b ≡ true → (a && b) ≡ true
and-true a b h k = grind arith

pub reach-append : (at : ℕ) (xs ys : List (Option ℕ)) → pointers_reach at (xs ++ ys) ≡ (pointers_reach at xs && pointers_reach (at + 4 * length xs) ys)
reach-append at [] ys = ap (λ n. pointers_reach n ys) (omega arith)
reach-append at (None ∷ xs) ys =
    let n : at + 4 + 4 * length xs ≡ at + 4 * length (None ∷ xs) = omega arith in
    reach-append (at + 4) xs ys ∙ ap (λ m. pointers_reach (at + 4) xs && pointers_reach m ys) n
reach-append at (Some q ∷ xs) ys =
    let n : at + 4 + 4 * length xs ≡ at + 4 * length (Some q ∷ xs) = omega arith in
    ap (λ z. offset_fits at q && z) (reach-append (at + 4) xs ys ∙ ap (λ m. pointers_reach (at + 4) xs && pointers_reach m ys) n) ∙ and-assoc (offset_fits at q) (pointers_reach (at + 4) xs) (pointers_reach (at + 4 * length (Some q ∷ xs)) ys)
  where
    and-assoc : (a b c : Bool) → (a && (b && c)) ≡ ((a && b) && c)
    and-assoc true b c = refl
    and-assoc false b c = refl

-- one pointer more
pub reach_more : (at i n : ℕ) (qs : List (Option ℕ)) (d q : Option ℕ) → i < length qs → q ≡ get_or qs i d → n ≡ at + 4 * i → pointers_reach at (take (i + 1) qs) ≡ (pointers_reach at (take i qs) && pointers_reach n (q ∷ []))
reach_more at i n qs d q h is place =
    ap (pointers_reach at) (take_more qs i d h) ∙ (reach-append at (take i qs) (get_or qs i d ∷ []) ∙ (ap (λ m. pointers_reach at (take i qs) && pointers_reach m (get_or qs i d ∷ [])) (omega (arith, length-take-le i qs (omega arith))) ∙ ap (λ z. pointers_reach at (take i qs) && pointers_reach n (z ∷ [])) (sym is)))

-- a pointer that doesn't reach
pub stray_among : (at i n : ℕ) (qs : List (Option ℕ)) (d q : Option ℕ) → i < length qs → q ≡ get_or qs i d → n ≡ at + 4 * i → pointers_reach n (q ∷ []) ≡ false → pointers_reach at qs ≡ false
stray_among at i n qs d q h is place stray =
    ap (pointers_reach at) (sym (take-append-drop (i + 1) qs)) ∙ (reach-append at (take (i + 1) qs) (drop (i + 1) qs)
    ∙ ap (λ z. z && pointers_reach (at + 4 * length (take (i + 1) qs)) (drop (i + 1) qs)) (reach_more at i n qs d q h is place ∙ (ap (λ z. pointers_reach at (take i qs) && z) stray ∙ and-false (pointers_reach at (take i qs)))))
  where
    and-false : (b : Bool) → (b && false) ≡ false
    and-false true = refl
    and-false false = refl

-- and the last one
pub reach_end : (at n m : ℕ) (qs : List (Option ℕ)) (q : Option ℕ) (x y : Bool) → x ≡ pointers_reach n qs → y ≡ pointers_reach m (q ∷ []) → n ≡ at → m ≡ n + 4 * length qs → (x && y) ≡ pointers_reach at (qs ++ q ∷ [])
reach_end at n m qs q x y hx hy first behind =
    ap (λ z. z && y) hx ∙ (ap (λ z. pointers_reach n qs && z) (hy ∙ ap (λ k. pointers_reach k (q ∷ [])) behind) ∙ (sym (reach-append n qs (q ∷ [])) ∙ ap (λ k. pointers_reach k (qs ++ q ∷ [])) first))

pub both_reach : (at i n : ℕ) (qs : List (Option ℕ)) (d q : Option ℕ) (r : Bool) → i < length qs → q ≡ get_or qs i d → n ≡ at + 4 * i → pointers_reach at (take i qs) ≡ true → r ≡ pointers_reach n (q ∷ []) → r ≡ true → pointers_reach at (take (i + 1) qs) ≡ true
both_reach at i n qs d q r h is place before next near =
    reach_more at i n qs d q h is place ∙ and-true (pointers_reach at (take i qs)) (pointers_reach n (q ∷ [])) before (sym next ∙ near)

pub stray_front : (at n : ℕ) (qs : List (Option ℕ)) (q : Option ℕ) (x : Bool) → x ≡ pointers_reach n qs → x ≡ false → n ≡ at → x ≡ pointers_reach at (qs ++ q ∷ [])
stray_front at n qs q x is far first =
    let more = pointers_reach (at + 4 * length qs) (q ∷ []) in
    far ∙ (ap (λ z. z && more) (sym far ∙ (is ∙ ap (λ k. pointers_reach k qs) first)) ∙ sym (reach-append at qs (q ∷ [])))
