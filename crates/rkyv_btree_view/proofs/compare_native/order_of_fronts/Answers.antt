-- Lists that are ordered by their first bytes, read as a number in which the first counts most.
use Rattle.std.specs.Prelude.{◌≡◌, ℕ, zero, suc, ◌+◌, ◌*◌, ◌≤◌, ◌<◌, List, [], ◌∷◌, length, slice_index, take}
use Rattle.std.specs.Cmp.{nat_cmp_is}
use Rattle.std.specs.Cmp.Lexicographic.{slice_cmp}
use Rattle.std.specs.Int.{from_be_bytes, w64}
use Rattle.std.specs.Ordering.{nat_cmp, ordering_then}
use Rattle.std.proofs.Common.{Fits, w8, subst, sym, ap, ◌∙◌, arith, inl, inr, Less, Greater, Equal}
use Rattle.std.proofs.lemmas.Bool.{cases_lt}
use Rattle.rkyv_btree_view.proofs.compare_native.order_of_fronts.Goals as goal

abbrev AreBytes : List ℕ → Type 0
AreBytes xs = (k : ℕ) → Fits w8 (slice_index xs k)

-- the number of bytes after those that gave n
abbrev number : ℕ → List ℕ → ℕ
number n [] = n
number n (b ∷ bs) = number (n * 256 + b) bs

-- a lesser beginning stays lesser
rises : (k a b : ℕ) (us vs : List ℕ) → k ≤ length us → k ≤ length vs → AreBytes us → a < b → number a (take k us) < number b (take k vs)
rises zero a b us vs p q h l = l
rises (suc k) a b [] vs p q h l = absurd (omega arith)
rises (suc k) a b (u ∷ us) [] p q h l = absurd (omega arith)
rises (suc k) a b (u ∷ us) (v ∷ vs) p q h l =
    let small : u < 256 = (h 0).fits in
    rises k (a * 256 + u) (b * 256 + v) us vs (omega arith) (omega arith) (λ i. h (suc i)) (omega arith)

less : (k a : ℕ) (us vs : List ℕ) → k ≤ length us → k ≤ length vs → AreBytes us → AreBytes vs → number a (take k us) < number a (take k vs) → Less ≡ slice_cmp nat_cmp us vs
less zero a us vs p q g h l = absurd (omega arith)
less (suc k) a [] vs p q g h l = absurd (omega arith)
less (suc k) a (u ∷ us) [] p q g h l = absurd (omega arith)
less (suc k) a (u ∷ us) (v ∷ vs) p q g h l =
    elim (cases_lt u v) [
      | inl under ↦ ap (λ r. ordering_then r (slice_cmp nat_cmp us vs)) (nat_cmp_is u v Less under)
      | inr from ↦
          elim (cases_lt v u) [
            | inl over ↦
                let falls = rises k (a * 256 + v) (a * 256 + u) vs us (omega arith) (omega arith) (λ i. h (suc i)) (omega arith) in
                absurd (omega arith)
            | inr to ↦
                let level : u ≡ v = omega arith in
                less k (a * 256 + u) us vs (omega arith) (omega arith) (λ i. g (suc i)) (λ i. h (suc i)) (subst (λ z. number (a * 256 + u) (take k us) < number (a * 256 + z) (take k vs)) (sym level) l)
                ∙ ap (λ r. ordering_then r (slice_cmp nat_cmp us vs)) (nat_cmp_is u v Equal level)
          ]
    ]

greater : (k a : ℕ) (us vs : List ℕ) → k ≤ length us → k ≤ length vs → AreBytes us → AreBytes vs → number a (take k vs) < number a (take k us) → Greater ≡ slice_cmp nat_cmp us vs
greater zero a us vs p q g h l = absurd (omega arith)
greater (suc k) a [] vs p q g h l = absurd (omega arith)
greater (suc k) a (u ∷ us) [] p q g h l = absurd (omega arith)
greater (suc k) a (u ∷ us) (v ∷ vs) p q g h l =
    elim (cases_lt v u) [
      | inl over ↦ ap (λ r. ordering_then r (slice_cmp nat_cmp us vs)) (nat_cmp_is u v Greater over)
      | inr from ↦
          elim (cases_lt u v) [
            | inl under ↦
                let falls = rises k (a * 256 + u) (a * 256 + v) us vs (omega arith) (omega arith) (λ i. g (suc i)) (omega arith) in
                absurd (omega arith)
            | inr to ↦
                let level : u ≡ v = omega arith in
                greater k (a * 256 + u) us vs (omega arith) (omega arith) (λ i. g (suc i)) (λ i. h (suc i)) (subst (λ z. number (a * 256 + z) (take k vs) < number (a * 256 + u) (take k us)) (sym level) l)
                ∙ ap (λ r. ordering_then r (slice_cmp nat_cmp us vs)) (nat_cmp_is u v Equal level)
          ]
    ]

eight : (xs : List ℕ) → 8 ≤ length xs → from_be_bytes w64 xs ≡ number 0 (take 8 xs)
eight [] le = absurd (omega arith)
eight (a ∷ []) le = absurd (omega arith)
eight (a ∷ b ∷ []) le = absurd (omega arith)
eight (a ∷ b ∷ c ∷ []) le = absurd (omega arith)
eight (a ∷ b ∷ c ∷ d ∷ []) le = absurd (omega arith)
eight (a ∷ b ∷ c ∷ d ∷ e ∷ []) le = absurd (omega arith)
eight (a ∷ b ∷ c ∷ d ∷ e ∷ f ∷ []) le = absurd (omega arith)
eight (a ∷ b ∷ c ∷ d ∷ e ∷ f ∷ g ∷ []) le = absurd (omega arith)
eight (a ∷ b ∷ c ∷ d ∷ e ∷ f ∷ g ∷ h ∷ rest) le = omega arith

pub returns-then-x-y-2 : goal.returns-then-x-y-2
returns-then-x-y-2 c =
    let a = c.args.a.now in
    let b = c.args.b.now in
    less 8 0 a b (omega arith) (omega arith) c.type_inv.a c.type_inv.b (omega (arith, eight a (omega arith), eight b (omega arith)))

pub returns-else-x-y-2 : goal.returns-else-x-y-2
returns-else-x-y-2 c =
    let a = c.args.a.now in
    let b = c.args.b.now in
    greater 8 0 a b (omega arith) (omega arith) c.type_inv.a c.type_inv.b (omega (arith, eight a (omega arith), eight b (omega arith)))
