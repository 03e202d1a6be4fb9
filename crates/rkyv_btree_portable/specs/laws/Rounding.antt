-- What is known of alignments, and of numbers that are rounded up to one.
use Rattle.std.specs.Prelude.{ℕ, ◌+◌, ◌-◌, ◌*◌, ◌/◌, ◌≤◌, ◌<◌, ◌⊎◌}
use Rattle.std.proofs.Common.{max, refl, sym, subst, arith, inl, inr, ⊎_elim}
use Rattle.std.proofs.Math.Nat.{mul-mod_left, div-mul-le_self, max-eq_left, max-eq_right, le-max_left, le-max_right, mul-le-mul_right, dvd-add, dvd-mul_left}
use Rattle.std.proofs.lemmas.Nat.{div_below, le-div}
use Rattle.std.proofs.lemmas.Nat.Gcd.{dvd_of_mod-eq-zero, mod-eq-zero_of_dvd, dvd_trans}
use Rattle.std.proofs.lemmas.Bool.{cases_lt}
use Rattle.rkyv_btree_portable.specs.Rounding.{IsAlignment, one, two, four, eight, sixteen, round_up}
use Rattle.rkyv_btree_portable.specs.Standing.{IsAligned}

pub alignment_positive : {a : ℕ} → IsAlignment a → 0 < a
alignment_positive one = omega arith
alignment_positive two = omega arith
alignment_positive four = omega arith
alignment_positive eight = omega arith
alignment_positive sixteen = omega arith

pub round_up-aligned : (n a : ℕ) → IsAligned a (round_up n a)
unfolding round_up
round_up-aligned n a = mul-mod_left _ a

pub le-round_up : (n a : ℕ) → 0 < a → n ≤ round_up n a
unfolding round_up
le-round_up n a h = omega arith

pub round_up-lt : (n a : ℕ) → 0 < a → round_up n a < n + a
unfolding round_up
round_up-lt n a h = omega arith

pub round_up_mono : (m n a : ℕ) → 1 ≤ a → m ≤ n → round_up m a ≤ round_up n a
unfolding round_up
round_up_mono m n a h le =
    let l : (m + (a - 1)) / a ≤ (n + (a - 1)) / a = le-div ((m + (a - 1)) / a) (n + (a - 1)) a h (omega (arith, div-mul-le_self (m + (a - 1)) a)) in
    omega (arith, mul-le-mul_right a l)

-- no smaller multiple is at least `n`
pub round_up-least : (n a m : ℕ) → 0 < a → IsAligned a m → n ≤ m → round_up n a ≤ m
unfolding round_up
round_up-least n a m h e l =
    let q : (n + (a - 1)) / a < m / a + 1 = div_below (n + (a - 1)) a (m / a + 1) h (omega arith) in
    let r : (n + (a - 1)) / a ≤ m / a = omega arith in
    omega (arith, mul-le-mul_right a r)

-- the lesser of two alignments divides the greater
pub alignment_divides : {a b : ℕ} → IsAlignment a → IsAlignment b → a ≤ b → IsAligned a b
alignment_divides one _ h = omega arith
alignment_divides two one h = absurd (omega arith)
alignment_divides two two h = refl
alignment_divides two four h = refl
alignment_divides two eight h = refl
alignment_divides two sixteen h = refl
alignment_divides four one h = absurd (omega arith)
alignment_divides four two h = absurd (omega arith)
alignment_divides four four h = refl
alignment_divides four eight h = refl
alignment_divides four sixteen h = refl
alignment_divides eight one h = absurd (omega arith)
alignment_divides eight two h = absurd (omega arith)
alignment_divides eight four h = absurd (omega arith)
alignment_divides eight eight h = refl
alignment_divides eight sixteen h = refl
alignment_divides sixteen one h = absurd (omega arith)
alignment_divides sixteen two h = absurd (omega arith)
alignment_divides sixteen four h = absurd (omega arith)
alignment_divides sixteen eight h = absurd (omega arith)
alignment_divides sixteen sixteen h = refl

pub max_alignment : {a b : ℕ} → IsAlignment a → IsAlignment b → IsAlignment (max a b)
max_alignment {a} {b} p q = ⊎_elim (λ h. subst IsAlignment (sym (max-eq_right h)) q) (λ h. subst IsAlignment (sym (max-eq_left h)) p) (cases_le a b)
  where
    cases_le : (a b : ℕ) → (a ≤ b) ⊎ (b ≤ a)
    cases_le a b = ⊎_elim (λ h. inl (omega arith)) inr (cases_lt a b)

-- a multiple of a multiple
pub aligned_through : (a b n : ℕ) → IsAligned a b → IsAligned b n → IsAligned a n
aligned_through a b n p q = mod-eq-zero_of_dvd a (dvd_trans a (dvd_of_mod-eq-zero a p) (dvd_of_mod-eq-zero b q))

pub aligned_left : {a b : ℕ} (n : ℕ) → IsAlignment a → IsAlignment b → IsAligned (max a b) n → IsAligned a n
aligned_left {a} {b} n p q h = aligned_through a (max a b) n (alignment_divides p (max_alignment p q) (le-max_left a b)) h

pub aligned_right : {a b : ℕ} (n : ℕ) → IsAlignment a → IsAlignment b → IsAligned (max a b) n → IsAligned b n
aligned_right {a} {b} n p q h = aligned_through b (max a b) n (alignment_divides q (max_alignment p q) (le-max_right a b)) h

-- the sum of two multiples, and a multiple's own multiples
pub aligned_add : (a m n : ℕ) → IsAligned a m → IsAligned a n → IsAligned a (m + n)
aligned_add a m n p q = mod-eq-zero_of_dvd a (dvd-add a (dvd_of_mod-eq-zero a p) (dvd_of_mod-eq-zero a q))

pub aligned_mul : (a m n : ℕ) → IsAligned a m → IsAligned a (n * m)
aligned_mul a m n p = mod-eq-zero_of_dvd a (dvd_trans a (dvd_of_mod-eq-zero a p) (dvd-mul_left m n))

-- what is known of a number that is rounded up
pub ruleset rounding = (le-round_up, round_up-lt)
