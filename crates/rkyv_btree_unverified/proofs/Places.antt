-- What a pointer gives that leads to a place.
use Rattle.std.proofs.Common.{◌≡◌, ℕ, ◌+◌, ◌-◌, ◌%◌, ◌≤◌, ◌<◌, Ok, Err, Result, ℤ, pos, negsuc, refl, sym, subst, ◌∙◌, true, false, arith, to_z, of_z, w64}
use Rattle.std.proofs.lemmas.Int.{ints}
use Rattle.std.specs.Int.RustNames.{unsigned_abs}
use Rattle.rkyv_btree_portable.specs.Kind.{Kind}
use Rattle.rkyv_btree_format.specs.Layout.{layout_of, leaf_size, align}
use Rattle.rkyv_btree_portable.specs.declared.refusal.Refusal.{Refusal}
use Rattle.rkyv_btree_portable.specs.declared.refusal.Refusal.TheVariants.{OutOfRange, Misaligned}
use Rattle.rkyv_btree_unverified.specs.Steps.{PlaceGives, starts_before, ends_past, misaligned, good_place}
use lib.Signed.{lt_z, mag}

-- a place is what its bits give
pub kept : (r p : ℤ) → r ≡ p → mag r < 9223372036854775808 → to_z w64 (of_z w64 r) ≡ p
kept r p e fits = let same : to_z w64 (of_z w64 r) ≡ r = omega (arith, ints, fits) in same ∙ e

pub is_natural : (t : ℤ) → lt_z t (pos 0) ≡ false → t ≡ pos (unsigned_abs t)
is_natural (pos q) h = refl
is_natural (negsuc n) h = absurd (cc h)

pub not_behind : (q hi : ℕ) (u t : ℤ) → u ≡ pos hi → t ≡ pos q → lt_z u t ≡ false → q ≤ hi
not_behind q hi u t e f h = let l : lt_z (pos hi) (pos q) ≡ false = rw (e, f) at h in grind (arith, ints)

module _ (K V : Kind) (E hi : ℕ) (p t : ℤ) (same : t ≡ p) where
  moved : (r : Result ℕ Refusal) → PlaceGives K V E hi t r → PlaceGives K V E hi p r
  moved r h = subst (λ z. PlaceGives K V E hi z r) same h

  pub before_start : lt_z t (pos 0) ≡ true → PlaceGives K V E hi p (Err (OutOfRange t))
  before_start h = moved _ (starts_before (grind (arith, ints)))

  pub behind_end : (u : ℤ) → u ≡ pos hi → lt_z u t ≡ true → PlaceGives K V E hi p (Err (OutOfRange t))
  behind_end u e h = let l : lt_z (pos hi) t ≡ true = rw (← e) h in moved _ (ends_past (grind (arith, ints)))

  module _ (low : lt_z t (pos 0) ≡ false) (size : ℕ) (size-is : size ≡ leaf_size (layout_of K V E)) where
    pub no_room : hi - unsigned_abs t < size → PlaceGives K V E hi p (Err (OutOfRange t))
    no_room h =
        let past : hi < unsigned_abs t + leaf_size (layout_of K V E) = omega (arith, h, size-is) in
        moved _ (subst (λ z. PlaceGives K V E hi z (Err (OutOfRange z))) (sym (is_natural t low)) (ends_past {p = pos (unsigned_abs t)} (omega (arith, ints, past))))

    module _ (u : ℤ) (e : u ≡ pos hi) (not_past : lt_z u t ≡ false) (room : size ≤ hi - unsigned_abs t) (a : ℕ) (a-is : a ≡ align (layout_of K V E)) where
      fits : unsigned_abs t + leaf_size (layout_of K V E) ≤ hi
      fits = let near = not_behind (unsigned_abs t) hi u t e (is_natural t low) not_past in omega (arith, near, room, size-is)

      pub at_odd : ¬ (unsigned_abs t % a ≡ 0) → PlaceGives K V E hi p (Err (Misaligned (unsigned_abs t)))
      at_odd h = moved _ (subst (λ z. PlaceGives K V E hi z (Err (Misaligned (unsigned_abs t)))) (sym (is_natural t low)) (misaligned fits (rw (← a-is) h)))

      pub at_good : unsigned_abs t % a ≡ 0 → PlaceGives K V E hi p (Ok (unsigned_abs t))
      at_good h = moved _ (subst (λ z. PlaceGives K V E hi z (Ok (unsigned_abs t))) (sym (is_natural t low)) (good_place (record { room = fits; aligned = rw (← a-is) h })))
