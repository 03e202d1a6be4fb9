-- Which whole archives are opened, and why others aren't.
use Rattle.std.proofs.Common.{◌≡◌, ℕ, ◌≤◌, ◌<◌, ◌↔◌, List, length, refl, subst, sym, ap, arith}
use Rattle.std.specs.Prelude.{Result, Ok, Err, IsOk}
use Rattle.rkyv_btree_portable.specs.Kind.{Kind, IsLawful}
use Rattle.rkyv_btree_portable.specs.declared.refusal.Refusal.{Refusal}
use Rattle.rkyv_btree_portable.specs.declared.refusal.Refusal.TheVariants.{TooLong}
use Rattle.rkyv_btree_portable.specs.Views.{MeansAt}
use Rattle.rkyv_btree_format.specs.OwnBytes.{IsArchiveOf, own_at}
use Rattle.rkyv_btree_convert.specs.Whole.{IsUnopened}

module _ (kind : Kind) (laws : IsLawful kind) (bytes : List ℕ) where
  -- an archive isn't longer than positions reach
  pub archive_short : (v : kind.Value) → IsArchiveOf kind bytes v → length bytes ≤ 4294967295
  archive_short v is = (laws.lies bytes 0 _ _ is.left v is.means).short

  -- what is there at the place of own bytes is an archive
  archive_there : (v : kind.Value) → MeansAt kind bytes (own_at kind bytes) v → IsArchiveOf kind bytes v
  archive_there v is =
      let lies = laws.lies bytes 0 _ _ is.left v is.means in
      record { room = omega (arith, lies.inside); left = is.left; means = is.means }

  -- what is accepted at that place is exactly an archive
  pub opened_exactly : {X : Type 0} (at : ℕ) (r : Result X Refusal) → at ≡ own_at kind bytes → (IsOk r ↔ ((v : kind.Value) × MeansAt kind bytes at v)) → IsOk r ↔ ((v : kind.Value) × IsArchiveOf kind bytes v)
  opened_exactly at r place both = (
    λ ok. let is = both.0 ok in (is.0, archive_there is.0 (subst (λ p. MeansAt kind bytes p is.0) place is.1)),
    λ is. both.1 (is.0, subst (λ p. MeansAt kind bytes p is.0) (sym place) (record { left = is.1.left; means = is.1.means })),
  )

module _ (kind : Kind) (Refuses : List ℕ → ℕ → ℕ → ℕ → Refusal → Type 0) (bytes : List ℕ) where
  -- what is refused at the place of own bytes isn't opened, with the same error
  pub refused_exactly : {X : Type 0} (at : ℕ) (r : Result X Refusal) → at ≡ own_at kind bytes → length bytes ≤ 4294967295 → ((e : Refusal) → (r ≡ Err e) ↔ Refuses bytes 0 at at e) → (e : Refusal) → (r ≡ Err e) ↔ IsUnopened kind Refuses bytes e
  refused_exactly {X} at r place short both e = ((λ is. IsUnopened.refused short (subst (λ p. Refuses bytes 0 p p e) place ((both e).0 is))), back e)
    where
      back : (e : Refusal) → IsUnopened kind Refuses bytes e → r ≡ Err e
      back _ (IsUnopened.too_long long) = absurd (omega arith)
      back e (IsUnopened.refused fits refuses) = (both e).1 (subst (λ p. Refuses bytes 0 p p e) (sym place) refuses)

  -- bytes that are too long have that error alone
  pub too_long_alone : {X : Type 0} → 4294967295 < length bytes → (e : Refusal) → (◌≡◌ {A = Result X Refusal} (Err TooLong) (Err e)) ↔ IsUnopened kind Refuses bytes e
  too_long_alone {X} long e = ((λ is. let same : TooLong ≡ e = cc is in subst (IsUnopened kind Refuses bytes) same (IsUnopened.too_long long)), back e)
    where
      back : (e : Refusal) → IsUnopened kind Refuses bytes e → ◌≡◌ {A = Result X Refusal} (Err TooLong) (Err e)
      back _ (IsUnopened.too_long h) = refl
      back e (IsUnopened.refused short refuses) = absurd (omega arith)
