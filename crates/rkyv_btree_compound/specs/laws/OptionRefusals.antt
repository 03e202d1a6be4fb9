-- An option has one refusal at most, and none where it means something.
use Rattle.std.specs.Prelude.{◌≡◌, ℕ, ◌+◌, List, Option, Some, None, slice_index}
use Rattle.std.proofs.Common.{refl, sym, ◌∙◌}
use Rattle.rkyv_btree_portable.specs.declared.refusal.Refusal.{Refusal}
use Rattle.rkyv_btree_portable.specs.Kind.{Kind}
use Rattle.rkyv_btree_portable.specs.Refusing.{AreRefusals, MeansNothing}
use Rattle.rkyv_btree_portable.specs.laws.Refusing.{misplaced_once, not_misplaced, place_of}
use Rattle.rkyv_btree_compound.specs.Option.{option_size, MeansTagged, RefusesOption, misplaced_option, bad_tag, bad_some, option_kind}

module _ (T : Kind) where
  no_tag : (b : List ℕ) (lo hi at left : ℕ) (o : Option T.Value) → ¬ (slice_index b at ≡ 0) → ¬ (slice_index b at ≡ 1) → ¬ MeansTagged T b lo hi at left o
  no_tag b lo hi at left None absent present m = absent m.0
  no_tag b lo hi at left (Some v) absent present m = present m.0

  no_some : (b : List ℕ) (lo hi at left : ℕ) (o : Option T.Value) → slice_index b at ≡ 1 → MeansNothing T b lo hi (at + T.align) → ¬ MeansTagged T b lo hi at left o
  no_some b lo hi at left None tag none m = absurd (cc (sym m.0 ∙ tag))
  no_some b lo hi at left (Some v) tag none m = none left v m.1

  no_option : (b : List ℕ) (lo hi at : ℕ) (e : Refusal) → RefusesOption T b lo hi at e → MeansNothing (option_kind T) b lo hi at
  no_option b lo hi at e (misplaced_option p) left o m = not_misplaced b (option_size T) T.align at (place_of b (option_size T) T.align at m.lies) p
  no_option b lo hi at e (bad_tag has absent present) left o m = no_tag b lo hi at left o absent present m.tagged
  no_option b lo hi at e (bad_some has tag none) left o m = no_some b lo hi at left o tag none m.tagged

  one_refusal : (b : List ℕ) (lo hi at : ℕ) {e d : Refusal} → RefusesOption T b lo hi at e → RefusesOption T b lo hi at d → e ≡ d
  one_refusal b lo hi at (misplaced_option p) (misplaced_option q) = misplaced_once b (option_size T) T.align at p q
  one_refusal b lo hi at (misplaced_option p) (bad_tag has absent present) = absurd (not_misplaced b (option_size T) T.align at has p)
  one_refusal b lo hi at (misplaced_option p) (bad_some has tag none) = absurd (not_misplaced b (option_size T) T.align at has p)
  one_refusal b lo hi at (bad_tag has absent present) (misplaced_option q) = absurd (not_misplaced b (option_size T) T.align at has q)
  one_refusal b lo hi at (bad_tag has absent present) (bad_tag has2 absent2 present2) = refl
  one_refusal b lo hi at (bad_tag has absent present) (bad_some has2 tag none) = absurd (present tag)
  one_refusal b lo hi at (bad_some has tag none) (misplaced_option q) = absurd (not_misplaced b (option_size T) T.align at has q)
  one_refusal b lo hi at (bad_some has tag none) (bad_tag has2 absent present) = absurd (present tag)
  one_refusal b lo hi at (bad_some has tag none) (bad_some has2 tag2 none2) = refl

  pub option_refusals : AreRefusals (option_kind T) (RefusesOption T)
  option_refusals = record { no_meaning = no_option; one_refusal = λ b lo hi at e d. one_refusal b lo hi at }
