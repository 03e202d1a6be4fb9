-- An entry has one refusal at most, and none where it means something.
use Rattle.std.specs.Prelude.{◌≡◌, ℕ, List}
use Rattle.std.proofs.Common.{refl}
use Rattle.rkyv_btree_portable.specs.declared.refusal.Refusal.{Refusal}
use Rattle.rkyv_btree_portable.specs.Entry.{entry_align, entry_size, RefusesEntry, misplaced_entry, bad_key, bad_value, entry_kind}
use Rattle.rkyv_btree_portable.specs.Kind.{Kind, IsLawful}
use Rattle.rkyv_btree_portable.specs.Refusing.{AreRefusals, MeansNothing}
use Rattle.rkyv_btree_portable.specs.laws.EntryLaws.{same_window}
use Rattle.rkyv_btree_portable.specs.laws.Refusing.{misplaced_once, not_misplaced, place_of}

module _ (K V : Kind) (k : IsLawful K) (v : IsLawful V) where
  no_entry : (b : List ℕ) (lo hi at : ℕ) (e : Refusal) → RefusesEntry K V b lo hi at e → MeansNothing (entry_kind K V) b lo hi at
  no_entry b lo hi at e (misplaced_entry p) left x m = not_misplaced b (entry_size K V) (entry_align K V) at (place_of b (entry_size K V) (entry_align K V) at m.lies) p
  no_entry b lo hi at e (bad_key has none) left x m = none m.parts.between x.0 m.parts.key
  no_entry b lo hi at e (bad_value {between} {k = y} has key none) left x m = none left x.1 (same_window K V k v b lo hi at between m.parts.between left y x.0 x.1 key m.parts.key m.parts.value)

  one_refusal : (b : List ℕ) (lo hi at : ℕ) {e d : Refusal} → RefusesEntry K V b lo hi at e → RefusesEntry K V b lo hi at d → e ≡ d
  one_refusal b lo hi at (misplaced_entry p) (misplaced_entry q) = misplaced_once b (entry_size K V) (entry_align K V) at p q
  one_refusal b lo hi at (misplaced_entry p) (bad_key has none) = absurd (not_misplaced b (entry_size K V) (entry_align K V) at has p)
  one_refusal b lo hi at (misplaced_entry p) (bad_value has key none) = absurd (not_misplaced b (entry_size K V) (entry_align K V) at has p)
  one_refusal b lo hi at (bad_key has none) (misplaced_entry q) = absurd (not_misplaced b (entry_size K V) (entry_align K V) at has q)
  one_refusal b lo hi at (bad_key has none) (bad_key has2 none2) = refl
  one_refusal b lo hi at (bad_key has none) (bad_value {between} {k = y} has2 key none2) = absurd (none between y key)
  one_refusal b lo hi at (bad_value has key none) (misplaced_entry q) = absurd (not_misplaced b (entry_size K V) (entry_align K V) at has q)
  one_refusal b lo hi at (bad_value {between} {k = y} has key none) (bad_key has2 none2) = absurd (none2 between y key)
  one_refusal b lo hi at (bad_value has key none) (bad_value has2 key2 none2) = refl

  pub entry_refusals : AreRefusals (entry_kind K V) (RefusesEntry K V)
  entry_refusals = record { no_meaning = no_entry; one_refusal = λ b lo hi at e d. one_refusal b lo hi at }
