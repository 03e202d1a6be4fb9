-- What the check of a key or value tells.
use Rattle.std.specs.Prelude.{◌≡◌, ℕ, ◌≤◌, IsTrue, List, Option, Some, None, Ok, Err}
use Rattle.std.proofs.Common.{refl, sym, ◌∙◌}
use Rattle.rkyv_btree_portable.specs.declared.refusal.Refusal.{Refusal}
use Rattle.rkyv_btree_portable.specs.declared.refusal.Refusal.TheVariants.{BadEntry}
use Rattle.rkyv_btree_portable.specs.Kind.{Kind, IsLawful}
use Rattle.rkyv_btree_portable.specs.Refusing.{MeansNothing, or_bad}

told_bad : (at : ℕ) (o : Option ℕ) (e : Refusal) → Err e ≡ or_bad at o → (e ≡ BadEntry at) × (o ≡ None)
told_bad at None e h = (cc h, refl)
told_bad at (Some x) e h = absurd (cc h)

told_left : (at : ℕ) (o : Option ℕ) (left : ℕ) → Ok left ≡ or_bad at o → o ≡ Some left
told_left at None left h = absurd (cc h)
told_left at (Some x) left h = cc h

module _ (kind : Kind) (laws : IsLawful kind) (fits : IsTrue kind.is_fitting) (b : List ℕ) (lo hi at : ℕ) where
  -- what is refused is refused at its position, and means nothing
  pub part_refused : (e : Refusal) → Err e ≡ or_bad at (kind.leaves b lo hi at) → (e ≡ BadEntry at) × MeansNothing kind b lo hi at
  part_refused e h =
      let told = told_bad at (kind.leaves b lo hi at) e h in
      (told.0, λ left v m. absurd (cc (sym told.1 ∙ (laws.decides fits).only b lo hi at left v m)))

  -- what is accepted means something
  pub part_accepted : (left : ℕ) → lo ≤ hi → hi ≤ at → Ok left ≡ or_bad at (kind.leaves b lo hi at) → (v : kind.Value) × kind.Means b lo hi at left v
  part_accepted left window before h = (laws.decides fits).found b lo hi at left window before (told_left at (kind.leaves b lo hi at) left h)
