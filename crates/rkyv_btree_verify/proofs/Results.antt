-- What a step's result says of the steps before it.
use Rattle.std.proofs.Common.{◌≡◌, ◌⊎◌, inl, inr, List, ◌≤◌, Option, Some, None, Result, Ok, Err, refl, ℕ}
use Rattle.rkyv_btree_portable.specs.declared.refusal.Refusal.{Refusal}
use Rattle.rkyv_btree_portable.specs.declared.refusal.Refusal.TheVariants.{BadEntry}
use Rattle.rkyv_btree_portable.specs.Kind.{Kind, Leaves, Decides}
use Rattle.rkyv_btree_portable.specs.Refusing.{MeansNothing}
use Rattle.rkyv_btree_verify.specs.mirror.Check.{◌>>=◌}
use Rattle.rkyv_btree_portable.specs.Refusing.{or_bad}

pub bind_ok : {A B : Type 0} (r : Result A Refusal) (f : A → Result B Refusal) (y : B) → r >>= f ≡ Ok y → (x : A) × (r ≡ Ok x) × (f x ≡ Ok y)
bind_ok (Ok x) f y e = (x, refl, e)
bind_ok (Err d) f y e = absurd (cc e)

pub or_bad_ok : (at : ℕ) (o : Option ℕ) (lo : ℕ) → or_bad at o ≡ Ok lo → o ≡ Some lo
or_bad_ok at None lo e = absurd (cc e)
or_bad_ok at (Some x) lo e = cc e

pub or_bad_err : (at : ℕ) (o : Option ℕ) (d : Refusal) → or_bad at o ≡ Err d → (o ≡ None) × (d ≡ BadEntry at)
or_bad_err at None d e = (refl, cc e)
or_bad_err at (Some x) d e = absurd (cc e)

pub bind_err : {A B : Type 0} (r : Result A Refusal) (f : A → Result B Refusal) (d : Refusal) → r >>= f ≡ Err d → (r ≡ Err d) ⊎ ((x : A) × (r ≡ Ok x) × (f x ≡ Err d))
bind_err (Ok x) f d e = inr (x, refl, e)
bind_err {A} (Err d2) f d e = inl (cc e)

-- what means nothing leaves nothing
pub none_of : (kind : Kind) (leaves : Leaves) (b : List ℕ) (lo hi at : ℕ) → Decides kind leaves → lo ≤ hi → hi ≤ at → MeansNothing kind b lo hi at → leaves b lo hi at ≡ None
none_of kind leaves b lo hi at d window before nothing = none_at (leaves b lo hi at) refl
  where
    none_at : (o : Option ℕ) → leaves b lo hi at ≡ o → leaves b lo hi at ≡ None
    none_at None e = e
    none_at (Some left) e = let v = d.found b lo hi at left window before e in absurd (nothing left v.0 v.1)
