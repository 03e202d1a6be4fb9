-- One call of a visit, and the calls after it.
use Rattle.std.proofs.Common.{◌≡◌, List, ◌∷◌, Option, Some, refl}
use Rattle.std.specs.declared.ops.ControlFlow.{ControlFlow}
use Rattle.std.specs.declared.ops.ControlFlow.TheVariants.{Continue, Break}
use Rattle.rkyv_btree_walk.specs.Visit.{Visits}

module _ {F W X Y T : Type 0} (call : F → W → X → ControlFlow T (Unit {0}) → F → Type 0) (means : W → X → Y) (first after : F) (key : W) (value : X) (e : Y) (es all : List Y) (are : all ≡ e ∷ es) (is : means key value ≡ e) where
  -- the first call went on, and then came the others
  pub visits_on : (result : Option T) (last : F) → call first key value (Continue tt) after → Visits call means after es result last → Visits call means first all result last
  visits_on result last called rest = rw are (key, value, Continue tt, after, is, called, rest)

  -- the first call broke off
  pub visits_off : (found : T) → call first key value (Break found) after → Visits call means first all (Some found) after
  visits_off found called = rw are (key, value, Break found, after, is, called, (refl, refl))
