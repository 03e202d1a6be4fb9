-- What a map of an option gives.
use Rattle.std.proofs.Common.{◌≡◌, Option, Some, None, refl, ap}
use Rattle.std.specs.Option.{IsSomeAnd, option_map}
use Rattle.std.specs.Prelude.{MatchOption}

-- what is read, where each call gives that
pub mapped : {X Y : Type 0} (view_value : X → Y) (post : X → Y → Type 0) → ((x : X) (y : Y) → post x y → y ≡ view_value x) → (o : Option X) (r : Option Y) → MatchOption o (r ≡ None) (λ x. IsSomeAnd r (post x)) → r ≡ option_map view_value o
mapped view_value post all None r is = is
mapped view_value post all (Some x) None is = absurd is
mapped view_value post all (Some x) (Some y) is = ap Some (all x y is)

pub itself_mapped : {X : Type 0} (o : Option X) → option_map (λ x. x) o ≡ o
itself_mapped None = refl
itself_mapped (Some x) = refl
