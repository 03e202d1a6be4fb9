-- Comparisons of native values with archived ones.
use Rattle.std.specs.Prelude.{◌≡◌, ℕ, ◌⊎◌, List}
use Rattle.std.specs.declared.cmp.Ordering.{Ordering}
use Rattle.std.specs.declared.cmp.Ordering.TheVariants.{Less, Equal, Greater}
use Rattle.rkyv_btree_portable.specs.Kind.{Kind}

-- what a query gives at each of some ordered values: it is past the first of two values, or before the second, where the
-- first is less; and it gives the same at equal ones
pub record IsCut {X : Type 0} (order : X → X → Ordering) (comparison : X → Ordering) : Type 0 where
  pub less : (x y : X) → order x y ≡ Less → (comparison x ≡ Greater) ⊎ (comparison y ≡ Less)
  pub equal : (x y : X) → order x y ≡ Equal → comparison x ≡ comparison y

-- comparing a native value with what stands at a position of a buffer is comparing it with the value there, and a cut
pub record ComparesAs {N : Type 0} (kind : Kind) (compared_at : N → List ℕ → ℕ → Ordering) : Type 0 where
  pub compared : N → kind.Value → Ordering
  pub by_value : (native : N) (b : List ℕ) (at : ℕ) → compared_at native b at ≡ compared native (kind.read b at)
  pub cuts : (native : N) → IsCut kind.order (compared native)
