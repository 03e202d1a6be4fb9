-- Comparisons of archived options with native ones.
use Rattle.std.specs.Prelude.{ℕ, ◌+◌, Bool, true, false, List, Option, Some, None, slice_index, nat_eq}
use Rattle.std.specs.declared.cmp.Ordering.{Ordering}
use Rattle.std.specs.declared.cmp.Ordering.TheVariants.{Less, Equal, Greater}
use Rattle.rkyv_btree_portable.specs.Kind.{Kind}

module _ {N V : Type 0} where
  -- how a native option compares to an option of values: none is less than each value
  abbrev pub order_options : (N → V → Ordering) → Option N → Option V → Ordering
  order_options order None None = Equal
  order_options order None (Some v) = Less
  order_options order (Some n) None = Greater
  order_options order (Some n) (Some v) = order n v

  abbrev pub same_options : (V → N → Bool) → Option V → Option N → Bool
  same_options same None None = true
  same_options same None (Some n) = false
  same_options same (Some v) None = false
  same_options same (Some v) (Some n) = same v n

module _ {N : Type 0} where
  -- the same where the option's value is there or not, by what comparing it gives
  abbrev pub order_if : Bool → (N → Ordering) → Option N → Ordering
  order_if false order None = Equal
  order_if false order (Some n) = Greater
  order_if true order None = Less
  order_if true order (Some n) = order n

  abbrev pub same_if : Bool → (N → Bool) → Option N → Bool
  same_if false same None = true
  same_if false same (Some n) = false
  same_if true same None = false
  same_if true same (Some n) = same n

-- how a native option compares to the option at a position, and whether it is the same
abbrev pub option_compared_at : {N : Type 0} (T : Kind) → (N → List ℕ → ℕ → Ordering) → Option N → List ℕ → ℕ → Ordering
option_compared_at T compared_at native b at = order_if (nat_eq (slice_index b at) 1) (λ n. compared_at n b (at + T.align)) native

abbrev pub option_same_at : {N : Type 0} (T : Kind) → (N → List ℕ → ℕ → Bool) → Option N → List ℕ → ℕ → Bool
option_same_at T same_at native b at = same_if (nat_eq (slice_index b at) 1) (λ n. same_at n b (at + T.align)) native
