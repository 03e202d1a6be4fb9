-- Archived types whose values are native ones.
use Rattle.std.specs.Prelude.{◌≡◌, ℕ, Bool, List}
use Rattle.std.specs.declared.cmp.Ordering.{Ordering}
use Rattle.std.proofs.Common.{refl}
use Rattle.rkyv_btree_portable.specs.Kind.{Kind}

-- what is read of a kind is read as a native value, and compared and hashed as it
pub record ReadAs {N : Type 0} (kind : Kind) (read_native : List ℕ → ℕ → N) (native_same : N → N → Bool)
    (native_order : N → N → Ordering) (native_input : N → List (List ℕ)) : Type 0 where
  pub native : kind.Value → N
  pub by_value : (b : List ℕ) (at : ℕ) → read_native b at ≡ native (kind.read b at)
  pub same : (x y : kind.Value) → kind.same x y ≡ native_same (native x) (native y)
  pub order : (x y : kind.Value) → kind.order x y ≡ native_order (native x) (native y)
  pub hash_input : (x : kind.Value) → kind.hash_input x ≡ native_input (native x)

-- a kind whose values are native values
pub as_itself : (kind : Kind) → ReadAs kind kind.read kind.same kind.order kind.hash_input
as_itself kind = record { native = λ x. x; by_value = λ b at. refl; same = λ x y. refl; order = λ x y. refl; hash_input = λ x. refl }

-- what holds of native values, by any function that has the native value of each value as the type reads it
abbrev pub ByReading : {N : Type 0} (kind : Kind) → (List ℕ → ℕ → N) → ((kind.Value → N) → Type 0) → Type 0
ByReading {N} kind read_native Holds =
    (native : kind.Value → N) → ((b : List ℕ) (at : ℕ) → read_native b at ≡ native (kind.read b at)) → Holds native
