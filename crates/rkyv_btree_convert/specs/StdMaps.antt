-- What calls on an archived map give where its entries are those of a std map. `key` and `value` say what native keys and
-- values mean.
use Rattle.std.specs.BTreeMap.{is_at}
use Rattle.std.specs.Cmp.Lexicographic.{pointwise}
use Rattle.std.specs.List.Sorted.{IsStrictlySortedBy}
use Rattle.std.specs.Map.{keys_of, lookup}
use Rattle.std.specs.Option.{option_map}
use Rattle.std.specs.Prelude.{◌≡◌, ℕ, ◌&&◌, Bool, true, List}
use Rattle.std.specs.declared.cmp.Ordering.{Ordering}
use Rattle.rkyv_btree_portable.specs.Kind.{Kind}
use Rattle.rkyv_btree_format.specs.Read.{read_map}
use Rattle.rkyv_btree_view.specs.Lookup.{found_at}
use Rattle.rkyv_btree_convert.specs.RoundTrip.{both_mean}

-- native values are ordered as what they mean
abbrev pub OrdersAlike : {T A : Type 0} → (T → T → Ordering) → (A → A → Ordering) → (T → A) → Type 0
OrdersAlike {T} cmp order key = (x y : T) → cmp x y ≡ order (key x) (key y)

module _ (K V : Kind) (E : ℕ) {T U : Type 0} (key : T → K.Value) (value : U → V.Value) where
  -- a lookup finds the value that std's map has for the key
  abbrev pub FindsAsStd : (T → T → Ordering) → Type 0
  FindsAsStd cmp =
      (b : List ℕ) (at : ℕ) (m : List (T × U)) (q : T) → read_map K V E b at ≡ both_mean key value m → IsStrictlySortedBy cmp (keys_of m)
      → option_map (λ e. e.1) (found_at K V E b at (K.order (key q))) ≡ option_map value (lookup (is_at (cmp q)) m)

  -- by tests that hold of each native value and what it means, the map is the same as std's
  abbrev pub IsSameAsStd : Type 0
  IsSameAsStd =
      (b : List ℕ) (at : ℕ) (m : List (T × U)) (same_key : K.Value → T → Bool) (same_value : V.Value → U → Bool) → read_map K V E b at ≡ both_mean key value m
      → ((t : T) → same_key (key t) t ≡ true) → ((u : U) → same_value (value u) u ≡ true) → pointwise (λ e n. same_key e.0 n.0 && same_value e.1 n.1) (read_map K V E b at) m ≡ true
