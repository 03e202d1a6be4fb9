-- Native maps that are made of archived ones.
use Rattle.std.specs.Prelude.{◌≡◌, ℕ, ◌+◌, List, [], ◌∷◌, ◌++◌, map, reverse, Result, Ok}
use Rattle.std.specs.BTreeMap.{insert_entry, is_at}
use Rattle.std.specs.List.{fold}
use Rattle.std.specs.List.Sorted.{IsStrictlySortedBy}
use Rattle.std.specs.Map.{keys_of, lookup, lookup_key}
use Rattle.std.specs.Result.{result_map_both}
use Rattle.std.specs.declared.cmp.Ordering.{Ordering}
use Rattle.rkyv_btree_writer.specs.declared.fault.EntryFault.{EntryFault}
use Rattle.rkyv_btree_portable.specs.Kind.{Kind}
use Rattle.rkyv_btree_format.specs.Layout.{layout_of, key_at, value_at}
use Rattle.rkyv_btree_format.specs.Read.{map_tree, read_map}
use Rattle.rkyv_btree_shape.specs.Tree.{list}
use Rattle.rkyv_btree_convert.specs.Deserializing.{both, all}

-- the map in which the last value of each key counts: all entries are put in, in turn
abbrev pub last_wins : {A B : Type 0} → (A → A → Ordering) → List (A × B) → List (A × B)
last_wins order entries = fold (λ m e. insert_entry order m e.0 e.1) [] entries

-- the same of what entries give, or the first fault
abbrev pub map_given : {A B : Type 0} → (A → A → Ordering) → List (Result (A × B) EntryFault) → Result (List (A × B)) EntryFault
map_given order given = result_map_both (last_wins order) (λ fault. fault) (all given)

-- the model of a map's entries
abbrev pub model_both : {T U A B : Type 0} → (T → A) → (U → B) → List (T × U) → List (A × B)
model_both key value entries = map (λ e. (key e.0, value e.1)) entries

-- an entry is given, and put into the one map to give the other, by the models of them
abbrev pub Puts : {T U A B : Type 0} → (A → A → Ordering) → (T → A) → (U → B) → Result (A × B) EntryFault → List (T × U) → List (T × U) → Type 0
Puts {A} {B} order key value given old new = (e : A × B) × (given ≡ Ok e) × (model_both key value new ≡ insert_entry order (model_both key value old) e.0 e.1)

-- an entry is given, and put after the one list to give the other, by the models of them
abbrev pub Pushes : {T U A B : Type 0} → (T → A) → (U → B) → Result (A × B) EntryFault → List (T × U) → List (T × U) → Type 0
Pushes {A} {B} key value given old new = (e : A × B) × (given ≡ Ok e) × (model_both key value new ≡ model_both key value old ++ e ∷ [])

module _ (K V : Kind) (E : ℕ) {A B : Type 0} (key : List ℕ → ℕ → Result A EntryFault) (value : List ℕ → ℕ → Result B EntryFault) where
  -- what an entry gives, by its node and number
  abbrev pub given_at : List ℕ → ℕ × ℕ → Result (A × B) EntryFault
  given_at b e = let s = layout_of K V E in both (key b (e.0 + key_at s e.1)) (value b (e.0 + value_at s e.1))

  -- the decoded entries of the map at a position, in order, or the first error
  abbrev pub decoded_entries : List ℕ → ℕ → Result (List (A × B)) EntryFault
  decoded_entries b at = all (map (given_at b) (list (map_tree (layout_of K V E) b at)))

  -- what the map at a position gives
  abbrev pub native_map : (A → A → Ordering) → List ℕ → ℕ → Result (List (A × B)) EntryFault
  native_map order b at = map_given order (map (given_at b) (list (map_tree (layout_of K V E) b at)))

  -- by what the map's list has: whatever functions say what keys and what values give by what they mean
  abbrev pub IsGivenByEntries : (A → A → Ordering) → Type 0
  IsGivenByEntries order =
      (of_key : K.Value → Result A EntryFault) (of_value : V.Value → Result B EntryFault)
      → ((b : List ℕ) (at : ℕ) → key b at ≡ of_key (K.read b at))
      → ((b : List ℕ) (at : ℕ) → value b at ≡ of_value (V.read b at))
      → (b : List ℕ) (at : ℕ) → native_map order b at ≡ map_given order (map (λ e. both (of_key e.0) (of_value e.1)) (read_map K V E b at))

-- the map in which last values count: its keys ascend; of equal keys it has the first, and the value of the last; entries whose
-- keys ascend stay as they are
pub record CountsLast {A B : Type 0} (order : A → A → Ordering) (entries : List (A × B)) : Type 0 where
  pub ascending : IsStrictlySortedBy order (keys_of (last_wins order entries))
  pub first_key : (k : A) → lookup_key (is_at (order k)) (last_wins order entries) ≡ lookup_key (is_at (order k)) entries
  pub last_value : (k : A) → lookup (is_at (order k)) (last_wins order entries) ≡ lookup (is_at (order k)) (reverse entries)
  pub stay : IsStrictlySortedBy order (keys_of entries) → last_wins order entries ≡ entries
