-- Whole archives, read by native values.
use Rattle.std.specs.Prelude.{ℕ, List, map, Result}
use Rattle.rkyv_btree_base.specs.EntryFault.{EntryFault}
use Rattle.rkyv_btree_base.specs.Kind.{Kind}
use Rattle.rkyv_btree.specs.Deserializing.{IsByMeaning, all, both}

-- what the keys and the values of entries give by their meaning, in order, or the first fault
abbrev pub entries_given : {K V : Kind} {A B : Type 0} {native_key : List ℕ → ℕ → Result A EntryFault} {native_value : List ℕ
    → ℕ → Result B EntryFault} → IsByMeaning K native_key → IsByMeaning V native_value → List (K.Value × V.Value)
    → Result (List (A × B)) EntryFault
entries_given key value entries = all (map (λ e. both (key.of_value e.0) (value.of_value e.1)) entries)
