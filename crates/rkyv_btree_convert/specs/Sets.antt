-- Native sets that are made of archived ones.
use Rattle.std.specs.Prelude.{ℕ, List, Result, Ok}
use Rattle.std.specs.Map.{keys_of}
use Rattle.std.specs.Result.{result_map_both}
use Rattle.std.specs.declared.cmp.Ordering.{Ordering}
use Rattle.rkyv_btree_writer.specs.declared.fault.EntryFault.{EntryFault}
use Rattle.rkyv_btree_portable.specs.Kind.{Kind}
use Rattle.rkyv_btree_portable.specs.Scalars.{unit_kind}
use Rattle.rkyv_btree_convert.specs.Maps.{native_map}

-- what a () gives
abbrev pub unit_given : Result (Unit {0}) EntryFault
unit_given = Ok tt

-- what the set at a position gives: the keys of what it gives as the map whose values are (), where of equal keys the
-- first stays
abbrev pub native_set : (K : Kind) → ℕ → {A : Type 0} → (List ℕ → ℕ → Result A EntryFault) → (A → A → Ordering) → List ℕ → ℕ → Result (List A) EntryFault
native_set K E key order b at = result_map_both keys_of (λ fault. fault) (native_map K unit_kind E key (λ b at. unit_given) order b at)
