-- Sets as the maps whose values are ().
use Rattle.std.proofs.Common.{◌≡◌, ℕ, List, [], ◌∷◌, map, refl, ap}
use Rattle.std.specs.BTreeMap.{insert_entry}
use Rattle.std.specs.BTreeSet.{insert_key}
use Rattle.std.specs.Map.{keys_of}
use Rattle.std.specs.Ordering.{match_ordering}
use Rattle.std.specs.Prelude.{Result}
use Rattle.std.specs.Result.{result_map_both}
use Rattle.std.specs.declared.cmp.Ordering.{Ordering}
use Rattle.std.specs.declared.cmp.Ordering.TheVariants.{Less, Equal, Greater}
use Rattle.rkyv_btree_portable.specs.Kind.{Kind}
use Rattle.rkyv_btree_format.specs.Read.{read_map}
use Rattle.rkyv_btree_portable.specs.Scalars.{unit_kind}
use Rattle.rkyv_btree_format.specs.Units.{with_units}
use Rattle.rkyv_btree_writer.specs.declared.fault.EntryFault.{EntryFault}
use Rattle.rkyv_btree_convert.specs.declared.deserialize.DeserializeFault.{DeserializeFault}
use Rattle.rkyv_btree_convert.specs.declared.deserialize.DeserializeFault.TheVariants.{Memory, Entry}
use Rattle.rkyv_btree_convert.specs.Deserializing.{IsRefused}
use Rattle.rkyv_btree_convert.specs.Maps.{model_both}

-- a key is put into the set as into the map
pub put_unit : {T : Type 0} (cmp : T → T → Ordering) (k : T) (ks : List T) → with_units (insert_key cmp ks k) ≡ insert_entry cmp (with_units ks) k tt
put_unit cmp k [] = refl
put_unit cmp k (x ∷ ks) =
    elim (cmp k x) as (λ o. with_units (match_ordering o (k ∷ x ∷ ks) (x ∷ ks) (x ∷ insert_key cmp ks k)) ≡ match_ordering o ((k, tt) ∷ with_units (x ∷ ks)) ((x, tt) ∷ with_units ks) ((x, tt) ∷ insert_entry cmp (with_units ks) k tt)) [
      | Less ↦ refl
      | Equal ↦ refl
      | Greater ↦ ap (λ rest. (x, tt) ∷ rest) (put_unit cmp k ks)
    ]

-- the model of a set's keys, as of a map's
abbrev pub model_keys : {T A : Type 0} → (T → A) → List T → List (A × Unit {0})
model_keys key ks = model_both key (λ unit. unit) (with_units ks)

-- the model of the set's keys are the keys of the model of the map
pub units_model : {T A : Type 0} (key : T → A) (ks : List T) → keys_of (model_keys key ks) ≡ map key ks
units_model key [] = refl
units_model key (k ∷ ks) = ap (λ rest. key k ∷ rest) (units_model key ks)

-- what refuses the map refuses the set
pub still_refused : {A B : Type 0} (f : A → B) (given : Result A EntryFault) (fault : DeserializeFault) → IsRefused given fault → IsRefused (result_map_both f (λ fault. fault) given) fault
still_refused f given (Memory error) refused = tt
still_refused f given (Entry fault) refused = ap (result_map_both f (λ fault. fault)) refused

-- the map that a set is reads the same
pub same_map : (K : Kind) (E : ℕ) (b c : List ℕ) (p q : ℕ) (entries : List (K.Value × unit_kind.Value)) → b ≡ c → p ≡ q → entries ≡ read_map K unit_kind E b p → entries ≡ read_map K unit_kind E c q
same_map K E b c p q entries same_bytes same_place all = rw (← same_bytes, ← same_place) all
