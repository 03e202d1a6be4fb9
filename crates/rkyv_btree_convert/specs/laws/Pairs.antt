-- What native pairs owe, by what both parts owe.
use Rattle.std.specs.Prelude.{◌≡◌, ℕ, ◌+◌, Bool, true, ◌&&◌, List, Result}
use Rattle.std.specs.Cmp.{first_so, second_so}
use Rattle.std.specs.Ordering.{ordering_then}
use Rattle.std.specs.declared.cmp.Ordering.{Ordering}
use Rattle.std.proofs.Common.{refl, ap}
use Rattle.rkyv_btree_portable.specs.Entry.{entry_kind, value_offset}
use Rattle.rkyv_btree_writer.specs.declared.fault.EntryFault.{EntryFault}
use Rattle.rkyv_btree_portable.specs.Kind.{Kind}
use Rattle.rkyv_btree_convert.specs.Deserializing.{IsByMeaning, both}

pub pair_by_meaning : {K V : Kind} {A B : Type 0} {key : List ℕ → ℕ → Result A EntryFault} {value : List ℕ → ℕ → Result B EntryFault} → IsByMeaning K key → IsByMeaning V value
    → IsByMeaning (entry_kind K V) (λ b at. both (key b at) (value b (at + value_offset K V)))
pair_by_meaning {K} {V} k v = record {
  of_value = λ e. both (k.of_value e.0) (v.of_value e.1);
  by_value = λ b at. rw (k.by_value b at, v.by_value b (at + value_offset K V)) refl;
}

-- values with the same model are equal where they equal themselves
abbrev pub ModelIsWhole : {T A : Type 0} → (T → A) → (T → T → Bool) → Type 0
ModelIsWhole {T} model same = (x y : T) → model x ≡ model y → same x x ≡ true → same x y ≡ true

-- so do pairs
pub pair_model_whole : {T U A B : Type 0} {key : T → A} {value : U → B} {same_key : T → T → Bool} {same_value : U → U → Bool} → ModelIsWhole key same_key → ModelIsWhole value same_value
    → (p q : T × U) → ◌≡◌ {A = A × B} (key p.0, value p.1) (key q.0, value q.1) → (same_key p.0 p.0 && same_value p.1 p.1) ≡ true → (same_key p.0 q.0 && same_value p.1 q.1) ≡ true
pair_model_whole {same_key} {same_value} keys values p q model own =
    rw (keys p.0 q.0 (ap (λ e. e.0) model) (first_so (same_key p.0 p.0) (same_value p.1 p.1) own), values p.1 q.1 (ap (λ e. e.1) model) (second_so (same_key p.0 p.0) (same_value p.1 p.1) own)) refl

-- pairs whose parts are ordered alike
pub then_alike : {first model_first second model_second : Ordering} → first ≡ model_first → second ≡ model_second → ordering_then first second ≡ ordering_then model_first model_second
then_alike keys values = cc
