-- What native options owe, by what their values owe.
use Rattle.std.specs.Option.{option_cmp, option_eq, option_transpose}
use Rattle.std.specs.Prelude.{◌≡◌, ℕ, ◌+◌, Bool, true, false, List, Option, Some, None, Result, nat_eq, option_map, slice_index, if◌then◌else◌}
use Rattle.std.specs.declared.cmp.Ordering.{Ordering}
use Rattle.std.proofs.Common.{refl, ap}
use Rattle.rkyv_btree_compound.specs.Option.{option_kind}
use Rattle.rkyv_btree_convert.specs.Deserializing.{IsByMeaning}
use Rattle.rkyv_btree_convert.specs.laws.Pairs.{ModelIsWhole}
use Rattle.rkyv_btree_portable.specs.Kind.{Kind}
use Rattle.rkyv_btree_writer.specs.declared.fault.EntryFault.{EntryFault}

-- what the value at its place gives where the tag is 1, and none where it isn't
abbrev pub option_decoded : {A : Type 0} (T : Kind) → (List ℕ → ℕ → Result A EntryFault) → List ℕ → ℕ → Result (Option A) EntryFault
option_decoded T decoded b at = option_transpose (if nat_eq (slice_index b at) 1 then Some (decoded b (at + T.align)) else None)

transposed : {A V : Type 0} (is_some : Bool) (decoded : Result A EntryFault) (value : V) (of_value : V → Result A EntryFault) → decoded ≡ of_value value
    → option_transpose (if is_some then Some decoded else None) ≡ option_transpose (option_map of_value (if is_some then Some value else None))
transposed false decoded value of_value same = refl
transposed true decoded value of_value same = ap (λ r. option_transpose (Some r)) same

pub option_by_meaning : {A : Type 0} (T : Kind) {decoded : List ℕ → ℕ → Result A EntryFault} → IsByMeaning T decoded → IsByMeaning (option_kind T) (option_decoded T decoded)
option_by_meaning T {decoded} t = record {
  of_value = λ o. option_transpose (option_map t.of_value o);
  by_value = λ b at. transposed (nat_eq (slice_index b at) 1) (decoded b (at + T.align)) (T.read b (at + T.align)) t.of_value (t.by_value b (at + T.align));
}

-- options with the same model are equal where they equal themselves
pub option_model_whole : {N A : Type 0} {model : N → A} {same : N → N → Bool} → ModelIsWhole model same → (o p : Option N) → option_map model o ≡ option_map model p → option_eq same o o ≡ true → option_eq same o p ≡ true
option_model_whole whole None None model own = refl
option_model_whole whole None (Some y) model own = absurd (cc model)
option_model_whole whole (Some x) None model own = absurd (cc model)
option_model_whole whole (Some x) (Some y) model own = whole x y (cc model) own

-- options whose values are ordered alike
pub options_alike : {N A : Type 0} (model : N → A) {order : N → N → Ordering} (model_order : A → A → Ordering) → ((x y : N) → order x y ≡ model_order (model x) (model y)) → (o p : Option N) → option_cmp order o p ≡ option_cmp model_order (option_map model o) (option_map model p)
options_alike model model_order alike None None = refl
options_alike model model_order alike None (Some y) = refl
options_alike model model_order alike (Some x) None = refl
options_alike model model_order alike (Some x) (Some y) = alike x y
