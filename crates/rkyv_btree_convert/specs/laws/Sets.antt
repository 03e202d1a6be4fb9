-- What native sets owe, by what their keys owe.
use Rattle.std.specs.Prelude.{◌≡◌, ℕ, Bool, true, List, [], ◌∷◌, map, Result}
use Rattle.std.specs.Cmp.{first_so, second_so}
use Rattle.std.specs.Cmp.Lexicographic.{pointwise}
use Rattle.std.specs.Map.{keys_of}
use Rattle.std.specs.Result.{result_map_both}
use Rattle.std.specs.declared.cmp.Ordering.{Ordering}
use Rattle.std.proofs.Common.{refl, ap}
use Rattle.rkyv_btree_writer.specs.declared.fault.EntryFault.{EntryFault}
use Rattle.rkyv_btree_portable.specs.Kind.{Kind}
use Rattle.rkyv_btree_verify.specs.Map.{map_kind}
use Rattle.rkyv_btree_portable.specs.Scalars.{unit_kind}
use Rattle.rkyv_btree_convert.specs.Deserializing.{IsByMeaning}
use Rattle.rkyv_btree_convert.specs.Sets.{native_set, unit_given}
use Rattle.rkyv_btree_convert.specs.laws.Maps.{map_by_meaning}
use Rattle.rkyv_btree_convert.specs.laws.Pairs.{ModelIsWhole}

-- a () gives itself
abbrev pub unit_by_meaning : IsByMeaning unit_kind (λ b at. unit_given)
unit_by_meaning = record { of_value = λ unit. unit_given; by_value = λ b at. refl }

pub set_by_meaning : {K : Kind} {A : Type 0} {key : List ℕ → ℕ → Result A EntryFault} → IsByMeaning K key → (E : ℕ) (order : A → A → Ordering) → IsByMeaning (map_kind K unit_kind E) (native_set K E key order)
set_by_meaning {K} k E order =
    let m = map_by_meaning k unit_by_meaning E order in
    record { of_value = λ keys. result_map_both keys_of (λ fault. fault) (m.of_value keys); by_value = λ b at. ap (result_map_both keys_of (λ fault. fault)) (m.by_value b at) }

-- sets with the same model are equal where they equal themselves
pub set_model_whole : {T A : Type 0} {same : T → T → Bool} {key : T → A} → ModelIsWhole key same → (xs ys : List T) → map key xs ≡ map key ys → pointwise same xs xs ≡ true → pointwise same xs ys ≡ true
set_model_whole keys [] [] model own = refl
set_model_whole keys [] (y ∷ ys) model own = absurd (cc model)
set_model_whole keys (x ∷ xs) [] model own = absurd (cc model)
set_model_whole {same} keys (x ∷ xs) (y ∷ ys) model own =
    let first = keys x y (cc model) (first_so (same x x) (pointwise same xs xs) own) in
    let rest = set_model_whole keys xs ys (cc model) (second_so (same x x) (pointwise same xs xs) own) in
    rw first rest
