-- What native maps owe, by what their keys and values owe.
use Rattle.std.specs.Prelude.{◌≡◌, ℕ, ◌+◌, Bool, true, ◌&&◌, List, [], ◌∷◌, map, Result}
use Rattle.std.specs.Cmp.{first_so, second_so}
use Rattle.std.specs.Cmp.Lexicographic.{pointwise}
use Rattle.std.specs.declared.cmp.Ordering.{Ordering}
use Rattle.std.proofs.Common.{refl, ap}
use Rattle.rkyv_btree_writer.specs.declared.fault.EntryFault.{EntryFault}
use Rattle.rkyv_btree_portable.specs.Kind.{Kind}
use Rattle.rkyv_btree_format.specs.Layout.{layout_of, key_at, value_at}
use Rattle.rkyv_btree_verify.specs.Map.{map_kind}
use Rattle.rkyv_btree_format.specs.Read.{map_tree, entry_at}
use Rattle.rkyv_btree_shape.specs.Tree.{list}
use Rattle.rkyv_btree_convert.specs.Deserializing.{IsByMeaning, both}
use Rattle.rkyv_btree_convert.specs.laws.Pairs.{ModelIsWhole, pair_model_whole}
use Rattle.rkyv_btree_convert.specs.Maps.{given_at, map_given, native_map, model_both}

module _ (K V : Kind) (E : ℕ) {A B : Type 0} {key : List ℕ → ℕ → Result A EntryFault} {value : List ℕ → ℕ → Result B EntryFault} (of_key : K.Value → Result A EntryFault) (of_value : V.Value → Result B EntryFault)
    (key_reads : (b : List ℕ) (at : ℕ) → key b at ≡ of_key (K.read b at)) (value_reads : (b : List ℕ) (at : ℕ) → value b at ≡ of_value (V.read b at)) where
  -- what entries give is what their keys and values give
  pub given_by_meaning : (b : List ℕ) (places : List (ℕ × ℕ)) → map (given_at K V E key value b) places ≡ map (λ e. both (of_key e.0) (of_value e.1)) (map (entry_at K V E b) places)
  given_by_meaning b [] = refl
  given_by_meaning b (e ∷ es) =
      let k = key_reads b (e.0 + key_at (layout_of K V E) e.1) in
      let v = value_reads b (e.0 + value_at (layout_of K V E) e.1) in
      let rest = given_by_meaning b es in
      cc

pub map_by_meaning : {K V : Kind} {A B : Type 0} {key : List ℕ → ℕ → Result A EntryFault} {value : List ℕ → ℕ → Result B EntryFault} → IsByMeaning K key → IsByMeaning V value → (E : ℕ) (order : A → A → Ordering)
    → IsByMeaning (map_kind K V E) (native_map K V E key value order)
map_by_meaning {K} {V} k v E order = record {
  of_value = λ entries. map_given order (map (λ e. both (k.of_value e.0) (v.of_value e.1)) entries);
  by_value = λ b at. ap (map_given order) (given_by_meaning K V E k.of_value v.of_value k.by_value v.by_value b (list (map_tree (layout_of K V E) b at)));
}

-- maps with the same model are equal where they equal themselves
module _ {T U A B : Type 0} {same_key : T → T → Bool} {same_value : U → U → Bool} {key : T → A} {value : U → B} (keys : ModelIsWhole key same_key) (values : ModelIsWhole value same_value) where
  abbrev same_entry : T × U → T × U → Bool
  same_entry p q = same_key p.0 q.0 && same_value p.1 q.1

  pub map_model_whole : (xs ys : List (T × U)) → model_both key value xs ≡ model_both key value ys → pointwise same_entry xs xs ≡ true → pointwise same_entry xs ys ≡ true
  map_model_whole [] [] model own = refl
  map_model_whole [] (y ∷ ys) model own = absurd (cc model)
  map_model_whole (x ∷ xs) [] model own = absurd (cc model)
  map_model_whole (x ∷ xs) (y ∷ ys) model own =
      let first = pair_model_whole keys values x y (cc model) (first_so (same_entry x x) (pointwise same_entry xs xs) own) in
      let rest = map_model_whole xs ys (cc model) (second_so (same_entry x x) (pointwise same_entry xs xs) own) in
      rw first rest
