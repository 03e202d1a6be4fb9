-- Lists whose keys increase are ordered for each bound, so what is within bounds of an ordered list is so of such a list.
use Rattle.std.proofs.Common.{◌≡◌, ℕ, ◌+◌, ◌<◌, List, ◌++◌, length, sym, ◌∙◌, subst, arith, length-append}
use Rattle.std.proofs.lemmas.List.{get_or_append_left, get_or-append-add, map-id}
use Rattle.std.proofs.lemmas.List.Elements.{All-map}
use Rattle.std.specs.List.{All}
use Rattle.std.specs.List.Sorted.{IsStrictlySortedBy}
use Rattle.std.specs.Prelude.{map}
use Rattle.std.specs.Range.Bound.{bound_map}
use Rattle.std.specs.declared.cmp.Ordering.{Ordering}
use Rattle.std.specs.declared.ops.Bound.{Bound}
use Rattle.std.specs.declared.ops.Bound.TheVariants.{Included, Excluded, Unbounded}
use Rattle.rkyv_btree_format.specs.Increasing.{Increasing}
use Rattle.rkyv_btree_portable.specs.Kind.{Kind}
use Rattle.rkyv_btree_format.specs.Layout.{layout_of}
use Rattle.rkyv_btree_format.specs.Read.{entry_at, map_tree, read_map}
use Rattle.rkyv_btree_shape.specs.Tree.{list}
use Rattle.rkyv_btree_view.specs.Query.{IsCut}
use Rattle.rkyv_btree_view.specs.Ranges.{AreKeysBetween, IsBetween}
use Rattle.rkyv_btree_view.specs.Set.{AreKeysWithin, KeysOrderedFor}
use Rattle.rkyv_btree_view.specs.laws.Increasing.{increasing_ordered}
use Rattle.rkyv_btree_walk.specs.Bounds.{IsWithin, OrderedFor}
use Rattle.rkyv_btree_walk.specs.Search.{OrderedBy}

module _ {X : Type 0} (P : X → Type 0) (xs ys : List X) (all : All P (xs ++ ys)) where
  all_left : All P xs
  all_left i d less = let h : i < length (xs ++ ys) = omega (arith, length-append xs ys) in subst P (get_or_append_left xs ys d i less) (all i d h)

  all_right : All P ys
  all_right i d less = let h : length xs + i < length (xs ++ ys) = omega (arith, length-append xs ys) in subst P (get_or-append-add xs ys i d) (all (length xs + i) d h)

-- what gives the same at each element has the list ordered in the same way
module _ {X : Type 0} (comparison cut : X → Ordering) where
  changed : (o : Ordering) (xs : List X) → All (λ x. comparison x ≡ cut x) xs → All (λ x. cut x ≡ o) xs → All (λ x. comparison x ≡ o) xs
  changed o xs same is i d less = same i d less ∙ is i d less

  pub ordered_alike : (xs : List X) → All (λ x. comparison x ≡ cut x) xs → OrderedBy cut xs → OrderedBy comparison xs
  ordered_alike xs same (g, e, l, parts, greater, equal, less) =
      let both : All (λ x. comparison x ≡ cut x) ((g ++ e) ++ l) = subst (All (λ x. comparison x ≡ cut x)) parts same in
      let front : All (λ x. comparison x ≡ cut x) (g ++ e) = all_left (λ x. comparison x ≡ cut x) (g ++ e) l both in
      (g, e, l, parts, changed _ g (all_left (λ x. comparison x ≡ cut x) g e front) greater, changed _ e (all_right (λ x. comparison x ≡ cut x) g e front) equal, changed _ l (all_right (λ x. comparison x ≡ cut x) (g ++ e) l both) less)

module _ {A B : Type 0} (order : A → A → Ordering) (m : List (A × B)) (rises : Increasing order m) where
  -- by queries that give at each entry what a cut gives there
  pub entries_ordered : {Q : Type 0} (comparison cut : Q → A → Ordering) → ((q : Q) → IsCut order (cut q)) → ((q : Q) → All (λ e. comparison q e.0 ≡ cut q e.0) m) → (bound : Bound Q) → OrderedFor (bound_map comparison bound) m
  entries_ordered comparison cut cuts same Unbounded = tt
  entries_ordered comparison cut cuts same (Included q) = ordered_alike (λ e. comparison q e.0) (λ e. cut q e.0) m (same q) (increasing_ordered order (λ e. e.0) (cut q) (cuts q) m rises)
  entries_ordered comparison cut cuts same (Excluded q) = ordered_alike (λ e. comparison q e.0) (λ e. cut q e.0) m (same q) (increasing_ordered order (λ e. e.0) (cut q) (cuts q) m rises)

module _ {A : Type 0} (order : A → A → Ordering) (ks : List A) (rises : IsStrictlySortedBy order ks) where
  keys_rise : IsStrictlySortedBy order (map (λ k. k) ks)
  keys_rise = subst (IsStrictlySortedBy order) (sym (map-id ks)) rises

  -- so of keys
  pub keys_ordered : {Q : Type 0} (comparison cut : Q → A → Ordering) → ((q : Q) → IsCut order (cut q)) → ((q : Q) → All (λ k. comparison q k ≡ cut q k) ks) → (bound : Bound Q) → KeysOrderedFor (bound_map comparison bound) ks
  keys_ordered comparison cut cuts same Unbounded = tt
  keys_ordered comparison cut cuts same (Included q) = ordered_alike (comparison q) (cut q) ks (same q) (increasing_ordered order (λ k. k) (cut q) (cuts q) ks keys_rise)
  keys_ordered comparison cut cuts same (Excluded q) = ordered_alike (comparison q) (cut q) ks (same q) (increasing_ordered order (λ k. k) (cut q) (cuts q) ks keys_rise)

-- what is within two bounds, by queries that give at each entry what a cut gives there
pub between : {A B Q : Type 0} (order : A → A → Ordering) (m left : List (A × B)) (comparison cut : Q → A → Ordering) → ((q : Q) → IsCut order (cut q)) → ((q : Q) → All (λ e. comparison q e.0 ≡ cut q e.0) m) → (low high : Bound Q)
    → IsWithin (bound_map comparison low) (bound_map comparison high) m left → IsBetween order (bound_map comparison low) (bound_map comparison high) m left
between order m left comparison cut cuts same low high within = record {
  sorted = λ rises. let ordered = entries_ordered order m rises comparison cut cuts same in within (ordered low) (ordered high);
  within = within;
}

pub keys_between : {A Q : Type 0} (order : A → A → Ordering) (ks left : List A) (comparison cut : Q → A → Ordering) → ((q : Q) → IsCut order (cut q)) → ((q : Q) → All (λ k. comparison q k ≡ cut q k) ks) → (low high : Bound Q)
    → AreKeysWithin (bound_map comparison low) (bound_map comparison high) ks left → AreKeysBetween order (bound_map comparison low) (bound_map comparison high) ks left
keys_between order ks left comparison cut cuts same low high within = record {
  sorted = λ rises. let ordered = keys_ordered order ks rises comparison cut cuts same in within (ordered low) (ordered high);
  within = within;
}

-- what gives the same at each key that is read gives the same at each entry of the map
pub natives_alike : (K V : Kind) (E : ℕ) (b : List ℕ) (at : ℕ) (comparison cut : K.Value → Ordering) → ((p : ℕ) → comparison (K.read b p) ≡ cut (K.read b p)) → All (λ e. comparison e.0 ≡ cut e.0) (read_map K V E b at)
natives_alike K V E b at comparison cut same =
    All-map (λ e. comparison e.0 ≡ cut e.0) (entry_at K V E b) (list (map_tree (layout_of K V E) b at)) (λ i d less. same _)
