-- Native maps that are made of all entries at once: of equal keys some one is kept, and these are the same by the models of them.
use Rattle.std.proofs.Common.{◌≡◌, cond, List, [], ◌∷◌, Option, Some, None, refl, sym, ap, ◌∙◌}
use Rattle.std.proofs.lemmas.Map.Made.{is_some-lookup, is_some-update_all}
use Rattle.std.specs.BTreeMap.{insert_entry, is_at}
use Rattle.std.specs.BTreeSet.{BTreeSet, IsFromIterResult}
use Rattle.std.specs.Cmp.{IsTotalOrder, alike_right, tied_itself, eq_by_cmp_equiv}
use Rattle.std.specs.List.{AllByRecursion, list_any}
use Rattle.std.specs.List.Sorted.{IsStrictlySortedBy}
use Rattle.std.specs.Map.{keys_of, lookup, update_all}
use Rattle.std.specs.Option.{is_some}
use Rattle.std.specs.Ordering.{eq_by_cmp, ordering_reverse}
use Rattle.std.specs.declared.cmp.Ordering.{Ordering}
use Rattle.std.specs.declared.cmp.Ordering.TheVariants.{Less, Equal, Greater}
use Rattle.rkyv_btree_format.specs.Units.{with_units}
use Rattle.rkyv_btree_convert.specs.Maps.{last_wins, model_both}
use Rattle.rkyv_btree_convert.proofs.Puts.{model_put}
use Rattle.rkyv_btree_convert.proofs.Units.{model_keys}
use Rattle.rkyv_btree_convert.proofs.LastWins.{put_in, lookup_put, sorted_all, all_map}

module _ {T U : Type 0} {cmp : T → T → Ordering} (total : IsTotalOrder cmp) where
  -- what is found after pairs are put in, in turn, is what an update by each makes of what was found
  pub lookup_all : (q : T) (xs m : List (T × U)) (f : T → Option U) → lookup (is_at (cmp q)) m ≡ f q → lookup (is_at (cmp q)) (put_in total m xs) ≡ update_all (eq_by_cmp cmp) f xs q
  lookup_all q [] m f found = found
  lookup_all q (x ∷ xs) m f found =
      lookup_all q xs (insert_entry cmp m x.0 x.1) (λ p. cond (eq_by_cmp cmp x.0 p) (Some x.1) (f p))
      (lookup_put total x.0 x.1 q m ∙ ap (λ b. cond b (Some x.1) (lookup (is_at (cmp q)) m)) ((eq_by_cmp_equiv total).symm q x.0) ∙ ap (λ o. cond (eq_by_cmp cmp x.0 q) (Some x.1) o) found)

  none_below : (q : T) (es : List (T × U)) → AllByRecursion (λ y. cmp q y ≡ Less) (keys_of es) → lookup (is_at (cmp q)) es ≡ None
  none_below q [] below = refl
  none_below q (e ∷ es) below = rw below.0 (none_below q es below.1)

  module _ (q : T) (e : T × U) (es : List (T × U)) (sorted : IsStrictlySortedBy cmp (keys_of (e ∷ es))) where
    none_from : cmp q e.0 ≡ Less → lookup (is_at (cmp q)) (e ∷ es) ≡ None
    unfolding IsStrictlySortedBy
    none_from less = none_below q (e ∷ es) (less, all_map (keys_of es) (λ y. total.trans q e.0 y less) sorted.0)

    none_behind : cmp q e.0 ≡ Equal → lookup (is_at (cmp q)) es ≡ None
    unfolding IsStrictlySortedBy
    none_behind same = none_below q es (all_map (keys_of es) (λ y less. total.congr q e.0 y same ∙ less) sorted.0)

  found : (e : T × U) (es : List (T × U)) → lookup (is_at (cmp e.0)) (e ∷ es) ≡ Some e.1
  found e es = rw (tied_itself total e.0) refl

  -- every key is found with the same value in both
  abbrev AreAlike : List (T × U) → List (T × U) → Type 0
  AreAlike es fs = (q : T) → lookup (is_at (cmp q)) es ≡ lookup (is_at (cmp q)) fs

  module _ (e f : T × U) (es fs : List (T × U)) (first : IsStrictlySortedBy cmp (keys_of (e ∷ es))) (second : IsStrictlySortedBy cmp (keys_of (f ∷ fs))) (alike : AreAlike (e ∷ es) (f ∷ fs)) where
    not_less : cmp e.0 f.0 ≡ Less → ⊥
    not_less less = let a = found e es in let b = none_from e.0 f fs second less in let c = alike e.0 in absurd (cc)

    not_past : cmp e.0 f.0 ≡ Greater → ⊥
    not_past past =
        let less : cmp f.0 e.0 ≡ Less = total.antisymm f.0 e.0 ∙ ap ordering_reverse past in
        let a = found f fs in let b = none_from f.0 e es first less in let c = alike f.0 in absurd (cc)

    module _ (same : cmp e.0 f.0 ≡ Equal) where
      same_value : e.1 ≡ f.1
      same_value =
          let a = found e es in let c = alike e.0 in
          let b : lookup (is_at (cmp e.0)) (f ∷ fs) ≡ Some f.1 = rw same refl in cc

      rest_alike : AreAlike es fs
      rest_alike q =
          let turn : cmp q e.0 ≡ cmp q f.0 = alike_right total e.0 f.0 q same in
          elim (cmp q e.0) as (λ o. cmp q e.0 ≡ o → lookup (is_at (cmp q)) es ≡ lookup (is_at (cmp q)) fs) [
            | Less ↦ λ at. rw (at, sym turn ∙ at) at (alike q)
            | Equal ↦ λ at. none_behind q e es first at ∙ sym (none_behind q f fs second (sym turn ∙ at))
            | Greater ↦ λ at. rw (at, sym turn ∙ at) at (alike q)
          ] refl

  module _ {A B : Type 0} (key : T → A) (value : U → B) (ties : (x y : T) → cmp x y ≡ Equal → key x ≡ key y) where
    -- ascending entries in which the same is found are the same, by the models of them
    same_model : (es fs : List (T × U)) → IsStrictlySortedBy cmp (keys_of es) → IsStrictlySortedBy cmp (keys_of fs) → AreAlike es fs → model_both key value es ≡ model_both key value fs
    unfolding IsStrictlySortedBy
    same_model [] [] first second alike = refl
    same_model [] (f ∷ fs) first second alike = let a = found f fs in let c = alike f.0 in absurd (cc)
    same_model (e ∷ es) [] first second alike = let a = found e es in let c = alike e.0 in absurd (cc)
    same_model (e ∷ es) (f ∷ fs) first second alike =
        elim (cmp e.0 f.0) as (λ o. cmp e.0 f.0 ≡ o → model_both key value (e ∷ es) ≡ model_both key value (f ∷ fs)) [
          | Less ↦ λ less. absurd (not_less e f es fs first second alike less)
          | Equal ↦ λ same.
              let k = ties e.0 f.0 same in
              let v = same_value e f es fs first second alike same in
              let rest = same_model es fs first.1 second.1 (rest_alike e f es fs first second alike same) in cc
          | Greater ↦ λ past. absurd (not_past e f es fs first second alike past)
        ] refl

-- the model of the map that all entries make at once is the map that they make in turn, as models
module _ {T U A B : Type 0} {cmp : T → T → Ordering} {order : A → A → Ordering} (key : T → A) (value : U → B) (total : IsTotalOrder order) (ordered : (x y : T) → cmp x y ≡ order (key x) (key y)) where
  cmp_total : IsTotalOrder cmp
  cmp_total = record {
    antisymm = λ x y. ordered x y ∙ total.antisymm (key x) (key y) ∙ sym (ap ordering_reverse (ordered y x));
    trans = λ x y z p q. ordered x z ∙ total.trans (key x) (key y) (key z) (sym (ordered x y) ∙ p) (sym (ordered y z) ∙ q);
    congr = λ x y z p. ordered x z ∙ total.congr (key x) (key y) (key z) (sym (ordered x y) ∙ p) ∙ sym (ordered y z);
  }

  model_all : (xs m : List (T × U)) → model_both key value (put_in cmp_total m xs) ≡ put_in total (model_both key value m) (model_both key value xs)
  model_all [] m = refl
  model_all (x ∷ xs) m = model_all xs (insert_entry cmp m x.0 x.1) ∙ ap (λ n. put_in total n (model_both key value xs)) (model_put order key value ordered x.0 x.1 m)

  -- `made` ascends and has what an update by each of the entries gives
  pub made_at_once : ((x y : A) → order x y ≡ Equal → x ≡ y) → (xs made : List (T × U)) → ((q : T) → lookup (is_at (cmp q)) made ≡ update_all (eq_by_cmp cmp) (λ _. None) xs q) → IsStrictlySortedBy cmp (keys_of made)
      → model_both key value made ≡ last_wins order (model_both key value xs)
  unfolding IsStrictlySortedBy
  made_at_once ties xs made finds sorted =
      same_model cmp_total key value (λ x y same. ties (key x) (key y) (sym (ordered x y) ∙ same)) made (put_in cmp_total [] xs) sorted (sorted_all cmp_total xs [] tt) (λ q. finds q ∙ sym (lookup_all cmp_total q xs [] (λ _. None) refl))
      ∙ model_all xs []

-- the same of a set, as the map whose values are ()
module _ {T A : Type 0} {cmp : T → T → Ordering} {order : A → A → Ordering} (key : T → A) (total : IsTotalOrder order) (ordered : (x y : T) → cmp x y ≡ order (key x) (key y)) where
  keys_alone : (ks : List T) → keys_of (with_units ks) ≡ ks
  keys_alone [] = refl
  keys_alone (k ∷ ks) = ap (λ rest. k ∷ rest) (keys_alone ks)

  one_unit : (o p : Option (Unit {0})) → is_some o ≡ is_some p → o ≡ p
  one_unit None None same = refl
  one_unit None (Some u) same = absurd (cc same)
  one_unit (Some u) None same = absurd (cc same)
  one_unit (Some u) (Some v) same = refl

  pub keys_at_once : ((x y : A) → order x y ≡ Equal → x ≡ y) → (xs : List (T × Unit {0})) (s : BTreeSet T) → IsFromIterResult cmp (keys_of xs) s
      → model_keys key s.keys ≡ last_wins order (model_both key (λ unit. unit) xs)
  keys_at_once ties xs s made =
      let laws = eq_by_cmp_equiv (cmp_total key (λ (unit : Unit {0}). unit) total ordered) in
      made_at_once key (λ unit. unit) total ordered ties xs (with_units s.keys)
      (λ q. one_unit _ _ (is_some-lookup (is_at (cmp q)) (with_units s.keys) ∙ ap (list_any (is_at (cmp q))) (keys_alone s.keys) ∙ made.0 q ∙ sym (is_some-update_all laws q (λ _. None) xs)))
      (rw keys_alone made.1)
