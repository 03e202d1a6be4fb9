-- A std map of changes into which they are inserted in turn, by what keys and changes mean.
use Rattle.std.proofs.Common.{◌≡◌, List, [], ◌∷◌, ◌++◌, map, refl, sym, ap, ◌∙◌}
use Rattle.std.proofs.lemmas.List.{map_push}
use Rattle.std.specs.BTreeMap.{insert_entry}
use Rattle.std.specs.List.{fold}
use Rattle.std.specs.Ordering.{match_ordering}
use Rattle.std.specs.declared.cmp.Ordering.{Ordering}
use Rattle.std.specs.declared.cmp.Ordering.TheVariants.{Less, Equal, Greater}
use Rattle.rkyv_btree_convert.specs.Maps.{last_wins}

fold_push : {A M : Type 0} (step : M → A → M) (z : M) (xs : List A) (x : A) → fold step z (xs ++ x ∷ []) ≡ step (fold step z xs) x
fold_push step z [] x = refl
fold_push step z (y ∷ ys) x = fold_push step (step z y) ys x

module _ {X Y A B : Type 0} (order : A → A → Ordering) (key : X → A) (value : Y → B) where
  abbrev means : X × Y → A × B
  means e = (key e.0, value e.1)

  -- native keys are ordered as what they mean
  abbrev cmp : X → X → Ordering
  cmp x y = order (key x) (key y)

  chosen : (o : Ordering) (xs ys : List (X × Y)) (e : X × Y) (zs : List (X × Y)) (others : List (A × B)) → map means zs ≡ others
      → map means (match_ordering o xs ys (e ∷ zs)) ≡ match_ordering o (map means xs) (map means ys) (means e ∷ others)
  chosen Less xs ys e zs others same = refl
  chosen Equal xs ys e zs others same = refl
  chosen Greater xs ys e zs others same = ap (λ (es : List (A × B)). means e ∷ es) same

  inserted : (k : X) (v : Y) (m : List (X × Y)) → map means (insert_entry cmp m k v) ≡ insert_entry order (map means m) (key k) (value v)
  inserted k v [] = refl
  inserted k v (e ∷ m) = chosen (cmp k e.0) ((k, v) ∷ e ∷ m) ((e.0, v) ∷ m) e (insert_entry cmp m k v) _ (inserted k v m)

  -- one more change
  pub one_inserted : (taken m new : List (X × Y)) (e : X × Y) → map means m ≡ last_wins order (map means taken) → new ≡ insert_entry cmp m e.0 e.1
      → map means new ≡ last_wins order (map means (taken ++ e ∷ []))
  one_inserted taken m new e before is =
      ap (map means) is ∙ (inserted e.0 e.1 m
      ∙ (ap (λ (es : List (A × B)). insert_entry order es (key e.0) (value e.1)) before
      ∙ (sym (fold_push (λ es x. insert_entry order es x.0 x.1) [] (map means taken) (means e))
      ∙ ap (last_wins order) (sym (map_push means taken e)))))
