-- Entries that are taken in turn, up to the first fault, and put into a map or after a list.
use Rattle.std.proofs.Common.{◌≡◌, List, [], ◌∷◌, ◌++◌, refl, sym, ap, ◌∙◌}
use Rattle.std.proofs.lemmas.List.{append-nil, append_assoc}
use Rattle.std.specs.BTreeMap.{insert_entry}
use Rattle.std.specs.List.{fold}
use Rattle.std.specs.Ordering.{match_ordering}
use Rattle.std.specs.Prelude.{Result, Ok, Err}
use Rattle.std.specs.Result.{result_map_both}
use Rattle.std.specs.declared.cmp.Ordering.{Ordering}
use Rattle.std.specs.declared.cmp.Ordering.TheVariants.{Less, Equal, Greater}
use Rattle.rkyv_btree_convert.specs.Deserializing.{both, all}
use Rattle.rkyv_btree_convert.specs.Maps.{model_both}

-- what is made of elements that are taken in turn, up to the first fault
module _ {A M F : Type 0} (step : M → A → M) where
  abbrev pub take_all : M → List (Result A F) → Result M F
  take_all m [] = Ok m
  take_all m (Ok x ∷ given) = take_all (step m x) given
  take_all m (Err fault ∷ given) = Err fault

  module _ (x : A) (m : M) where
    first_taken : (rest : Result (List A) F)
        → result_map_both (fold step (step m x)) (λ fault. fault) rest ≡ result_map_both (fold step m) (λ fault. fault) (result_map_both (λ p. p.0 ∷ p.1) (λ fault. fault) (both (Ok x) rest))
    first_taken (Ok xs) = refl
    first_taken (Err fault) = refl

  pub all_taken : (m : M) (given : List (Result A F)) → take_all m given ≡ result_map_both (fold step m) (λ fault. fault) (all given)
  all_taken m [] = refl
  all_taken m (Ok x ∷ given) = all_taken (step m x) given ∙ first_taken x m (all given)
  all_taken m (Err fault ∷ given) = refl

-- an entry put into a map, and one put after a list
abbrev pub put : {A B : Type 0} → (A → A → Ordering) → List (A × B) → A × B → List (A × B)
put order m e = insert_entry order m e.0 e.1

abbrev pub push : {A : Type 0} → List A → A → List A
push xs x = xs ++ x ∷ []

-- what is put after a list in turn is its end
pushed : {A : Type 0} (xs ys : List A) → fold push xs ys ≡ xs ++ ys
pushed xs [] = sym (append-nil xs)
pushed xs (y ∷ ys) = pushed (xs ++ y ∷ []) ys ∙ append_assoc xs (y ∷ []) ys

-- so a list of all elements is made of them
pub all_pushed : {A F : Type 0} (given : Result (List A) F) → result_map_both (fold push []) (λ fault. fault) given ≡ given
all_pushed (Ok xs) = ap Ok (pushed [] xs)
all_pushed (Err fault) = refl

abbrev pub put_all : {A B F : Type 0} → (A → A → Ordering) → List (A × B) → List (Result (A × B) F) → Result (List (A × B)) F
put_all order = take_all (put order)

-- the model of a map into which an entry was put
module _ {T U A B : Type 0} {cmp : T → T → Ordering} (order : A → A → Ordering) (key : T → A) (value : U → B) (ordered : (x y : T) → cmp x y ≡ order (key x) (key y)) (k : T) (v : U) where
  chosen : (o p : Ordering) → o ≡ p → (xs ys zs : List (T × U)) → model_both key value (match_ordering o xs ys zs) ≡ match_ordering p (model_both key value xs) (model_both key value ys) (model_both key value zs)
  chosen Less p e xs ys zs = rw (← e) refl
  chosen Equal p e xs ys zs = rw (← e) refl
  chosen Greater p e xs ys zs = rw (← e) refl

  pub model_put : (m : List (T × U)) → model_both key value (insert_entry cmp m k v) ≡ insert_entry order (model_both key value m) (key k) (value v)
  model_put [] = refl
  model_put (e ∷ m) =
      chosen (cmp k e.0) (order (key k) (key e.0)) (ordered k e.0) ((k, v) ∷ e ∷ m) ((e.0, v) ∷ m) (e ∷ insert_entry cmp m k v)
      ∙ ap (λ rest. match_ordering (order (key k) (key e.0)) ((key k, value v) ∷ model_both key value (e ∷ m)) ((key e.0, value v) ∷ model_both key value m) ((key e.0, value e.1) ∷ rest)) (model_put m)

-- the model of a list after which an entry was put
pub model_pushed : {T U A B : Type 0} (key : T → A) (value : U → B) (es : List (T × U)) (e : T × U) → model_both key value (es ++ e ∷ []) ≡ model_both key value es ++ (key e.0, value e.1) ∷ []
model_pushed key value [] e = refl
model_pushed key value (d ∷ es) e = ap (λ rest. (key d.0, value d.1) ∷ rest) (model_pushed key value es e)
