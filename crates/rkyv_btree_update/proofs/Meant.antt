-- Changes of entries that show something are changes of what these mean.
use Rattle.std.proofs.Common.{◌≡◌, ℕ, true, false, cond, List, [], ◌∷◌, map, refl, sym, ap, subst, ◌∙◌}
use Rattle.std.specs.BTreeMap.{insert_entry, is_at}
use Rattle.std.specs.List.{AllByRecursion}
use Rattle.std.specs.List.Sorted.{IsStrictlySortedBy}
use Rattle.std.specs.Map.{keys_of, remove_entry}
use Rattle.std.specs.Ordering.{is_eq, match_ordering}
use Rattle.std.specs.declared.cmp.Ordering.{Ordering}
use Rattle.std.specs.declared.cmp.Ordering.TheVariants.{Less, Equal, Greater}
use Rattle.rkyv_btree_portable.specs.Kind.{Kind}
use Rattle.rkyv_btree_format.specs.Read.{entry_at, read_map}
use Rattle.rkyv_btree_writer.specs.Archiving.{Archival}
use Rattle.rkyv_btree_update.specs.Natives.{IsLent, both, read_shown, shown_at}
use Rattle.rkyv_btree_update.specs.Updated.{all_put, changed, updated, change_meant, changes_meant}
use Rattle.rkyv_btree_update.specs.declared.change.Change.{Change}
use Rattle.rkyv_btree_update.specs.declared.change.Change.TheVariants.{Put, Delete}

module _ {T U A B : Type 0} (cmp : T → T → Ordering) (order : A → A → Ordering) (key : T → A) (value : U → B)
    (alike : (x y : T) → cmp x y ≡ order (key x) (key y)) where
  put_meant : (m : List (T × U)) (k : T) (v : U) → map (both key value) (insert_entry cmp m k v) ≡ insert_entry order (map (both key value) m) (key k) (value v)
  put_meant [] k v = refl
  put_meant (e ∷ m) k v =
      rw (← alike k e.0) (
      elim (cmp k e.0) as (λ o. map (both key value) (match_ordering o ((k, v) ∷ e ∷ m) ((e.0, v) ∷ m) (e ∷ insert_entry cmp m k v))
      ≡ match_ordering o (both key value (k, v) ∷ both key value e ∷ map (both key value) m) (both key value (e.0, v) ∷ map (both key value) m) (both key value e ∷ insert_entry order (map (both key value) m) (key k) (value v))) [
        | Less ↦ refl
        | Equal ↦ refl
        | Greater ↦ ap (λ zs. both key value e ∷ zs) (put_meant m k v)
      ])

  delete_meant : (m : List (T × U)) (k : T) → map (both key value) (remove_entry (is_at (cmp k)) m) ≡ remove_entry (is_at (order (key k))) (map (both key value) m)
  delete_meant [] k = refl
  delete_meant (e ∷ m) k =
      rw (← alike k e.0) (
      elim (is_eq (cmp k e.0)) as (λ b. map (both key value) (cond b m (e ∷ remove_entry (is_at (cmp k)) m))
      ≡ cond b (map (both key value) m) (both key value e ∷ remove_entry (is_at (order (key k))) (map (both key value) m))) [
        | true ↦ refl
        | false ↦ ap (λ zs. both key value e ∷ zs) (delete_meant m k)
      ])

  change_by_meaning : (m : List (T × U)) (c : T × Change U) → map (both key value) (changed cmp m c) ≡ changed order (map (both key value) m) (key c.0, change_meant value c.1)
  change_by_meaning m (k, Put v) = put_meant m k v
  change_by_meaning m (k, Delete) = delete_meant m k

  pub updated_meant : (m : List (T × U)) (cs : List (T × Change U)) → map (both key value) (updated cmp m cs) ≡ updated order (map (both key value) m) (changes_meant key value cs)
  updated_meant m [] = refl
  updated_meant m (c ∷ cs) = updated_meant (changed cmp m c) cs ∙ ap (λ zs. updated order zs (changes_meant key value cs)) (change_by_meaning m c)

-- shown keys that are ordered as what they mean increase where what they mean does
module _ {T U A B : Type 0} (key : T → A) (value : U → B) (cmp : T → T → Ordering) (order : A → A → Ordering) (alike : (x y : T) → cmp x y ≡ order (key x) (key y)) where
  less_meant : (k : T) (xs : List (T × U)) → AllByRecursion (λ a. order (key k) a ≡ Less) (keys_of (map (both key value) xs)) → AllByRecursion (λ x. cmp k x ≡ Less) (keys_of xs)
  less_meant k [] all = tt
  less_meant k (x ∷ xs) all = (alike k x.0 ∙ all.0, less_meant k xs all.1)

  increase_meant : (xs : List (T × U)) → IsStrictlySortedBy order (keys_of (map (both key value) xs)) → IsStrictlySortedBy cmp (keys_of xs)
  unfolding IsStrictlySortedBy
  increase_meant [] h = tt
  increase_meant (x ∷ xs) h = (less_meant x.0 xs h.0, increase_meant xs h.1)

-- what the entries of a map show means its entries
module _ {T U : Type 0} (K V : Kind) (E : ℕ) (key_lent : List ℕ → ℕ → T) (value_lent : List ℕ → ℕ → U) (key : T → K.Value) (value : U → V.Value)
    (keys_read : (b : List ℕ) (at : ℕ) → key (key_lent b at) ≡ K.read b at) (values_read : (b : List ℕ) (at : ℕ) → value (value_lent b at) ≡ V.read b at) (b : List ℕ) where
  places_meant : (places : List (ℕ × ℕ)) → map (both key value) (map (shown_at K V E key_lent value_lent b) places) ≡ map (entry_at K V E b) places
  places_meant [] = refl
  places_meant (e ∷ places) = rw (keys_read b _, values_read b _, places_meant places) refl

  pub shown_meant : (at : ℕ) → map (both key value) (read_shown K V E key_lent value_lent b at) ≡ read_map K V E b at
  shown_meant at = places_meant _

  module _ (cmp : T → T → Ordering) (alike : (x y : T) → cmp x y ≡ K.order (key x) (key y)) (at : ℕ) where
    pub shown_updated : (cs : List (T × Change U)) → map (both key value) (updated cmp (read_shown K V E key_lent value_lent b at) cs) ≡ updated K.order (read_map K V E b at) (changes_meant key value cs)
    shown_updated cs =
        updated_meant cmp K.order key value alike (read_shown K V E key_lent value_lent b at) cs ∙ ap (λ zs. updated K.order zs (changes_meant key value cs)) (shown_meant at)

    pub shown_increase : IsStrictlySortedBy K.order (keys_of (read_map K V E b at)) → IsStrictlySortedBy cmp (keys_of (read_shown K V E key_lent value_lent b at))
    shown_increase h = increase_meant key value cmp K.order alike (read_shown K V E key_lent value_lent b at) (subst (λ es. IsStrictlySortedBy K.order (keys_of es)) (sym (shown_meant at)) h)

-- what a value that is read shows means what the bytes mean
pub read_meant : {X Y R : Type 0} {archival : Archival X R} {kind : Kind} {shown : X → Y} {order : Y → Y → Ordering} {lent : List ℕ → ℕ → Y} {cmp : X → X → Ordering} (is : IsLent archival kind shown order lent cmp)
    → (b : List ℕ) (at : ℕ) → is.meant (lent b at) ≡ kind.read b at
read_meant is b at = ap is.meant (is.reads b at) ∙ is.back _

-- what native values mean is what they show means
module _ {X Y T U A B : Type 0} (key : X → A) (value : Y → B) (key_shown : X → T) (value_shown : Y → U) (key_meant : T → A) (value_meant : U → B)
    (keys : (x : X) → key x ≡ key_meant (key_shown x)) (values : (y : Y) → value y ≡ value_meant (value_shown y)) where
  change_through : (c : Change Y) → change_meant value c ≡ change_meant value_meant (change_meant value_shown c)
  change_through (Put v) = ap Put (values v)
  change_through Delete = refl

  pub changes_through : (cs : List (X × Change Y)) → changes_meant key value cs ≡ changes_meant key_meant value_meant (changes_meant key_shown value_shown cs)
  changes_through [] = refl
  changes_through (c ∷ cs) = rw (keys c.0, change_through c.1, changes_through cs) refl

  pub entries_through : (es : List (X × Y)) → map (both key value) es ≡ map (both key_meant value_meant) (map (both key_shown value_shown) es)
  entries_through [] = refl
  entries_through (e ∷ es) = rw (keys e.0, values e.1, entries_through es) refl

-- entries that are put have the keys of the entries, and mean the entries that are put of what they mean
keys_put : {T U : Type 0} (es : List (T × U)) → keys_of (all_put es) ≡ keys_of es
keys_put [] = refl
keys_put (e ∷ es) = ap (λ zs. e.0 ∷ zs) (keys_put es)

pub put_increase : {T U : Type 0} (order : T → T → Ordering) (es : List (T × U)) → IsStrictlySortedBy order (keys_of es) → IsStrictlySortedBy order (keys_of (all_put es))
put_increase order es h = subst (IsStrictlySortedBy order) (sym (keys_put es)) h

pub puts_meant : {T U A B : Type 0} (key : T → A) (value : U → B) (es : List (T × U)) → changes_meant key value (all_put es) ≡ all_put (map (both key value) es)
puts_meant key value [] = refl
puts_meant key value (e ∷ es) = ap (λ zs. (key e.0, Put (value e.1)) ∷ zs) (puts_meant key value es)
