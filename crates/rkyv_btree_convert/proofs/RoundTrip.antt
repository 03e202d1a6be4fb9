-- Entries whose keys ascend are put into a map one after the other.
use Rattle.std.proofs.Common.{◌≡◌, ℕ, ◌+◌, List, [], ◌∷◌, ◌++◌, map, refl, ap, sym, ◌∙◌, append-nil}
use Rattle.std.proofs.lemmas.List.Elements.{All-head, All-map, All-tail}
use Rattle.std.specs.BTreeMap.{insert_entry}
use Rattle.std.specs.Cmp.{IsTotalOrder}
use Rattle.std.specs.List.{All, AllByRecursion, fold}
use Rattle.std.specs.List.Sorted.{IsStrictlySortedBy}
use Rattle.std.specs.Map.{keys_of}
use Rattle.std.specs.Ordering.{ordering_reverse}
use Rattle.std.specs.Prelude.{Result, Ok}
use Rattle.std.specs.Result.{result_map_both}
use Rattle.std.specs.declared.cmp.Ordering.{Ordering}
use Rattle.std.specs.declared.cmp.Ordering.TheVariants.{Less, Greater}
use Rattle.rkyv_btree_writer.specs.declared.fault.EntryFault.{EntryFault}
use Rattle.rkyv_btree_portable.specs.Kind.{Kind}
use Rattle.rkyv_btree_format.specs.Layout.{layout_of, key_at, value_at}
use Rattle.rkyv_btree_verify.specs.Map.{map_kind}
use Rattle.rkyv_btree_format.specs.Read.{entry_at, map_tree}
use Rattle.rkyv_btree_portable.specs.Scalars.{unit_kind}
use Rattle.rkyv_btree_format.specs.Units.{with_units}
use Rattle.rkyv_btree_shape.specs.Tree.{list}
use Rattle.rkyv_btree_convert.specs.Deserializing.{all}
use Rattle.rkyv_btree_convert.specs.Maps.{given_at, last_wins, map_given, native_map, model_both}
use Rattle.rkyv_btree_convert.specs.RoundTrip.{IsGivenBack, both_mean}
use Rattle.rkyv_btree_convert.specs.Sets.{native_set, unit_given}
use Rattle.rkyv_btree_convert.proofs.Units.{units_model}

module _ {A B : Type 0} {order : A → A → Ordering} (total : IsTotalOrder order) where
  -- what holds of all keys holds of one amid them
  holds_amid : (P : A → Type 0) (m : List (A × B)) (e : A × B) (rest : List (A × B)) → AllByRecursion P (keys_of (m ++ e ∷ rest)) → P e.0
  holds_amid P [] e rest h = h.0
  holds_amid P (x ∷ m) e rest h = holds_amid P m e rest h.1

  put_last : (m : List (A × B)) (e : A × B) (rest : List (A × B)) → IsStrictlySortedBy order (keys_of (m ++ e ∷ rest)) → insert_entry order m e.0 e.1 ≡ m ++ e ∷ []
  unfolding IsStrictlySortedBy
  put_last [] e rest h = refl
  put_last (x ∷ m) e rest h =
      let past : order e.0 x.0 ≡ Greater = total.antisymm e.0 x.0 ∙ ap ordering_reverse (holds_amid (λ y. order x.0 y ≡ Less) m e rest h.0) in
      rw past (ap (λ ys. x ∷ ys) (put_last m e rest h.1))

  append_one : (m : List (A × B)) (e : A × B) (rest : List (A × B)) → (m ++ e ∷ []) ++ rest ≡ m ++ e ∷ rest
  append_one [] e rest = refl
  append_one (x ∷ m) e rest = ap (λ ys. x ∷ ys) (append_one m e rest)

  put_ascending : (entries m : List (A × B)) → IsStrictlySortedBy order (keys_of (m ++ entries)) → fold (λ m e. insert_entry order m e.0 e.1) m entries ≡ m ++ entries
  put_ascending [] m h = sym (append-nil m)
  put_ascending (e ∷ entries) m h =
      ap (λ n. fold (λ m e. insert_entry order m e.0 e.1) n entries) (put_last m e entries h)
      ∙ put_ascending entries (m ++ e ∷ []) (rw (append_one m e entries) h)
      ∙ append_one m e entries

  -- where keys ascend, the last of each is the only one
  pub ascending_stay : (entries : List (A × B)) → IsStrictlySortedBy order (keys_of entries) → last_wins order entries ≡ entries
  ascending_stay entries h = put_ascending entries [] h

-- keys ascend as the model of them
module _ {T U A B : Type 0} {cmp : T → T → Ordering} (order : A → A → Ordering) (key : T → A) (value : U → B) (ordered : (x y : T) → cmp x y ≡ order (key x) (key y)) where
  model_below : (x : T) (m : List (T × U)) → AllByRecursion (λ y. cmp x y ≡ Less) (keys_of m) → AllByRecursion (λ y. order (key x) y ≡ Less) (keys_of (model_both key value m))
  model_below x [] h = tt
  model_below x (e ∷ m) h = (sym (ordered x e.0) ∙ h.0, model_below x m h.1)

  model_ascending : (m : List (T × U)) → IsStrictlySortedBy cmp (keys_of m) → IsStrictlySortedBy order (keys_of (model_both key value m))
  unfolding IsStrictlySortedBy
  model_ascending [] h = tt
  model_ascending (e ∷ m) h = (model_below e.0 m h.0, model_ascending m h.1)

-- all of what gives itself
all_model : {X A F : Type 0} (model : X → A) (xs : List X) → all {F = F} (map (λ x. Ok (model x)) xs) ≡ Ok (map model xs)
all_model model [] = refl
all_model {F} model (x ∷ xs) = rw (all_model {F = F} model xs) refl

module _ (K V : Kind) (E : ℕ) {T U A B : Type 0} (key : List ℕ → ℕ → Result A EntryFault) (value : List ℕ → ℕ → Result B EntryFault) (model_key : T → A) (model_value : U → B) (mean_key : T → K.Value) (mean_value : U → V.Value) where
  -- both parts of an entry are given back
  abbrev BothBack : T × U → Type 0
  BothBack e = IsGivenBack K mean_key key model_key e.0 × IsGivenBack V mean_value value model_value e.1

  -- places at which entries are read give the model of these
  places_given : (b : List ℕ) (places : List (ℕ × ℕ)) (entries : List (T × U)) → All BothBack entries → map (entry_at K V E b) places ≡ both_mean mean_key mean_value entries → map (given_at K V E key value b) places ≡ map (λ e. Ok (model_key e.0, model_value e.1)) entries
  places_given b [] [] each same = refl
  places_given b [] (e ∷ entries) each same = absurd (cc same)
  places_given b (p ∷ places) [] each same = absurd (cc same)
  places_given b (p ∷ places) (e ∷ entries) each same =
      let first : entry_at K V E b p ≡ (mean_key e.0, mean_value e.1) = cc same in
      let both = All-head BothBack e entries each in
      let k = both.0 b (p.0 + key_at (layout_of K V E) p.1) (ap (λ r. r.0) first) in
      let v = both.1 b (p.0 + value_at (layout_of K V E) p.1) (ap (λ r. r.1) first) in
      let rest = places_given b places entries (All-tail BothBack e entries each) (cc same) in
      rw (k, v, rest) refl

  -- where keys ascend as the model of them, a map of such entries is given back
  pub map_back : {cmp : T → T → Ordering} {order : A → A → Ordering} → IsTotalOrder order → ((x y : T) → cmp x y ≡ order (model_key x) (model_key y)) → (entries : List (T × U)) → IsStrictlySortedBy cmp (keys_of entries) → All BothBack entries
      → IsGivenBack (map_kind K V E) (both_mean mean_key mean_value) (native_map K V E key value order) (model_both model_key model_value) entries
  map_back {order} total ordered entries ascending each b at same =
      let model : T × U → A × B = λ e. (model_key e.0, model_value e.1) in
      ap (map_given order) (places_given b (list (map_tree (layout_of K V E) b at)) entries each same)
      ∙ ap (result_map_both (last_wins order) (λ fault. fault)) (all_model {F = EntryFault} model entries)
      ∙ ap Ok (ascending_stay total (model_both model_key model_value entries) (model_ascending order model_key model_value ordered entries ascending))

-- the keys of a set, as those of the map that it is
keys_of_units : {T : Type 0} (ks : List T) → keys_of (with_units ks) ≡ ks
keys_of_units [] = refl
keys_of_units (k ∷ ks) = ap (λ rest. k ∷ rest) (keys_of_units ks)

module _ (K : Kind) (E : ℕ) {T A : Type 0} (key : List ℕ → ℕ → Result A EntryFault) (model_key : T → A) (mean_key : T → K.Value) where
  -- and so is a set of such keys
  pub set_back : {cmp : T → T → Ordering} {order : A → A → Ordering} → IsTotalOrder order → ((x y : T) → cmp x y ≡ order (model_key x) (model_key y)) → (ks : List T) → IsStrictlySortedBy cmp ks → All (IsGivenBack K mean_key key model_key) ks
      → IsGivenBack (map_kind K unit_kind E) (λ ks. both_mean mean_key (λ unit. unit) (with_units ks)) (native_set K E key order) (map model_key) ks
  set_back {cmp} {order} total ordered ks ascending each b at same =
      let unit_mean : Unit {0} → unit_kind.Value = λ unit. unit in
      let unit_model : Unit {0} → Unit {0} = λ unit. unit in
      let unit_back : IsGivenBack unit_kind unit_mean (λ b at. unit_given) unit_model tt = λ b at same. refl in
      let Back : T × Unit {0} → Type 0 = λ e. IsGivenBack K mean_key key model_key e.0 × IsGivenBack unit_kind unit_mean (λ b at. unit_given) unit_model e.1 in
      let units : All Back (with_units ks) = All-map Back (λ k. (k, tt)) ks (λ i d within. (each i d within, unit_back)) in
      let sorted : IsStrictlySortedBy cmp (keys_of (with_units ks)) = rw (keys_of_units ks) ascending in
      let made = map_back K unit_kind E key (λ b at. unit_given) model_key unit_model mean_key unit_mean total ordered (with_units ks) sorted units b at same in
      ap (result_map_both keys_of (λ fault. fault)) made ∙ ap Ok (units_model model_key ks)
