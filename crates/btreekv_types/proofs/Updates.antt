-- Entries after changes: native keys and texts are changed as what they mean.
use Rattle.std.proofs.Common.{◌≡◌, ℕ, suc, List, [], ◌∷◌, ◌++◌, arith, drop, get_or, length, map, refl, sym, ap, subst, ◌∙◌}
use Rattle.std.proofs.lemmas.Simd.{map-map}
use Rattle.std.specs.BTreeMap.{insert_entry}
use Rattle.std.specs.Cmp.{IsTotalOrder}
use Rattle.std.specs.List.{All, AllByRecursion, fold}
use Rattle.std.specs.Map.{remove_entry}
use Rattle.std.specs.Ordering.{match_ordering}
use Rattle.std.specs.Prelude.{Bool, true, false, cond}
use Rattle.std.specs.declared.cmp.Ordering.{Ordering}
use Rattle.std.specs.declared.cmp.Ordering.TheVariants.{Less, Equal, Greater}
use Rattle.rkyv_btree_convert.proofs.LastWins.{all_map}
use Rattle.rkyv_btree_convert.proofs.RoundTrip.{ascending_stay}
use Rattle.rkyv_btree_convert.specs.Maps.{last_wins}
use Rattle.rkyv_btree_format.specs.Increasing.{Increasing, IsOutOfOrder}
use Rattle.rkyv_btree_portable.specs.Kind.{Kind}
use Rattle.rkyv_btree_update.proofs.Meant.{changes_through, updated_meant}
use Rattle.rkyv_btree_update.specs.Natives.{both as both_of}
use Rattle.rkyv_btree_update.specs.Updated.{change_meant, changed, changes_meant, updated}
use Rattle.rkyv_btree_update.specs.declared.change.Change.{Change}
use Rattle.rkyv_btree_update.specs.declared.change.Change.TheVariants.{Put, Delete}
use Rattle.rkyv_btree_writer.specs.Archiving.{Archival}
use Rattle.btreekv_commands.specs.Changing.{AreChanges}
use Rattle.btreekv_commands.specs.Lines.{Entry}
use Rattle.btreekv_types.specs.Changes.{AreTypedChanges, IsTypedChange, PutsNoText, PutsText, changed_texts, with_text}
use Rattle.btreekv_types.specs.Natives.{IsText}
use Rattle.btreekv_types.specs.Typed.{AreTyped, AreValues, Items, items, items_by, spelled}
use Rattle.btreekv_types.proofs.Meant.{increasing_meant, key_ordered, last_meant, out_of_order_meant}
use Rattle.btreekv_types.proofs.Read.{both}

-- what holds of keys and of values holds after changes
module _ {T U : Type 0} (cmp : T → T → Ordering) (IsKey : T → Type 0) (IsMapped : U → Type 0) where
  abbrev pub Both : T × U → Type 0
  Both e = IsKey e.0 × IsMapped e.1

  abbrev pub Change_is : T × Change U → Type 0
  Change_is (k, Put v) = IsKey k × IsMapped v
  Change_is (k, Delete) = Unit {0}

  all_put : (k : T) (v : U) (m : List (T × U)) → IsKey k → IsMapped v → AllByRecursion Both m → AllByRecursion Both (insert_entry cmp m k v)
  all_put k v [] key value h = ((key, value), tt)
  all_put k v (e ∷ m) key value h =
      elim (cmp k e.0) as (λ o. AllByRecursion Both (match_ordering o ((k, v) ∷ e ∷ m) ((e.0, v) ∷ m) (e ∷ insert_entry cmp m k v))) [
        | Less ↦ ((key, value), h)
        | Equal ↦ ((h.0.0, value), h.1)
        | Greater ↦ (h.0, all_put k v m key value h.1)
      ]

  all_deleted : (test : T → Bool) (m : List (T × U)) → AllByRecursion Both m → AllByRecursion Both (remove_entry test m)
  all_deleted test [] h = tt
  all_deleted test (e ∷ m) h =
      elim (test e.0) as (λ b. AllByRecursion Both (cond b m (e ∷ remove_entry test m))) [
        | true ↦ h.1
        | false ↦ (h.0, all_deleted test m h.1)
      ]

  pub all_inserted : (xs m : List (T × U)) → AllByRecursion Both xs → AllByRecursion Both m → AllByRecursion Both (fold (λ m e. insert_entry cmp m e.0 e.1) m xs)
  all_inserted [] m h k = k
  all_inserted (x ∷ xs) m h k = all_inserted xs (insert_entry cmp m x.0 x.1) h.1 (all_put x.0 x.1 m h.0.0 h.0.1 k)

  one_changed : (m : List (T × U)) (c : T × Change U) → Change_is c → AllByRecursion Both m → AllByRecursion Both (changed cmp m c)
  one_changed m (k, Put v) is h = all_put k v m is.0 is.1 h
  one_changed m (k, Delete) is h = all_deleted _ m h

  pub all_updated : (m : List (T × U)) (cs : List (T × Change U)) → AllByRecursion Change_is cs → AllByRecursion Both m → AllByRecursion Both (updated cmp m cs)
  all_updated m [] is h = h
  all_updated m (c ∷ cs) is h = all_updated (changed cmp m c) cs is.1 (one_changed m c is.0 h)

-- the texts of keys of an archive are those of keys
pub key_texts : {A B : Type 0} (K V : Kind) (key_to : K.Value → A) (value_to : V.Value → B) (IsKey : A → Type 0) (key_text : A → List ℕ) (IsMapped : B → Type 0) (value_text : B → List ℕ) (entries : List (K.Value × V.Value))
    → AllByRecursion (λ e. IsKey (key_to e.0) × IsMapped (value_to e.1)) entries → AllByRecursion (λ e. IsText (items IsKey key_text) e.0) (spelled (items_by IsKey key_text key_to) (items_by IsMapped value_text value_to) entries)
key_texts K V key_to value_to IsKey key_text IsMapped value_text [] h = tt
key_texts K V key_to value_to IsKey key_text IsMapped value_text (e ∷ es) h = ((key_to e.0, h.0.0, refl), key_texts K V key_to value_to IsKey key_text IsMapped value_text es h.1)

-- what holds at each place holds of all in turn
pub in_turn : {X : Type 0} (P : X → Type 0) (xs : List X) → All P xs → AllByRecursion P xs
in_turn P [] h = tt
in_turn P (x ∷ xs) h = (h 0 x (omega arith), in_turn P xs (λ k d inside. h (suc k) d (omega (arith, inside))))

pub all_mapped : {X Y : Type 0} (P : Y → Type 0) (f : X → Y) (xs : List X) → AllByRecursion (λ x. P (f x)) xs → AllByRecursion P (map f xs)
all_mapped P f [] h = tt
all_mapped P f (x ∷ xs) h = (h.0, all_mapped P f xs h.1)

pub all_unmapped : {X Y : Type 0} (P : Y → Type 0) (f : X → Y) (xs : List X) → AllByRecursion P (map f xs) → AllByRecursion (λ x. P (f x)) xs
all_unmapped P f [] h = tt
all_unmapped P f (x ∷ xs) h = (h.0, all_unmapped P f xs h.1)

-- and of one among them
pub one_of : {X : Type 0} (P : X → Type 0) (xs : List X) (y : X) (ys : List X) → AllByRecursion P (xs ++ y ∷ ys) → P y
one_of P [] y ys h = h.0
one_of P (x ∷ xs) y ys h = one_of P xs y ys h.1

pub first_same : {X : Type 0} {x y : X} {xs ys : List X} → x ∷ xs ≡ y ∷ ys → x ≡ y
first_same {x = x} e = ap (λ zs. get_or zs 0 x) e

pub rest_same : {X : Type 0} {x y : X} {xs ys : List X} → x ∷ xs ≡ y ∷ ys → xs ≡ ys
rest_same e = ap (λ zs. drop 1 zs) e

-- a list begins with a first element, or doesn't
pub none_some : {X : Type 0} (x : X) (xs : List X) → [] ≡ x ∷ xs → ⊥
none_some x xs e = absurd (omega (arith, ap length e))

module _ {X R A Y S B U : Type 0} {KA : Archival X R} {K : Kind} {key_order : A → A → Ordering} {key_at : List ℕ → ℕ → A} {key_of : X → A} {VA : Archival Y S} {V : Kind} {value_order : B → B → Ordering} {value_at : List ℕ → ℕ → B} {value_of : Y → B}
    (key_to : K.Value → A) (value_to : V.Value → B) (keys : AreValues KA K key_order key_at key_of key_to) (values : AreValues VA V value_order value_at value_of value_to)
    (cmp : X → X → Ordering) (natively : (x y : X) → cmp x y ≡ key_order (key_of x) (key_of y)) (IsKey : A → Type 0) (key_text : A → List ℕ) (IsMapped : B → Type 0) (value_text : B → List ℕ) (text : U → List ℕ) where
  abbrev key_items : Items K.Value
  key_items = items_by IsKey key_text key_to

  abbrev value_items : Items V.Value
  value_items = items_by IsMapped value_text value_to

  abbrev key : X → K.Value
  key x = keys.same.to (KA.meaning x)

  abbrev mapped_text : V.Value → List ℕ
  mapped_text v = value_text (value_to v)

  -- the changes that native keys and texts mean
  abbrev pub meant_changes : List (X × Change U) → List (K.Value × Change (List ℕ))
  meant_changes cs = changes_meant key text cs

  ordered : (x y : X) → cmp x y ≡ K.order (key x) (key y)
  ordered = key_ordered key_to value_to keys values cmp natively

  text_meant : (t : List ℕ) → IsText (items_by IsMapped value_text value_of) t → IsText value_items t
  text_meant t h = (values.same.to (VA.meaning h.0), subst IsMapped (values.native h.0) h.1, ap value_text (sym (values.native h.0)) ∙ h.2)

  pub puts_meant : (c : Change (List ℕ)) → PutsText (items_by IsMapped value_text value_of) c → PutsText value_items c
  puts_meant (Put t) h = text_meant t h
  puts_meant Delete h = tt

  pub no_puts_meant : (c : Change (List ℕ)) → PutsNoText (items IsMapped value_text) c → PutsNoText value_items c
  no_puts_meant (Put t) h = λ v is same. h (value_to v) is same
  no_puts_meant Delete h = h

  pub key_text_is : (t : List ℕ) → IsText (items_by IsKey key_text key_of) t → IsText key_items t
  key_text_is t h = (key h.0, subst IsKey (keys.native h.0) h.1, ap key_text (sym (keys.native h.0)) ∙ h.2)

  all_typed : (cs : List (X × Change U)) → AllByRecursion (IsTypedChange (items_by IsKey key_text key_of) (items_by IsMapped value_text value_of)) (changes_meant (λ x. x) text cs)
      → AllByRecursion (IsTypedChange key_items value_items) (meant_changes cs)
  all_typed [] h = tt
  all_typed (c ∷ cs) h = ((subst IsKey (keys.native c.0) h.0.0, puts_meant (change_meant text c.1) h.0.1), all_typed cs h.1)

  same_changes : (cs : List (X × Change U))
      → changes_meant (λ x. key_text (key_of x)) (λ t. t) (changes_meant (λ x. x) text cs) ≡ changes_meant (λ k. key_text (key_to k)) (λ t. t) (meant_changes cs)
  same_changes cs =
      sym (changes_through (λ x. key_text (key_of x)) text (λ x. x) text (λ x. key_text (key_of x)) (λ t. t) (λ x. refl) (λ u. refl) cs)
      ∙ changes_through (λ x. key_text (key_of x)) text key text (λ k. key_text (key_to k)) (λ t. t) (λ x. ap key_text (keys.native x)) (λ u. refl) cs

  -- they are of the types
  pub typed_changes : (lines : List ℕ) (cs : List (X × Change U)) → AreTypedChanges (items_by IsKey key_text key_of) (items_by IsMapped value_text value_of) lines (changes_meant (λ x. x) text cs)
      → AreTypedChanges key_items value_items lines (meant_changes cs)
  typed_changes lines cs are = record {
    good = all_typed cs are.good;
    read = subst (λ xs. AreChanges lines xs) (same_changes cs) are.read;
  }

  -- their keys are in order, or the first isn't
  pub changes_increase : (cs : List (X × Change U)) → Increasing cmp cs → Increasing K.order (meant_changes cs)
  changes_increase cs up = increasing_meant K.order key (change_meant text) ordered cs up

  pub change_out_of_order : (cs : List (X × Change U)) (index : ℕ) → IsOutOfOrder cmp cs index → IsOutOfOrder K.order (meant_changes cs) index
  change_out_of_order cs index out = out_of_order_meant K.order key (change_meant text) ordered cs index out

  module _ (apart : (x y : A) → IsKey x → IsKey y → key_text x ≡ key_text y → x ≡ y) where
    abbrev Stored : K.Value × V.Value → Type 0
    Stored e = IsKey (key_to e.0) × IsMapped (value_to e.1)

    abbrev native_text : X × U → Entry
    native_text p = (key_text (key_of p.0), text p.1)

    -- native keys of texts are those of the entries
    pub same_keys : (pairs : List (X × U)) (entries : List (K.Value × V.Value)) → AllByRecursion (λ p. IsKey (key_of p.0)) pairs → AllByRecursion Stored entries → map native_text pairs ≡ spelled key_items value_items entries
        → map (both_of key_of text) pairs ≡ map (both_of key_to mapped_text) entries
    same_keys [] [] h k same = refl
    same_keys [] (e ∷ es) h k same = absurd (none_some _ _ same)
    same_keys (p ∷ ps) [] h k same = absurd (none_some _ _ (sym same))
    same_keys (p ∷ ps) (e ∷ es) h k same =
        let one = first_same same in
        ap (λ z. z ∷ map (both_of key_of text) ps) (both (apart (key_of p.0) (key_to e.0) h.0 k.0.0 (ap (λ t. t.0) one)) (ap (λ t. t.1) one))
        ∙ ap (λ zs. both_of key_to mapped_text e ∷ zs) (same_keys ps es h.1 k.1 (rest_same same))

    -- and their texts are those of values
    pub texts_stored : (pairs : List (X × U)) (entries : List (K.Value × V.Value)) → AllByRecursion (λ p. IsKey (key_of p.0)) pairs → AllByRecursion Stored entries → map native_text pairs ≡ spelled key_items value_items entries
        → AllByRecursion (Both cmp (λ x. IsKey (key_of x)) (λ u. IsText (items IsMapped value_text) (text u))) pairs
    texts_stored [] [] h k same = tt
    texts_stored [] (e ∷ es) h k same = absurd (none_some _ _ same)
    texts_stored (p ∷ ps) [] h k same = absurd (none_some _ _ (sym same))
    texts_stored (p ∷ ps) (e ∷ es) h k same =
        ((h.0, (value_to e.1, k.0.1, ap (λ t. t.1) (sym (first_same same)))), texts_stored ps es h.1 k.1 (rest_same same))

    change_is : (c : X × Change U) → IsTypedChange (items_by IsKey key_text key_of) (items_by IsMapped value_text value_of) (c.0, change_meant text c.1)
        → Change_is cmp (λ x. IsKey (key_of x)) (λ u. IsText (items IsMapped value_text) (text u)) c
    change_is (x, Put u) h = (h.0, (value_of h.1.0, h.1.1, h.1.2))
    change_is (x, Delete) h = tt

    changes_are : (cs : List (X × Change U)) → AllByRecursion (IsTypedChange (items_by IsKey key_text key_of) (items_by IsMapped value_text value_of)) (changes_meant (λ x. x) text cs)
        → AllByRecursion (Change_is cmp (λ x. IsKey (key_of x)) (λ u. IsText (items IsMapped value_text) (text u))) cs
    changes_are [] h = tt
    changes_are (c ∷ cs) h = (change_is c h.0, changes_are cs h.1)

    -- all entries after changes are of the types
    pub all_after : (pairs : List (X × U)) (entries : List (K.Value × V.Value)) (cs : List (X × Change U)) → AllByRecursion (λ p. IsKey (key_of p.0)) pairs → AllByRecursion Stored entries
        → map native_text pairs ≡ spelled key_items value_items entries
        → AllByRecursion (IsTypedChange (items_by IsKey key_text key_of) (items_by IsMapped value_text value_of)) (changes_meant (λ x. x) text cs)
        → AllByRecursion (Both cmp (λ x. IsKey (key_of x)) (λ u. IsText (items IsMapped value_text) (text u))) (updated cmp (last_wins cmp pairs) cs)
    all_after pairs entries cs h k same are =
        all_updated cmp (λ x. IsKey (key_of x)) (λ u. IsText (items IsMapped value_text) (text u)) (last_wins cmp pairs) cs (changes_are cs are)
        (all_inserted cmp (λ x. IsKey (key_of x)) (λ u. IsText (items IsMapped value_text) (text u)) pairs [] (texts_stored pairs entries h k same) tt)

    -- the texts after changes are those of the entries after the changes
    pub changed_same : (total : IsTotalOrder K.order) (pairs : List (X × U)) (entries : List (K.Value × V.Value)) (cs : List (X × Change U)) → AllByRecursion (λ p. IsKey (key_of p.0)) pairs → AllByRecursion Stored entries
        → map native_text pairs ≡ spelled key_items value_items entries → Increasing K.order entries
        → map native_text (updated cmp (last_wins cmp pairs) cs) ≡ changed_texts key_items value_items K.order entries (meant_changes cs)
    changed_same total pairs entries cs h k same up =
        let now : List (X × U) = updated cmp (last_wins cmp pairs) cs in
        let after : List (K.Value × List ℕ) = updated K.order (map (with_text key_items value_items) entries) (meant_changes cs) in
        let olds : map (both_of key_of text) (last_wins cmp pairs) ≡ map (both_of key_to mapped_text) entries =
        last_meant key_order key_of text natively pairs
        ∙ (ap (last_wins key_order) (same_keys pairs entries h k same)
        ∙ (sym (last_meant key_order key_to mapped_text keys.ordered entries) ∙ ap (map (both_of key_to mapped_text)) (ascending_stay total entries up))) in
        let spelled_olds : map (both_of key_to (λ (t : List ℕ). t)) (map (with_text key_items value_items) entries) ≡ map (both_of key_to mapped_text) entries =
        map-map (both_of key_to (λ (t : List ℕ). t)) (with_text key_items value_items) entries in
        let native_side : map (both_of key_of text) now ≡ updated key_order (map (both_of key_to mapped_text) entries) (changes_meant key_of text cs) =
        updated_meant cmp key_order key_of text natively (last_wins cmp pairs) cs ∙ ap (λ zs. updated key_order zs (changes_meant key_of text cs)) olds in
        let spec_side : map (both_of key_to (λ (t : List ℕ). t)) after ≡ updated key_order (map (both_of key_to mapped_text) entries) (changes_meant key_of text cs) =
        updated_meant K.order key_order key_to (λ (t : List ℕ). t) keys.ordered (map (with_text key_items value_items) entries) (meant_changes cs)
        ∙ (ap (λ zs. updated key_order zs (changes_meant key_to (λ (t : List ℕ). t) (meant_changes cs))) spelled_olds
        ∙ ap (updated key_order (map (both_of key_to mapped_text) entries)) (sym (changes_through key_of text key text key_to (λ (t : List ℕ). t) keys.native (λ u. refl) cs))) in
        sym (map-map (λ (a : A × List ℕ). (key_text a.0, a.1)) (both_of key_of text) now)
        ∙ (ap (map (λ (a : A × List ℕ). (key_text a.0, a.1))) (native_side ∙ sym spec_side)
        ∙ map-map (λ (a : A × List ℕ). (key_text a.0, a.1)) (both_of key_to (λ (t : List ℕ). t)) after)

    -- native keys and texts after changes have the texts of the entries after the changes, and are of the types
    pub after_changes : (total : IsTotalOrder K.order) (texts : List Entry) (pairs : List (X × U)) (entries : List (K.Value × V.Value)) (lines : List ℕ) (cs : List (X × Change U)) (old now : List (X × U))
        → AreTyped (items_by IsKey key_text key_of) (items (λ t. Unit {0}) text) texts pairs → texts ≡ spelled key_items value_items entries → AllByRecursion Stored entries → Increasing K.order entries
        → AreTypedChanges (items_by IsKey key_text key_of) (items_by IsMapped value_text value_of) lines (changes_meant (λ x. x) text cs) → old ≡ last_wins cmp pairs → now ≡ updated cmp old cs
        → (map native_text now ≡ changed_texts key_items value_items K.order entries (meant_changes cs)) × AllByRecursion (Both cmp (λ x. IsKey (key_of x)) (λ u. IsText (items IsMapped value_text) (text u))) now
    after_changes total texts pairs entries lines cs old now are same stored up typed was is =
        let good : AllByRecursion (λ p. IsKey (key_of p.0)) pairs = all_map {P = λ p. IsKey (key_of p.0) × Unit {0}} pairs (λ p h. h.0) (in_turn (λ p. IsKey (key_of p.0) × Unit {0}) pairs are.good) in
        let alike : map native_text pairs ≡ spelled key_items value_items entries = are.texts_are ∙ same in
        let so : now ≡ updated cmp (last_wins cmp pairs) cs = is ∙ ap (λ m. updated cmp m cs) was in (
          ap (map native_text) so ∙ changed_same total pairs entries cs good stored alike up,
          subst (AllByRecursion (Both cmp (λ x. IsKey (key_of x)) (λ u. IsText (items IsMapped value_text) (text u)))) (sym so) (all_after pairs entries cs good stored alike typed.good),
        )
