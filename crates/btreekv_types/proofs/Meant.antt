-- What native keys and values mean as they are archived.
use Rattle.std.proofs.Common.{◌≡◌, ℕ, ◌+◌, List, [], ◌∷◌, ◌++◌, map, refl, sym, ap, subst, ◌∙◌}
use Rattle.std.proofs.lemmas.List.Elements.{All-map, All-weaker}
use Rattle.std.specs.List.{AllByRecursion}
use Rattle.std.specs.List.Sorted.{IsStrictlySortedBy}
use Rattle.std.specs.Map.{keys_of}
use Rattle.std.proofs.lemmas.List.{length-map, map-append}
use Rattle.std.proofs.lemmas.List.Sums.{fold_push}
use Rattle.std.specs.BTreeMap.{insert_entry}
use Rattle.std.specs.List.{fold}
use Rattle.std.specs.declared.cmp.Ordering.{Ordering}
use Rattle.std.specs.declared.cmp.Ordering.TheVariants.{Less}
use Rattle.rkyv_btree_convert.proofs.Puts.{model_put}
use Rattle.rkyv_btree_convert.specs.Maps.{last_wins, model_both}
use Rattle.rkyv_btree_format.specs.Increasing.{Increasing, IsOutOfOrder}
use Rattle.rkyv_btree_portable.specs.Kind.{Kind}
use Rattle.rkyv_btree_writer.specs.Archiving.{Archival}
use Rattle.rkyv_btree_writing_laws.specs.SmallestMaps.{entry_value}
use Rattle.btreekv_commands.specs.Lines.{Entry}
use Rattle.btreekv_types.specs.Natives.{IsFirstBad, IsNativeFault, IsNoText, IsText, IsUnread}
use Rattle.btreekv_types.specs.Typed.{AreTyped, AreValues, IsTypedEntry, items, items_by, spelled_entry}
use Rattle.btreekv_types.specs.declared.fault.TypedFault.{TypedFault}
use Rattle.btreekv_types.specs.declared.fault.TypedFault.TheVariants.{Program, Archive, BadKey, BadValue, NoKey, NoLow, NoHigh}
use Rattle.btreearc_lines.specs.declared.fault.ProgramFault.TheVariants as fault
use Rattle.btreekv_types.proofs.Read.{both}

-- one more entry is put into a map of last values
pub one_put : {A B : Type 0} (order : A → A → Ordering) (taken m new : List (A × B)) (e : A × B) → m ≡ last_wins order taken → new ≡ insert_entry order m e.0 e.1 → new ≡ last_wins order (taken ++ e ∷ [])
one_put {A} {B} order taken m new e before is =
    is ∙ (ap (λ (n : List (A × B)). insert_entry order n e.0 e.1) before ∙ sym (fold_push (λ (n : List (A × B)) (x : A × B). insert_entry order n x.0 x.1) [] taken e))

-- entries that are ordered as their images
module _ {T U C D : Type 0} {cmp : T → T → Ordering} (order : C → C → Ordering) (key : T → C) (value : U → D) (ordered : (x y : T) → cmp x y ≡ order (key x) (key y)) where
  put_all : (xs m : List (T × U)) → model_both key value (fold (λ m e. insert_entry cmp m e.0 e.1) m xs) ≡ fold (λ m e. insert_entry order m e.0 e.1) (model_both key value m) (model_both key value xs)
  put_all [] m = refl
  put_all (x ∷ xs) m =
      put_all xs (insert_entry cmp m x.0 x.1) ∙ ap (λ n. fold (λ m e. insert_entry order m e.0 e.1) n (model_both key value xs)) (model_put order key value ordered x.0 x.1 m)

  -- their last values
  pub last_meant : (xs : List (T × U)) → model_both key value (last_wins cmp xs) ≡ last_wins order (model_both key value xs)
  last_meant xs = put_all xs []

  less_meant : (x : T) (xs : List (T × U)) → AllByRecursion (λ y. cmp x y ≡ Less) (keys_of xs) → AllByRecursion (λ y. order (key x) y ≡ Less) (keys_of (model_both key value xs))
  less_meant x [] h = tt
  less_meant x (y ∷ ys) h = (sym (ordered x y.0) ∙ h.0, less_meant x ys h.1)

  -- keys that increase
  pub increasing_meant : (xs : List (T × U)) → Increasing cmp xs → Increasing order (model_both key value xs)
  unfolding IsStrictlySortedBy
  increasing_meant [] h = tt
  increasing_meant (x ∷ xs) h = (less_meant x.0 xs h.0, increasing_meant xs h.1)

  -- and the first that doesn't
  pub out_of_order_meant : (xs : List (T × U)) (index : ℕ) → IsOutOfOrder cmp xs index → IsOutOfOrder order (model_both key value xs) index
  out_of_order_meant xs index o =
      let meant : T × U → C × D = λ x. (key x.0, value x.1) in
      record {
        front = map meant o.front;
        before = meant o.before;
        entry = meant o.entry;
        back = map meant o.back;
        parts = ap (map meant) o.parts ∙ map-append meant o.front (o.before ∷ o.entry ∷ o.back);
        number = o.number ∙ ap (λ n. n + 1) (sym (length-map o.front meant));
        first = subst (λ zs. Increasing order zs) (map-append meant o.front (o.before ∷ [])) (increasing_meant (o.front ++ o.before ∷ []) o.first);
        not_greater = λ e. o.not_greater (ordered o.before.0 o.entry.0 ∙ e);
      }

module _ {X R A Y S B : Type 0} {KA : Archival X R} {K : Kind} {key_order : A → A → Ordering} {key_at : List ℕ → ℕ → A} {key_of : X → A} {VA : Archival Y S} {V : Kind} {value_order : B → B → Ordering} {value_at : List ℕ → ℕ → B} {value_of : Y → B}
    (key_to : K.Value → A) (value_to : V.Value → B) (keys : AreValues KA K key_order key_at key_of key_to) (values : AreValues VA V value_order value_at value_of value_to) where
  abbrev pub meant : X × Y → K.Value × V.Value
  meant = entry_value K V 5 KA VA keys.same values.same

  -- native keys are ordered as what they mean
  pub key_ordered : (native_order : X → X → Ordering) → ((x y : X) → native_order x y ≡ key_order (key_of x) (key_of y)) → (x y : X) → native_order x y ≡ K.order (keys.same.to (KA.meaning x)) (keys.same.to (KA.meaning y))
  key_ordered native_order natively x y =
      natively x y ∙ (ap (λ k. key_order k (key_of y)) (keys.native x) ∙ (ap (λ k. key_order (key_to (keys.same.to (KA.meaning x))) k) (keys.native y) ∙ sym (keys.ordered (keys.same.to (KA.meaning x)) (keys.same.to (KA.meaning y)))))

  module _ (IsKey : A → Type 0) (key_text : A → List ℕ) (IsMapped : B → Type 0) (value_text : B → List ℕ) where
    same_texts : (natives : List (X × Y)) → map (spelled_entry (items_by IsKey key_text key_to) (items_by IsMapped value_text value_to)) (map meant natives) ≡ map (spelled_entry (items_by IsKey key_text key_of) (items_by IsMapped value_text value_of)) natives
    same_texts [] = refl
    same_texts (x ∷ xs) =
        ap (λ (e : Entry). e ∷ map (spelled_entry (items_by IsKey key_text key_to) (items_by IsMapped value_text value_to)) (map meant xs)) (both (ap key_text (sym (keys.native x.0))) (ap value_text (sym (values.native x.1))))
        ∙ ap (λ (es : List Entry). (key_text (key_of x.0), value_text (value_of x.1)) ∷ es) (same_texts xs)

    -- they have these texts
    pub typed_meant : (texts : List Entry) (natives : List (X × Y)) → AreTyped (items_by IsKey key_text key_of) (items_by IsMapped value_text value_of) texts natives
        → AreTyped (items_by IsKey key_text key_to) (items_by IsMapped value_text value_to) texts (map meant natives)
    typed_meant texts natives are = record {
      good = All-map (IsTypedEntry (items_by IsKey key_text key_to) (items_by IsMapped value_text value_to)) meant natives
          (All-weaker (IsTypedEntry (items_by IsKey key_text key_of) (items_by IsMapped value_text value_of)) (λ x. IsKey (key_to (meant x).0) × IsMapped (value_to (meant x).1)) (λ x h. (subst IsKey (keys.native x.0) h.0, subst IsMapped (values.native x.1) h.1)) natives are.good);
      texts_are = same_texts natives ∙ are.texts_are;
    }

    no_key : (text : List ℕ) → IsNoText (items IsKey key_text) text → IsNoText (items_by IsKey key_text key_to) text
    no_key text none = λ v is same. none (key_to v) is same

    no_value : (text : List ℕ) → IsNoText (items IsMapped value_text) text → IsNoText (items_by IsMapped value_text value_to) text
    no_value text none = λ v is same. none (value_to v) is same

    -- a native key's text is that of a key
    pub key_meant : (x : X) → IsKey (key_of x) → IsKey (key_to (keys.same.to (KA.meaning x)))
    key_meant x is = subst IsKey (keys.native x) is

    pub key_text_meant : (x : X) (text : List ℕ) → key_text (key_of x) ≡ text → key_text (key_to (keys.same.to (KA.meaning x))) ≡ text
    key_text_meant x text is = ap key_text (sym (keys.native x)) ∙ is

    first_bad_meant : (IsBad IsBadToo : Entry → Type 0) → ((e : Entry) → IsBad e → IsBadToo e) → (texts : List Entry) (n : ℕ) → IsFirstBad (items_by IsKey key_text key_of) (items_by IsMapped value_text value_of) IsBad texts n
        → IsFirstBad (items_by IsKey key_text key_to) (items_by IsMapped value_text value_to) IsBadToo texts n
    first_bad_meant IsBad IsBadToo also texts n b = record {
      front = b.front;
      entry = b.entry;
      back = b.back;
      parts = b.parts;
      number = b.number;
      before = map meant b.before;
      good = typed_meant b.front b.before b.good;
      bad = also b.entry b.bad;
    }

    -- why not all are read
    pub unread_meant : (texts : List Entry) (fault : TypedFault) → IsUnread (items_by IsKey key_text key_of) (items_by IsMapped value_text value_of) (items IsKey key_text) (items IsMapped value_text) texts fault
        → IsNativeFault (items_by IsKey key_text key_to) (items_by IsMapped value_text value_to) texts fault
    unread_meant texts (BadKey n) b = first_bad_meant (λ e. IsNoText (items IsKey key_text) e.0) _ (λ e none. no_key e.0 none) texts n b
    unread_meant texts (BadValue n) b =
        first_bad_meant (λ e. IsText (items_by IsKey key_text key_of) e.0 × IsNoText (items IsMapped value_text) e.1) _
        (λ e h. ((keys.same.to (KA.meaning h.0.0), key_meant h.0.0 h.0.1, key_text_meant h.0.0 e.0 h.0.2), no_value e.1 h.1)) texts n b
    unread_meant texts (Program fault.Memory) b = tt
    unread_meant texts (Program fault.Usage) b = absurd b
    unread_meant texts (Program (fault.Line n)) b = absurd b
    unread_meant texts (Program (fault.Refused e)) b = absurd b
    unread_meant texts (Program (fault.Misheaded e)) b = absurd b
    unread_meant texts (Program (fault.NotBuilt e)) b = absurd b
    unread_meant texts (Program fault.InputFailed) b = absurd b
    unread_meant texts (Program fault.OutputFailed) b = absurd b
    unread_meant texts NoKey b = absurd b
    unread_meant texts NoLow b = absurd b
    unread_meant texts NoHigh b = absurd b
    unread_meant texts (Archive n f) b = absurd b
