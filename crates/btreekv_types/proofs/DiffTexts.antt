-- Differences of typed maps: native keys beside texts are compared as the values that they mean.
use Rattle.std.proofs.Common.{◌≡◌, ℕ, List, [], ◌∷◌, map, refl, sym, ap, ◌∙◌, string_bytes}
use Rattle.std.specs.Cmp.{IsTotalOrder}
use Rattle.std.specs.Cmp.Lexicographic.{bytes_decides}
use Rattle.std.specs.List.{AllByRecursion}
use Rattle.std.specs.Prelude.{String, bytes_eq}
use Rattle.std.specs.declared.alloc.Global.{Global}
use Rattle.std.specs.declared.cmp.Ordering.{Ordering}
use Rattle.rkyv_btree_format.specs.Increasing.{Increasing}
use Rattle.rkyv_btree_portable.specs.Kind.{Kind}
use Rattle.rkyv_btree_update.proofs.Meant.{changes_through}
use Rattle.rkyv_btree_update.specs.Natives.{both as both_of}
use Rattle.rkyv_btree_update.specs.Updated.{changes_meant}
use Rattle.rkyv_btree_update.specs.declared.change.Change.{Change}
use Rattle.rkyv_btree_update.specs.mirror.Compared.{compared}
use Rattle.btreearc_lines.specs.declared.fault.ProgramFault.{ProgramFault}
use Rattle.btreekv_commands.specs.Changing.{changes_text}
use Rattle.btreekv_commands.specs.Lines.{Entry}
use Rattle.btreekv_types.specs.Changes.{with_text}
use Rattle.btreekv_types.specs.Commands.{FailsToDiff, FailsToRead, HasTexts}
use Rattle.btreekv_types.specs.Differing.{IsDiffOf}
use Rattle.btreekv_types.specs.Typed.{AreTyped, IsTypedEntry, IsTypedInput, Items, RefusesTypedStrict, items, items_by, spelled}
use Rattle.btreekv_types.specs.declared.fault.TypedFault.TheVariants.{Program, Archive}
use Rattle.btreekv_types.specs.mirror.Differing.{Keyed, by_native, keyed, lines_between, lines_of_texts, same_text}
use Rattle.btreekv_types.proofs.ChangesTested.{at_place}
use Rattle.btreekv_types.proofs.Differences.{compared_leads, compared_meant}
use Rattle.btreekv_types.proofs.Meant.{increasing_meant}
use Rattle.btreekv_types.proofs.Read.{both}
use Rattle.btreekv_types.proofs.Updates.{first_same, in_turn, none_some, rest_same}

-- texts as values
abbrev pub texts_alone : Items (List ℕ)
texts_alone = items (λ t. Unit {0}) (λ t. t)

abbrev pub strings_alone : Items (String Global)
strings_alone = items (λ t. Unit {0}) string_bytes

module _ {X A : Type 0} (cmp : X → X → Ordering) (order : A → A → Ordering) (value : X → A) (natively : (x y : X) → cmp x y ≡ order (value x) (value y)) (IsValue : A → Type 0) (spelling : A → List ℕ)
    (apart : (x y : A) → IsValue x → IsValue y → spelling x ≡ spelling y → x ≡ y) where
  -- a key and its text: of a value, and of a native key
  abbrev with_spelling : A → A × List ℕ
  with_spelling a = (a, spelling a)

  abbrev with_native : X × String Global → A × List ℕ
  with_native k = (value k.0, string_bytes k.1)

  abbrev by_value : A × List ℕ → A × List ℕ → Ordering
  by_value x y = order x.0 y.0

  abbrev native_items : Items (X × String Global)
  native_items = keyed IsValue spelling value

  abbrev value_items : Items A
  value_items = items IsValue spelling

  -- entries with the same texts have the same keys
  same_entries : (p : List (Keyed X)) (m : List (A × List ℕ)) → AllByRecursion (IsTypedEntry native_items strings_alone) p → AllByRecursion (IsTypedEntry value_items texts_alone) m
      → spelled native_items strings_alone p ≡ spelled value_items texts_alone m → map (both_of with_native string_bytes) p ≡ map (both_of with_spelling (λ (t : List ℕ). t)) m
  same_entries [] [] h k same = refl
  same_entries [] (e ∷ es) h k same = absurd (none_some _ _ same)
  same_entries (p ∷ ps) [] h k same = absurd (none_some _ _ (sym same))
  same_entries (p ∷ ps) (e ∷ es) h k same =
      let one = first_same same in
      let text : string_bytes p.0.1 ≡ spelling e.0 = ap (λ (t : Entry). t.0) one in
      let key : value p.0.0 ≡ e.0 = apart (value p.0.0) e.0 h.0.0.0 k.0.0 (h.0.0.1 ∙ text) in
      ap (λ z. z ∷ map (both_of with_native string_bytes) ps) (both (both key text) (ap (λ (t : Entry). t.1) one))
      ∙ ap (λ zs. both_of with_spelling (λ (t : List ℕ). t) e ∷ zs) (same_entries ps es h.1 k.1 (rest_same same))

  same_typed : (texts : List Entry) (p : List (Keyed X)) (m : List (A × List ℕ)) → AreTyped native_items strings_alone texts p → AreTyped value_items texts_alone texts m
      → map (both_of with_native string_bytes) p ≡ map (both_of with_spelling (λ (t : List ℕ). t)) m
  same_typed texts p m h k =
      same_entries p m (in_turn (IsTypedEntry native_items strings_alone) p h.good) (in_turn (IsTypedEntry value_items texts_alone) m k.good) (h.texts_are ∙ sym k.texts_are)

  -- so the lines of their changes are the same
  pub lines_meant : (texts others : List Entry) (p r : List (Keyed X)) (m n : List (A × List ℕ)) → AreTyped native_items strings_alone texts p → AreTyped native_items strings_alone others r
      → AreTyped value_items texts_alone texts m → AreTyped value_items texts_alone others n → lines_between cmp p r ≡ lines_of_texts order spelling m n
  lines_meant texts others p r m n hp hr hm hn =
      let natives : List ((X × String Global) × Change (String Global)) = compared (by_native cmp) same_text p r in
      let values : List (A × Change (List ℕ)) = compared order bytes_eq m n in
      let olds = same_typed texts p m hp hm in
      let news = same_typed others r n hr hn in
      let changes : changes_meant with_native string_bytes natives ≡ changes_meant with_spelling (λ (t : List ℕ). t) values =
      compared_meant (by_native cmp) by_value with_native string_bytes (λ x y. natively x.0 y.0) same_text bytes_eq (λ x y. refl) p r
      ∙ (ap (λ zs. compared by_value bytes_eq zs (map (both_of with_native string_bytes) r)) olds
      ∙ (ap (compared by_value bytes_eq (map (both_of with_spelling (λ (t : List ℕ). t)) m)) news
      ∙ sym (compared_meant order by_value with_spelling (λ (t : List ℕ). t) (λ x y. refl) bytes_eq bytes_eq (λ x y. refl) m n))) in
      ap changes_text (changes_through (λ (k : X × String Global). string_bytes k.1) string_bytes with_native string_bytes (λ (x : A × List ℕ). x.1) (λ (t : List ℕ). t) (λ k. refl) (λ u. refl) natives
      ∙ (ap (changes_meant (λ (x : A × List ℕ). x.1) (λ (t : List ℕ). t)) changes
      ∙ sym (changes_through spelling (λ (t : List ℕ). t) with_spelling (λ (t : List ℕ). t) (λ (x : A × List ℕ). x.1) (λ (t : List ℕ). t) (λ a. refl) (λ t. refl) values)))

module _ (K V : Kind) {A B : Type 0} (key_order : A → A → Ordering) (key_to : K.Value → A) (value_to : V.Value → B) (ordered : (v w : K.Value) → K.order v w ≡ key_order (key_to v) (key_to w))
    (IsKey : A → Type 0) (key_text : A → List ℕ) (IsMapped : B → Type 0) (value_text : B → List ℕ) where
  abbrev keys : Items K.Value
  keys = items_by IsKey key_text key_to

  abbrev values : Items V.Value
  values = items_by IsMapped value_text value_to

  abbrev Stored : K.Value × V.Value → Type 0
  Stored e = IsKey (key_to e.0) × IsMapped (value_to e.1)

  abbrev entry_texts : List (K.Value × V.Value) → List (K.Value × List ℕ)
  entry_texts entries = map (with_text keys values) entries

  -- the entries of an archive by the values that its keys mean, and with the texts of values
  abbrev pub key_texts_of : List (K.Value × V.Value) → List (A × List ℕ)
  key_texts_of entries = map (both_of key_to (λ (t : List ℕ). t)) (entry_texts entries)

  all_keys : (entries : List (K.Value × V.Value)) → AllByRecursion Stored entries → AllByRecursion (IsTypedEntry (items IsKey key_text) texts_alone) (key_texts_of entries)
  all_keys [] h = tt
  all_keys (e ∷ es) h = ((h.0.0, tt), all_keys es h.1)

  same_spelled : (entries : List (K.Value × V.Value)) → spelled (items IsKey key_text) texts_alone (key_texts_of entries) ≡ spelled keys values entries
  same_spelled [] = refl
  same_spelled (e ∷ es) = ap (λ (zs : List Entry). (key_text (key_to e.0), value_text (value_to e.1)) ∷ zs) (same_spelled es)

  -- they have the texts of the entries
  pub typed_texts : (texts : List Entry) (entries : List (K.Value × V.Value)) → AllByRecursion Stored entries → texts ≡ spelled keys values entries → AreTyped (items IsKey key_text) texts_alone texts (key_texts_of entries)
  typed_texts texts entries h same = record {
    good = λ i d inside. at_place (IsTypedEntry (items IsKey key_text) texts_alone) (key_texts_of entries) i d inside (all_keys entries h);
    texts_are = same_spelled entries ∙ sym same;
  }

  abbrev changes_between : List (K.Value × V.Value) → List (K.Value × V.Value) → List (K.Value × Change (List ℕ))
  changes_between m n = compared K.order bytes_eq (entry_texts m) (entry_texts n)

  same_lines : (m n : List (K.Value × V.Value)) → lines_of_texts key_order key_text (key_texts_of m) (key_texts_of n) ≡ changes_text (changes_meant (λ k. key_text (key_to k)) (λ t. t) (changes_between m n))
  same_lines m n =
      ap changes_text (ap (changes_meant key_text (λ (t : List ℕ). t)) (sym (compared_meant K.order key_order key_to (λ (t : List ℕ). t) ordered bytes_eq bytes_eq (λ x y. refl) (entry_texts m) (entry_texts n)))
      ∙ sym (changes_through (λ (k : K.Value). key_text (key_to k)) (λ (t : List ℕ). t) key_to (λ (t : List ℕ). t) key_text (λ (t : List ℕ). t) (λ k. refl) (λ t. refl) (changes_between m n)))

  texts_increase : (m : List (K.Value × V.Value)) → Increasing K.order m → Increasing K.order (entry_texts m)
  texts_increase m up = increasing_meant K.order (λ (k : K.Value). k) (λ (v : V.Value). value_text (value_to v)) (λ x y. refl) m up

  -- a text of these lines is the difference
  pub is_diff : IsTotalOrder K.order → (name input other text : List ℕ) (m n : List (K.Value × V.Value)) → IsTypedInput K V name input m → Increasing K.order m → IsTypedInput K V name other n → Increasing K.order n
      → text ≡ lines_of_texts key_order key_text (key_texts_of m) (key_texts_of n) → IsDiffOf K V name keys values input other text
  is_diff total name input other text m n old old_up new new_up is = record {
    entries = m;
    others = n;
    changes = changes_between m n;
    old = old;
    old_increase = old_up;
    new = new;
    new_increase = new_up;
    leads = compared_leads K.order bytes_eq total (λ t. (bytes_decides t t).1 refl) (λ t u. (bytes_decides t u).0) (entry_texts m) (entry_texts n) (texts_increase m old_up) (texts_increase n new_up);
    lines = is ∙ same_lines m n;
  }

-- the first archive isn't read, or the second
module _ (K V : Kind) (name : List ℕ) (keys : Items K.Value) (values : Items V.Value) (input other : List ℕ) (fault : ProgramFault) where
  pub old_unread : FailsToRead K V name keys values (RefusesTypedStrict K V name) input (Program fault) → FailsToDiff K V name keys values input other (Archive 0 fault)
  old_unread fails = record { front = []; file = input; back = other ∷ []; parts = refl; number = refl; lists = []; before = tt; unread = fails }

  pub new_unread : (texts : List Entry) → HasTexts K V name keys values input texts → FailsToRead K V name keys values (RefusesTypedStrict K V name) other (Program fault) → FailsToDiff K V name keys values input other (Archive 1 fault)
  new_unread texts has fails = record { front = input ∷ []; file = other; back = []; parts = refl; number = refl; lists = texts ∷ []; before = (has, tt); unread = fails }
