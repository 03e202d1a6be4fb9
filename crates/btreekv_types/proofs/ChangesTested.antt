-- Changes that are tested one after another.
use Rattle.std.proofs.Common.{◌≡◌, ℕ, zero, suc, ◌+◌, ◌<◌, List, [], ◌∷◌, ◌++◌, append_assoc, arith, drop, get_or, length, length-take, map, refl, sym, ap, subst, ◌∙◌, take}
use Rattle.std.proofs.lemmas.List.{length-map, map-append, map_push, take-append-drop, take_more}
use Rattle.std.proofs.lemmas.List.Elements.{All-push}
use Rattle.std.specs.List.{AllByRecursion}
use Rattle.rkyv_btree_convert.proofs.LastWins.{all_map}
use Rattle.rkyv_btree_format.specs.Increasing.{Increasing}
use Rattle.rkyv_btree_portable.specs.Kind.{Kind}
use Rattle.rkyv_btree_update.proofs.Meant.{changes_through}
use Rattle.rkyv_btree_update.specs.Updated.{change_meant, changes_meant}
use Rattle.rkyv_btree_update.specs.declared.change.Change.{Change}
use Rattle.rkyv_btree_writer.specs.Archiving.{Archival}
use Rattle.rkyv_btree_writer.specs.declared.fault.Fault.{Fault}
use Rattle.rkyv_btree_writer.specs.declared.fault.Fault.TheVariants.{Length, LengthOverflow, PositionOverflow, OffsetOverflow, Writer, Memory, Entry, OutOfOrder}
use Rattle.std.specs.declared.alloc.AllocError.{AllocError}
use Rattle.btreearc_lines.specs.Headings.{IsHeaded}
use Rattle.btreearc_lines.specs.declared.fault.ProgramFault.{ProgramFault}
use Rattle.btreearc_lines.specs.declared.fault.ProgramFault.TheVariants as fault
use Rattle.btreearc_lines.specs.declared.heading.Heading.{Heading}
use Rattle.btreekv_commands.specs.Changing.{AreChanges, TextChange}
use Rattle.btreekv_commands.specs.Lines.{Entry as TextEntry}
use Rattle.btreekv_types.specs.Changes.{AreTypedChanges, IsFirstBadChange, IsLinesFault, IsTypedChange, PutsText, changed_texts}
use Rattle.btreekv_types.specs.Commands.{FailsToRead, FailsToUpdate, IsUnbuiltOf, IsUnupdated}
use Rattle.btreekv_types.specs.Natives.{IsText}
use Rattle.btreekv_types.specs.Typed.{AreTyped, IsTypedEntry, IsTypedInput, Items, RefusesTypedStrict, items_by, spelled_entry}
use Rattle.btreekv_types.proofs.Read.{both}
use Rattle.btreekv_types.specs.declared.command.Order.{Order}
use Rattle.btreekv_types.specs.declared.command.Order.TheVariants.{Any, Increasing as Increasing_order}
use Rattle.btreekv_types.specs.declared.fault.TypedFault.{TypedFault}
use Rattle.btreekv_types.specs.declared.fault.TypedFault.TheVariants.{Program}

pub all_push : {X : Type 0} (P : X → Type 0) (xs : List X) (x : X) → AllByRecursion P xs → P x → AllByRecursion P (xs ++ x ∷ [])
all_push P [] x h is = (is, tt)
all_push P (y ∷ ys) x h is = (h.0, all_push P ys x h.1 is)

pub at_place : {X : Type 0} (P : X → Type 0) (xs : List X) (i : ℕ) (d : X) → i < length xs → AllByRecursion P xs → P (get_or xs i d)
at_place P [] i d inside h = absurd (omega (arith, inside))
at_place P (x ∷ xs) zero d inside h = h.0
at_place P (x ∷ xs) (suc i) d inside h = at_place P xs i d (omega (arith, inside)) h.1

-- of two lists the first
pub all_front : {X : Type 0} (P : X → Type 0) (xs ys : List X) → AllByRecursion P (xs ++ ys) → AllByRecursion P xs
all_front P [] ys h = tt
all_front P (x ∷ xs) ys h = (h.0, all_front P xs ys h.1)

-- one more entry of the types
pub typed_more : {A B : Type 0} (keys : Items A) (values : Items B) (texts : List TextEntry) (taken : List (A × B)) → AreTyped keys values texts taken → (x : A × B) → keys.IsValue x.0 → values.IsValue x.1 → (t : TextEntry) → keys.text x.0 ≡ t.0 → values.text x.1 ≡ t.1
    → AreTyped keys values (texts ++ t ∷ []) (taken ++ x ∷ [])
typed_more keys values texts taken are x key value t key_text value_text = record {
  good = All-push (IsTypedEntry keys values) taken x are.good (key, value);
  texts_are =
      map_push (spelled_entry keys values) taken x
      ∙ (ap (λ (es : List TextEntry). es ++ spelled_entry keys values x ∷ []) are.texts_are ∙ ap (λ (e : TextEntry). texts ++ e ∷ []) (both key_text value_text));
}

-- one more of those that are taken
pub taken_more : {Z T : Type 0} (g : Z → T) (xs : List Z) (i : ℕ) (d : Z) → i < length xs → map g (take (i + 1) xs) ≡ map g (take i xs) ++ g (get_or xs i d) ∷ []
taken_more g xs i d inside = ap (map g) (take_more xs i d inside) ∙ map_push g (take i xs) (get_or xs i d)

-- the first bad one
pub first_bad_change : {Z : Type 0} (g : Z → TextChange) (Good Bad : TextChange → Type 0) (xs : List Z) (i : ℕ) (d : Z) → i < length xs → AllByRecursion Good (map g (take i xs)) → Bad (g (get_or xs i d)) → (n : ℕ) → n ≡ i + 1
    → IsFirstBadChange Good Bad (map g xs) n
first_bad_change g Good Bad xs i d inside good bad n number = record {
  front = map g (take i xs);
  change = g (get_or xs i d);
  back = map g (drop (i + 1) xs);
  parts =
      ap (map g) (sym (take-append-drop (i + 1) xs) ∙ (ap (λ ys. ys ++ drop (i + 1) xs) (take_more xs i d inside) ∙ append_assoc (take i xs) (get_or xs i d ∷ []) (drop (i + 1) xs)))
      ∙ map-append g (take i xs) (get_or xs i d ∷ drop (i + 1) xs);
  number = omega (arith, number, length-map (take i xs) g, length-take i xs, inside);
  good = good;
  bad = bad;
}

-- the first bad one by other words
pub other_words : {Good Bad Good2 Bad2 : TextChange → Type 0} → ((c : TextChange) → Good c → Good2 c) → ((c : TextChange) → Bad c → Bad2 c) → (changes : List TextChange) (n : ℕ) → IsFirstBadChange Good Bad changes n
    → IsFirstBadChange Good2 Bad2 changes n
other_words good bad changes n b = record {
  front = b.front;
  change = b.change;
  back = b.back;
  parts = b.parts;
  number = b.number;
  good = all_map b.front good b.good;
  bad = bad b.change b.bad;
}

module _ {X A U : Type 0} (IsKey : A → Type 0) (key_text : A → List ℕ) (key_of : X → A) (text : U → List ℕ) where
  -- keys that are native have texts
  pub keys_good : (cs : List (X × Change U)) → AllByRecursion (λ c. IsKey (key_of c.0)) cs → AllByRecursion (λ c. IsText (items_by IsKey key_text key_of) c.0) (changes_meant (λ x. key_text (key_of x)) text cs)
  keys_good [] h = tt
  keys_good (c ∷ cs) h = ((c.0, h.0, refl), keys_good cs h.1)

  -- one more native key
  pub keyed_more : (cs : List (X × Change U)) (x : X) (c : Change U) (before : List TextChange) (k : List ℕ) (t : Change (List ℕ)) → changes_meant (λ x. key_text (key_of x)) text cs ≡ before → key_text (key_of x) ≡ k → change_meant text c ≡ t
      → changes_meant (λ x. key_text (key_of x)) text (cs ++ (x, c) ∷ []) ≡ before ++ (k, t) ∷ []
  keyed_more cs x c before k t was key change =
      map_push (λ (e : X × Change U). (key_text (key_of e.0), change_meant text e.1)) cs (x, c)
      ∙ (ap (λ es. es ++ (key_text (key_of x), change_meant text c) ∷ []) was
      ∙ (ap (λ (z : List ℕ). before ++ (z, change_meant text c) ∷ []) key ∙ ap (λ (z : Change (List ℕ)). before ++ (k, z) ∷ []) change))

  module _ {Y B : Type 0} (IsMapped : B → Type 0) (value_text : B → List ℕ) (value_of : Y → B) where
    abbrev native_keys : Items X
    native_keys = items_by IsKey key_text key_of

    abbrev native_values : Items Y
    native_values = items_by IsMapped value_text value_of

    all_typed : (cs : List (X × Change U)) → AllByRecursion (λ c. IsKey (key_of c.0)) cs → AllByRecursion (λ c. PutsText native_values c.1) (changes_meant (λ x. key_text (key_of x)) text cs)
        → AllByRecursion (IsTypedChange native_keys native_values) (changes_meant (λ x. x) text cs)
    all_typed [] h k = tt
    all_typed (c ∷ cs) h k = ((h.0, k.0), all_typed cs h.1 k.1)

    -- changes whose keys are native are of the types
    pub natives_typed : (lines : List ℕ) (cs : List (X × Change U)) (changes : List TextChange) → AreChanges lines changes → AllByRecursion (λ c. IsKey (key_of c.0)) cs → changes_meant (λ x. key_text (key_of x)) text cs ≡ changes
        → AllByRecursion (λ c. PutsText native_values c.1) changes → AreTypedChanges native_keys native_values lines (changes_meant (λ x. x) text cs)
    natives_typed lines cs changes read good same puts = record {
      good = all_typed cs good (subst (AllByRecursion (λ c. PutsText native_values c.1)) (sym same) puts);
      read = subst (AreChanges lines) (sym same ∙ changes_through (λ x. key_text (key_of x)) text (λ x. x) text (λ x. key_text (key_of x)) (λ t. t) (λ x. refl) (λ u. refl) cs) read;
    }

module _ (K V : Kind) (name : List ℕ) (keys : Items K.Value) (values : Items V.Value) {X R Y S : Type 0} (KA : Archival X R) (VA : Archival Y S) (order : Order) (input lines : List ℕ) where
  abbrev Failed : TypedFault → Type 0
  Failed fault = FailsToUpdate K V name keys values KA VA order input lines fault

  -- a line is no change
  pub lines_fail : (f : ProgramFault) → IsLinesFault lines f → Failed (Program f)
  lines_fail fault.Usage h = absurd h
  lines_fail (fault.Line n) h = h
  lines_fail (fault.Refused e) h = absurd h
  lines_fail (fault.Misheaded e) h = absurd h
  lines_fail (fault.NotBuilt e) h = absurd h
  lines_fail fault.InputFailed h = absurd h
  lines_fail fault.OutputFailed h = absurd h
  lines_fail fault.Memory h = tt

  -- the archive isn't read
  pub read_fails : (f : ProgramFault) → FailsToRead K V name keys values (RefusesTypedStrict K V name) input (Program f) → Failed (Program f)
  read_fails fault.Usage h = h
  read_fails (fault.Line n) h = absurd h
  read_fails (fault.Refused e) h = h
  read_fails (fault.Misheaded e) h = h
  read_fails (fault.NotBuilt e) h = absurd h
  read_fails fault.InputFailed h = h
  read_fails fault.OutputFailed h = h
  read_fails fault.Memory h = tt

  module _ (heading : Heading) (entries : List (K.Value × V.Value)) (changes : List (K.Value × Change (List ℕ))) (headed : IsHeaded name input heading) (old : IsTypedInput K V name input entries) (increase : Increasing K.order entries)
      (typed : AreTypedChanges keys values lines changes) where
    abbrev Unbuilt : TypedFault → Type 0
    Unbuilt fault = IsUnbuiltOf K V name keys values KA VA Any heading (changed_texts keys values K.order entries changes) fault

    unupdated : (fault : TypedFault) → Unbuilt fault → IsUnupdated K V name keys values KA VA input lines fault
    unupdated fault h = record { heading = heading; entries = entries; changes = changes; headed = headed; old = old; increase = increase; typed = typed; unbuilt = h }

    not_built : (f : Fault AllocError) → Unbuilt (Program (fault.NotBuilt f)) → Failed (Program (fault.NotBuilt f))
    not_built (Length e) h = unupdated _ h
    not_built LengthOverflow h = unupdated _ h
    not_built PositionOverflow h = unupdated _ h
    not_built OffsetOverflow h = unupdated _ h
    not_built (Writer e) h = unupdated _ h
    not_built (Memory e) h = unupdated _ h
    not_built (Entry e) h = unupdated _ h
    not_built (OutOfOrder index) h = absurd (never h.2.0)
      where
        never : Any ≡ Increasing_order → ⊥
        never e = absurd (cc e)

    -- the entries after the changes have no file
    pub unbuilt_fails : (f : ProgramFault) → Unbuilt (Program f) → Failed (Program f)
    unbuilt_fails fault.Usage h = absurd h
    unbuilt_fails (fault.Line n) h = absurd h
    unbuilt_fails (fault.Refused e) h = absurd h
    unbuilt_fails (fault.Misheaded e) h = absurd h
    unbuilt_fails (fault.NotBuilt e) h = not_built e h
    unbuilt_fails fault.InputFailed h = absurd h
    unbuilt_fails fault.OutputFailed h = absurd h
    unbuilt_fails fault.Memory h = tt
