-- What a look-up of a word in a source gives, by what the search of its bytes gives.
use Rattle.std.proofs.Common.{◌≡◌, ◌∙◌, ℕ, ◌<◌, ◌≤◌, List, Option, None, Some, Ok, Err, arith, ap, length, refl, subst, sym}
use Rattle.std.specs.BTreeMap.{is_at}
use Rattle.std.specs.Global.{Global}
use Rattle.std.specs.Map.{lookup}
use Rattle.std.specs.Option.{option_map}
use Rattle.std.specs.Prelude.{String, string_bytes}
use Rattle.rkyv_btree_format.specs.Increasing.{Increasing}
use Rattle.rkyv_btree_format.specs.OwnBytes.{IsArchiveOf, own_at}
use Rattle.rkyv_btree_format.specs.Read.{entry_at}
use Rattle.rkyv_btree_portable.specs.Kind.{Kind}
use Rattle.rkyv_btree_portable.specs.declared.refusal.Refusal.{Refusal}
use Rattle.rkyv_btree_source.specs.Reading.{IfRefused, IsCaused}
use Rattle.rkyv_btree_source.specs.declared.fault.SourceFault.{SourceFault}
use Rattle.rkyv_btree_source.specs.declared.fault.SourceFault.TheVariants.{Refused, Read, NoRoom, OverBudget}
use Rattle.rkyv_btree_unverified.specs.Lookups.{FindsAt, LookupGives, MapsAreSearched}
use Rattle.rkyv_btree_unverified.specs.Steps.{value_place}
use Rattle.rkyv_btree_verify.specs.Map.{map_kind}
use Rattle.rkyv_btree_view.specs.Lookup.{found_at}
use Rattle.rkyv_btree_view.specs.Map.{IsMap}
use Rattle.btreearc_lines.specs.declared.fault.ProgramFault.TheVariants as failed
use Rattle.btreekv_commands.proofs.LookedUp.{faults_so}
use Rattle.btreekv_commands.specs.Commands.{FoundValue}
use Rattle.btreekv_commands.specs.Forms.{value_line}
use Rattle.btreekv_commands.specs.Lines.{Entry}
use Rattle.btreekv_commands.specs.Sourced.{IsReadFailure, IsValueLine, lookup_fault}
use Rattle.btreekv_commands.specs.declared.forms.Form.{Form}
use Rattle.btreekv_types.specs.Commands.{IsKey, found_texts}
use Rattle.btreekv_types.specs.Sourced.{FailsToFind, FailsToSearch, FindsText, IfProgram, IsLengthened, SearchGives, WritesFound, value_text_at}
use Rattle.btreekv_types.specs.Typed.{Items, spelled_entry}
use Rattle.btreekv_types.specs.declared.fault.TypedFault.{TypedFault}
use Rattle.btreekv_types.specs.declared.fault.TypedFault.TheVariants.{Program}

-- a buffer that is lengthened is longer than what was lent of it
pub longer : {E : Type 0} (end node lent left : ℕ) (room : List ℕ) (fault : SourceFault E) → IsCaused end node lent left fault → IsLengthened fault room → (lent < length room) × (length room ≤ 4294967295)
longer end node lent left room (Refused e) caused h = absurd h
longer end node lent left room (Read e) caused h = absurd h
longer end node lent left room OverBudget caused h = absurd h
longer end node lent left room (NoRoom n) caused h = let more = caused.0 in (omega (arith, more, h.0), omega (arith, h.0, h.1))

-- no memory is no failed read
pub not_read : {E : Type 0} (P : E → Type 0) (end left : ℕ) (fault : TypedFault) → fault ≡ Program failed.Memory → IfProgram (IsReadFailure P end left) fault
not_read P end left fault is = subst (λ (f : TypedFault). IfProgram (IsReadFailure P end left) f) (sym is) (λ same. absurd (cc same))

value_is : (write : List ℕ → List ℕ) (o : Option Entry) (value : Option (List ℕ)) (text : List ℕ) (status : ℕ) → value ≡ option_map (λ (e : Entry). e.1) o
    → IsValueLine write value text status → FoundValue write o text status
value_is write None None text status same line = line
value_is write None (Some v) text status same line = absurd (cc same)
value_is write (Some e) None text status same line = absurd (cc same)
value_is write (Some e) (Some v) text status same line = let is : v ≡ e.1 = cc same in (line.0 ∙ ap write is, line.1)

module _ (K V : Kind) (name : List ℕ) (keys : Items K.Value) (values : Items V.Value) (KR VR : List ℕ → ℕ → ℕ → ℕ → Refusal → Type 0) (b : List ℕ) where
  texts_at : (e : Option (ℕ × ℕ)) → option_map values.text (option_map (λ p. V.read b (value_place K V 5 p)) e) ≡ option_map (value_text_at K V name keys values KR VR b) e
  texts_at None = refl
  texts_at (Some e) = refl

  found_value : (e : Option (ℕ × ℕ)) → option_map (value_text_at K V name keys values KR VR b) e ≡ option_map (λ (x : Entry). x.1) (option_map (spelled_entry keys values) (option_map (entry_at K V 5 b) e))
  found_value None = refl
  found_value (Some e) = refl

  -- no memory is a reason
  pub no_memory : (word : List ℕ) (fault : TypedFault) → fault ≡ Program failed.Memory → FailsToFind K V name keys values KR VR b word fault
  no_memory word fault is = subst (λ (f : TypedFault). FailsToFind K V name keys values KR VR b word f) (sym is) (record { accepts = λ entries a. tt; refuses = tt })

  -- a value that is found is written
  pub writes_found : (word : String Global) (form : Form) (text : List ℕ) (status : ℕ) (value : Option (List ℕ)) → FindsText K V name keys values KR VR b (string_bytes word) value
      → IsValueLine (value_line form) value text status → WritesFound K V name keys values KR VR b word form text status
  writes_found word form text status value finds line = record {
    archived = λ entries is. (
      (entries, is),
      (finds.key, finds.is_key, value_is (value_line form) (found_texts K V name keys values b finds.key) value text status (finds.archived entries is.1) line),
    );
    value = value;
    finds = finds;
    line = line;
  }

  module _ (at : ℕ) (place : at ≡ own_at (map_kind K V 5) b) (word : List ℕ) (key : K.Value) (is_key : IsKey K V name keys values word key) where
    is_map : (entries : List (K.Value × V.Value)) → IsArchiveOf (map_kind K V 5) b entries → IsMap K V 5 b at entries
    is_map entries is = subst (λ p. IsMap K V 5 b p entries) (sym place) (is.left, is.means)

    as_opened : MapsAreSearched K V 5 KR VR → (e : Option (ℕ × ℕ)) → LookupGives K V 5 b (K.order key) KR VR at (Ok e) → (entries : List (K.Value × V.Value)) → IsMap K V 5 b at entries
        → option_map (value_text_at K V name keys values KR VR b) e ≡ option_map (λ (x : Entry). x.1) (found_texts K V name keys values b key)
    as_opened searched e gives entries is =
        let s = searched b (K.order key) at entries (Ok e) is gives in
        let same : e ≡ s.0 = cc s.1 in
        let there : option_map (entry_at K V 5 b) e ≡ found_at K V 5 b at (K.order key) = ap (option_map (entry_at K V 5 b)) same ∙ s.2 in
        found_value e
        ∙ subst (λ p. option_map (λ (x : Entry). x.1) (option_map (spelled_entry keys values) (option_map (entry_at K V 5 b) e)) ≡ option_map (λ (x : Entry). x.1) (option_map (spelled_entry keys values) (found_at K V 5 b p (K.order key)))) place
        (ap (λ o. option_map (λ (x : Entry). x.1) (option_map (spelled_entry keys values) o)) there)

    -- what the search finds
    pub finds_text : MapsAreSearched K V 5 KR VR → (value : Option (List ℕ)) (found : Option V.Value) → value ≡ option_map values.text found
        → ((entries : List (K.Value × V.Value)) → IsMap K V 5 b at entries → Increasing K.order entries → found ≡ lookup (is_at (K.order key)) entries)
        → FindsAt K V 5 b (K.order key) KR VR at (λ e. V.read b (value_place K V 5 e)) found → FindsText K V name keys values KR VR b word value
    finds_text searched value found same sorted finds = record {
      key = key;
      is_key = is_key;
      sorted = λ entries is increase. same ∙ ap (option_map values.text) (sorted entries (is_map entries is) increase);
      archived = λ entries is. same ∙ (ap (option_map values.text) finds.2 ∙ (texts_at finds.0 ∙ as_opened searched finds.0 finds.1 entries (is_map entries is)));
      entry = finds.0;
      ends = subst (λ p. LookupGives K V 5 b (K.order key) KR VR p (Ok finds.0)) place finds.1;
      places = same ∙ (ap (option_map values.text) finds.2 ∙ texts_at finds.0);
    }

    -- and why it fails
    pub fails_to_search : {E : Type 0} (fault : SourceFault E) → IfRefused (λ e. LookupGives K V 5 b (K.order key) KR VR at (Err e)) fault
        → ((entries : List (K.Value × V.Value)) → IsMap K V 5 b at entries → IfRefused (λ _. ⊥) fault) → FailsToSearch K V name keys values KR VR b word (lookup_fault fault)
    fails_to_search fault refused accepts = record {
      accepts = λ entries is. faults_so (λ _. ⊥) (λ _. ⊥) (λ e h. h) fault (accepts entries (is_map entries is));
      refuses = faults_so (λ e. LookupGives K V 5 b (K.order key) KR VR at (Err e)) (λ e. (k : K.Value) × IsKey K V name keys values word k × SearchGives K V name keys values KR VR b k (Err e))
          (λ e h. (key, is_key, subst (λ p. LookupGives K V 5 b (K.order key) KR VR p (Err e)) place h)) fault refused;
    }
