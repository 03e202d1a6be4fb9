-- What a look-up in a source gives, by what the search of its bytes gives.
use Rattle.std.proofs.Common.{◌≡◌, ◌∙◌, ◌++◌, ◌∷◌, [], ℕ, Bool, true, false, List, Option, None, Some, Ok, Err, inl, inr, ap, refl, sym, subst, length, ◌<◌, arith}
use Rattle.std.specs.BTreeMap.{is_at}
use Rattle.std.specs.Cmp.Lexicographic.{slice_cmp}
use Rattle.std.specs.Global.{Global}
use Rattle.std.specs.Map.{lookup}
use Rattle.std.specs.Option.{option_map}
use Rattle.std.specs.Ordering.{nat_cmp}
use Rattle.std.specs.Prelude.{is_some, String, string_bytes, Result, IfErr}
use Rattle.rkyv_btree_portable.specs.Refusing.{RefusesWhole}
use Rattle.rkyv_btree_portable.specs.Text.{text_kind}
use Rattle.rkyv_btree_portable.specs.declared.refusal.Refusal.{Refusal}
use Rattle.rkyv_btree_portable.specs.declared.refusal.Refusal.TheVariants.{TooLong}
use Rattle.rkyv_btree_portable.specs.Refusing.{too_long}
use Rattle.rkyv_btree_format.specs.Read.{entry_at}
use Rattle.rkyv_btree_format.specs.OwnBytes.{own_at}
use Rattle.rkyv_btree_source.specs.Reading.{IfRead, IfRefused, IsCaused}
use Rattle.rkyv_btree_source.specs.declared.fault.SourceFault.{SourceFault}
use Rattle.rkyv_btree_source.specs.declared.fault.SourceFault.TheVariants.{Refused, Read, NoRoom, OverBudget}
use Rattle.rkyv_btree_unverified.specs.Lookups.{FindsAt, LookupGives, MapsAreSearched}
use Rattle.rkyv_btree_unverified.specs.Steps.{misplaced}
use Rattle.rkyv_btree_view.specs.Lookup.{found_at}
use Rattle.rkyv_btree_view.specs.Map.{IsMap}
use Rattle.btreearc_lines.specs.declared.fault.ProgramFault.{ProgramFault}
use Rattle.btreearc_lines.specs.declared.fault.ProgramFault.TheVariants as failed
use Rattle.btreekv_commands.specs.Commands.{found_in_archive, FoundValue, Outputs}
use Rattle.btreekv_commands.specs.Forms.{value_line}
use Rattle.btreekv_commands.specs.Lines.{Entry}
use Rattle.btreekv_commands.specs.Opening.{texts, texts_name, HasFitHeading, IsArchive, KeysIncrease}
use Rattle.btreearc_lines.specs.Headings.{IsMisheaded}
use Rattle.btreearc_lines.specs.declared.heading.HeadingFault.{HeadingFault}
use Rattle.btreekv_commands.specs.Sourced.{found_line, value_at, AppendsFound, FailsToSearch, GivesValue, IfMisheaded, IsLookupFault, IsReadFailure, IsUnopenedSource, IsValueLine, SearchGives, WritesFound, first_bytes, lookup_fault}
use Rattle.btreekv_commands.specs.declared.forms.Form.{Form}

-- what holds of each refusal holds of the program's error
pub faults_so : {E : Type 0} (P Q : Refusal → Type 0) → ((e : Refusal) → P e → Q e) → (fault : SourceFault E) → IfRefused P fault → IsLookupFault Q (lookup_fault fault)
faults_so P Q on (Refused e) h = on e h
faults_so P Q on (Read e) h = tt
faults_so P Q on (NoRoom n) h = tt
faults_so P Q on OverBudget h = tt

-- and of a source that isn't opened
pub unopened_so : {E : Type 0} (b : List ℕ) (fault : SourceFault E) → IfRefused (λ refusal. (refusal ≡ TooLong) × (4294967295 < length b)) fault → IsUnopenedSource b (lookup_fault fault)
unopened_so b (Refused e) h = h
unopened_so b (Read e) h = tt
unopened_so b (NoRoom n) h = tt
unopened_so b OverBudget h = tt

-- a failed read has its cause
pub failed_so : {E : Type 0} (P : E → Type 0) (end node room left : ℕ) (fault : SourceFault E) → IfRead P fault → IsCaused end node room left fault → IsReadFailure P end left (lookup_fault fault)
failed_so P end node room left (Refused e) read caused same = absurd (cc same)
failed_so P end node room left (Read e) read caused same = inl (e, read)
failed_so P end node room left (NoRoom n) read caused same = absurd (cc same)
failed_so P end node room left OverBudget read caused same = inr caused

found_value : (b : List ℕ) (entry : Option (ℕ × ℕ)) → option_map (value_at b) entry ≡ option_map (λ e. e.1) (option_map (entry_at text_kind text_kind 5 b) entry)
found_value b None = refl
found_value b (Some e) = refl

-- more bytes than positions reach are refused by the search too
unreached : (b key : List ℕ) → 4294967295 < length b → SearchGives b key (Err TooLong)
unreached b key long = record { result = Err TooLong; gives = misplaced (too_long long); goes_on = refl }

module _ (b key : List ℕ) (at : ℕ) (place : at ≡ own_at texts b) where
  is_map : (entries : List Entry) → IsArchive b entries → IsMap text_kind text_kind 5 b at entries
  is_map entries is = subst (λ p. IsMap text_kind text_kind 5 b p entries) (sym place) (is.left, is.means)

  abbrev Gives : Result (Option (ℕ × ℕ)) Refusal → Type 0
  Gives = LookupGives text_kind text_kind 5 b (slice_cmp nat_cmp key) (RefusesWhole text_kind) (RefusesWhole text_kind) at

  abbrev Searched : Type 0
  Searched = MapsAreSearched text_kind text_kind 5 (RefusesWhole text_kind) (RefusesWhole text_kind)

  as_opened : Searched → (entry : Option (ℕ × ℕ)) → Gives (Ok entry) → (entries : List Entry) → IsMap text_kind text_kind 5 b at entries
      → option_map (value_at b) entry ≡ option_map (λ e. e.1) (found_in_archive b key)
  as_opened searched entry gives entries is =
      let s = searched b (slice_cmp nat_cmp key) at entries (Ok entry) is gives in
      let same : entry ≡ s.0 = cc s.1 in
      let there : option_map (entry_at text_kind text_kind 5 b) entry ≡ found_at text_kind text_kind 5 b at (slice_cmp nat_cmp key) = ap (option_map (entry_at text_kind text_kind 5 b)) same ∙ s.2 in
      found_value b entry ∙ subst (λ p. option_map (λ e. e.1) (option_map (entry_at text_kind text_kind 5 b) entry) ≡ option_map (λ e. e.1) (found_at text_kind text_kind 5 b p (slice_cmp nat_cmp key))) place
      (ap (option_map (λ e. e.1)) there)

  pub gives_value : Searched → {Z : Type 0} (value : Option (String Z)) (found : Option (List ℕ)) → option_map string_bytes value ≡ found
      → ((entries : List Entry) → IsMap text_kind text_kind 5 b at entries → KeysIncrease entries → found ≡ lookup (is_at (slice_cmp nat_cmp key)) entries)
      → FindsAt text_kind text_kind 5 b (slice_cmp nat_cmp key) (RefusesWhole text_kind) (RefusesWhole text_kind) at (value_at b) found → GivesValue b key (Ok value)
  gives_value searched value found same sorted finds = record {
    archived = λ entries is. same ∙ (finds.2 ∙ as_opened searched finds.0 finds.1 entries (is_map entries is));
    sorted = λ entries is increase. same ∙ sorted entries (is_map entries is) increase;
    accepts = λ entries is. tt;
    places = (finds.0, subst (λ p. LookupGives text_kind text_kind 5 b (slice_cmp nat_cmp key) (RefusesWhole text_kind) (RefusesWhole text_kind) p (Ok finds.0)) place finds.1, same ∙ finds.2);
    refuses = tt;
  }

  pub gives_fault : {Z E : Type 0} (fault : SourceFault E) → IfRefused (λ e. Gives (Err e)) fault
      → ((entries : List Entry) → IsMap text_kind text_kind 5 b at entries → IfRefused (λ _. ⊥) fault) → GivesValue b key {Z = Z} (Err (lookup_fault fault))
  gives_fault fault refuses accepts = record {
    sorted = λ entries is increase. tt;
    archived = λ entries is. tt;
    accepts = λ entries is. faults_so (λ _. ⊥) (λ _. ⊥) (λ e h. h) fault (accepts entries (is_map entries is));
    places = tt;
    refuses = faults_so (λ e. Gives (Err e)) (λ e. SearchGives b key (Err e))
        (λ e h. subst (λ p. LookupGives text_kind text_kind 5 b (slice_cmp nat_cmp key) (RefusesWhole text_kind) (RefusesWhole text_kind) p (Err e)) place h) fault refuses;
  }

-- a source that isn't opened: bytes that positions don't reach are no archive
pub gives_unopened : (b key : List ℕ) {Z : Type 0} (fault : ProgramFault) → HasFitHeading (first_bytes b) → IsUnopenedSource b fault → GivesValue b key {Z = Z} (Err fault)
gives_unopened b key {Z} (failed.Refused e) fit h = subst (λ r. GivesValue b key {Z = Z} (Err (failed.Refused r))) (sym h.0) (record {
  sorted = λ entries is increase. tt;
  archived = λ entries is. tt;
  accepts = λ entries is. let short = is.means.short in absurd (omega (arith, short, h.1));
  places = tt;
  refuses = unreached b key h.1;
})
gives_unopened b key (failed.Misheaded f) fit h = absurd (h.none fit.0 fit.1)
gives_unopened b key failed.InputFailed fit h = record { sorted = λ entries is increase. tt; archived = λ entries is. tt; accepts = λ entries is. tt; places = tt; refuses = tt }
gives_unopened b key failed.Memory fit h = record { sorted = λ entries is increase. tt; archived = λ entries is. tt; accepts = λ entries is. tt; places = tt; refuses = tt }
gives_unopened b key failed.Usage fit h = absurd h
gives_unopened b key (failed.Line n) fit h = absurd h
gives_unopened b key (failed.NotBuilt f) fit h = absurd h
gives_unopened b key failed.OutputFailed fit h = absurd h

-- another header has its cause
pub unopened_misheaded : (b : List ℕ) (fault : ProgramFault) → IsUnopenedSource b fault → IfMisheaded (IsMisheaded texts_name (first_bytes b)) fault
unopened_misheaded b (failed.Misheaded f) h = h
unopened_misheaded b (failed.Refused e) h = tt
unopened_misheaded b failed.InputFailed h = tt
unopened_misheaded b failed.Memory h = tt
unopened_misheaded b failed.Usage h = tt
unopened_misheaded b (failed.Line n) h = tt
unopened_misheaded b (failed.NotBuilt f) h = tt
unopened_misheaded b failed.OutputFailed h = tt

-- and no look-up has one
never_misheaded : (P : Refusal → Type 0) (Q : HeadingFault → Type 0) (fault : ProgramFault) → IsLookupFault P fault → IfMisheaded Q fault
never_misheaded P Q (failed.Misheaded f) h = absurd h
never_misheaded P Q (failed.Refused e) h = tt
never_misheaded P Q failed.InputFailed h = tt
never_misheaded P Q failed.Memory h = tt
never_misheaded P Q failed.Usage h = tt
never_misheaded P Q (failed.Line n) h = tt
never_misheaded P Q (failed.NotBuilt f) h = tt
never_misheaded P Q failed.OutputFailed h = tt

pub value_headed : (b key : List ℕ) (Q : HeadingFault → Type 0) {Z : Type 0} (result : Result (Option (String Z)) ProgramFault) → GivesValue b key result → IfErr result (IfMisheaded Q)
value_headed b key Q (Ok value) gives = tt
value_headed b key Q (Err fault) gives = never_misheaded (λ refusal. SearchGives b key (Err refusal)) Q fault gives.refuses

value_is : (write : List ℕ → List ℕ) (o : Option Entry) (value : Option (List ℕ)) (text : List ℕ) (status : ℕ) → value ≡ option_map (λ (e : Entry). e.1) o
    → IsValueLine write value text status → FoundValue write o text status
value_is write None None text status same line = line
value_is write None (Some v) text status same line = absurd (cc same)
value_is write (Some e) None text status same line = absurd (cc same)
value_is write (Some e) (Some v) text status same line = let is : v ≡ e.1 = cc same in (line.0 ∙ ap write is, line.1)

module _ (b : List ℕ) (key : String Global) (text : List ℕ) (status : ℕ) where
  pub writes_found : (form : Form) (value : Option (String Global)) → GivesValue b (string_bytes key) (Ok value) → IsValueLine (value_line form) (option_map string_bytes value) text status
      → WritesFound b form key text status
  writes_found form value gives line = record {
    archived = λ entries is. ((entries, is), value_is (value_line form) (found_in_archive b (string_bytes key)) (option_map string_bytes value) text status (gives.archived entries is.1) line);
    places = (gives.places.0, gives.places.1, subst (λ o. IsValueLine (value_line form) o text status) gives.places.2 line);
  }

pub fails_to_search : (b key : List ℕ) (fault : ProgramFault) → GivesValue b key {Z = Global} (Err fault) → FailsToSearch b key fault
fails_to_search b key fault gives = record { accepts = gives.accepts; refuses = gives.refuses }

is_some_mapped : {A B : Type 0} (f : A → B) (o : Option A) → is_some (option_map f o) ≡ is_some o
is_some_mapped f None = refl
is_some_mapped f (Some x) = refl

pub appends_found : (b key old new : List ℕ) (is_found : Bool) (value : Option (String Global)) → GivesValue b key (Ok value) → is_found ≡ is_some (option_map string_bytes value)
    → new ≡ old ++ found_line key (option_map string_bytes value) → AppendsFound b key old new is_found
appends_found b key old new is_found value gives found appended =
    let e = gives.places in (
      e.0,
      e.1,
      found ∙ (ap is_some e.2 ∙ is_some_mapped (value_at b) e.0),
      appended ∙ ap (λ (o : Option (List ℕ)). old ++ found_line key o) e.2,
    )
