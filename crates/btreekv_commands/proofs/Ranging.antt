-- What is written of the entries of a range, entry by entry.
use Rattle.std.proofs.Common.{◌≡◌, ◌∙◌, ℕ, ◌++◌, Bool, true, false, List, [], ◌∷◌, append_assoc, append-nil, filter, inl, inr, refl, sym, ap, subst, not}
use Rattle.std.proofs.lemmas.Bool.{cases_Bool}
use Rattle.std.specs.Borrow.{Bor}
use Rattle.std.specs.Cmp.Lexicographic.{slice_cmp}
use Rattle.std.specs.Global.{Global}
use Rattle.std.specs.List.{last_or}
use Rattle.std.specs.Ordering.{nat_cmp}
use Rattle.std.specs.Prelude.{Option, None, String, string_bytes}
use Rattle.std.specs.declared.ops.Bound.TheVariants.{Included, Unbounded}
use Rattle.rkyv_btree_format.specs.OwnBytes.{own_at}
use Rattle.rkyv_btree_format.specs.Read.{read_map}
use Rattle.rkyv_btree_portable.specs.Text.{text_kind}
use Rattle.rkyv_btree_source.specs.Reading.{IfRead, IsTooSmall}
use Rattle.rkyv_btree_source.specs.SourceRange.{AreBetween}
use Rattle.rkyv_btree_source.specs.declared.fault.SourceFault.{SourceFault}
use Rattle.rkyv_btree_source.specs.declared.fault.SourceFault.TheVariants.{Refused, Read, NoRoom, OverBudget}
use Rattle.rkyv_btree_strict.specs.Prefix.{begins_with}
use Rattle.rkyv_btree_unverified.specs.EntriesFrom.{entries_between, until}
use Rattle.rkyv_btree_view.specs.Map.{IsMap}
use Rattle.rkyv_btree_walk.specs.Bounds.{IsRun, entries_within}
use Rattle.btreekv_commands.proofs.Prefixed.{sought_all, sought_begin}
use Rattle.btreekv_commands.specs.Commands.{FirstEntry, Outputs, WrittenEntry}
use Rattle.btreekv_commands.specs.Forms.{entry_line, text_in}
use Rattle.btreekv_commands.specs.Lines.{Entry}
use Rattle.btreekv_commands.specs.Opening.{IsInput, KeysIncrease, texts}
use Rattle.btreekv_commands.specs.Ranged.{PushesNext, WritesFirst, WritesLast, sought, sought_in, text_compared_at}
use Rattle.btreekv_commands.specs.Sourced.{IsReadFailure, lookup_fault}
use Rattle.btreekv_commands.specs.declared.command.Command.TheVariants.{Prefix, Range}
use Rattle.btreekv_commands.specs.declared.forms.Form.{Form}

-- a failed read has its cause
pub failed_by : {E : Type 0} (P : E → Type 0) (end node room left : ℕ) (fault : SourceFault E) → IfRead P fault → IsTooSmall end node room left fault → IsReadFailure P end left (lookup_fault fault)
failed_by P end node room left (Refused e) read caused same = absurd (cc same)
failed_by P end node room left (Read e) read caused same = inl (e, read)
failed_by P end node room left (NoRoom n) read caused same = absurd (cc same)
failed_by P end node room left OverBudget read caused same = inr caused

module _ (prefix : List ℕ) (form : Form) (old new : List Entry) (before : List ℕ) where
  -- an entry that is written is the first that is sought
  pub pushes_first : (e : Entry) (after : List ℕ) → old ≡ e ∷ new → begins_with prefix e ≡ true → after ≡ before ++ entry_line form e → PushesNext prefix form old new before after true
  pushes_first e after is begins wrote = (e, rw (is, begins) refl, wrote)

  -- or none is
  pub pushes_last : old ≡ [] → PushesNext prefix form old new before before false
  pushes_last none = (rw none refl, refl)

  pub pushes_other : (e : Entry) (rest : List Entry) → old ≡ e ∷ rest → begins_with prefix e ≡ false → PushesNext prefix form old new before before false
  pushes_other e rest is other = (rw (is, other) refl, refl)

-- what is written and what is to come are what was to be written
pub writes_on : (prefix : List ℕ) (form : Form) (old new : List Entry) (before after start : List ℕ) (all : List Entry) → before ++ text_in form (sought prefix old) ≡ start ++ text_in form all
    → PushesNext prefix form old new before after true → after ++ text_in form (sought prefix new) ≡ start ++ text_in form all
writes_on prefix form old new before after start all is h =
    ap (λ t. t ++ text_in form (sought prefix new)) h.2 ∙ (append_assoc before (entry_line form h.0) (text_in form (sought prefix new)) ∙ (ap (λ es. before ++ text_in form es) (sym h.1) ∙ is))

-- at the end all is written
pub writes_all : (prefix : List ℕ) (form : Form) (old new : List Entry) (before after start : List ℕ) (all : List Entry) → before ++ text_in form (sought prefix old) ≡ start ++ text_in form all
    → PushesNext prefix form old new before after false → after ≡ start ++ text_in form all
writes_all prefix form old new before after start all is h = h.1 ∙ (sym (append-nil before) ∙ (ap (λ es. before ++ text_in form es) (sym h.0) ∙ is))

module _ (form : Form) (all rest : List Entry) (before text : List ℕ) (found : Bool) (empty : before ≡ []) where
  -- the first of all entries is written
  pub wrote_first : found ≡ true → PushesNext [] form all rest before text found → FirstEntry form all text 0
  wrote_first is h =
      let first : PushesNext [] form all rest [] text true = rw (empty, is) at h in
      subst (λ es. FirstEntry form es text 0) (sym (sym (sought_all all) ∙ first.1)) (first.2, refl)

  -- or there is none
  pub wrote_none : found ≡ false → PushesNext [] form all rest before text found → FirstEntry form all text 1
  wrote_none is h =
      let none : PushesNext [] form all rest [] text false = rw (empty, is) at h in
      subst (λ es. FirstEntry form es text 1) (sym (sym (sought_all all) ∙ none.0)) (none.1, refl)

-- the entries before the first that passes a test are a run of a list where all of them are
run_front : (test : Entry → Bool) (range all : List Entry) → IsRun range all → IsRun (until test range) all
run_front test range all run =
    let rest = split range in
    (run.0, rest.0 ++ run.1, run.2 ∙ ap (λ xs. run.0 ++ xs) (ap (λ xs. xs ++ run.1) rest.1 ∙ append_assoc (until test range) rest.0 run.1))
  where
    split : (xs : List Entry) → (later : List Entry) × (xs ≡ until test xs ++ later)
    split [] = ([], refl)
    split (x ∷ xs) =
        elim (cases_Bool (test x)) [
          | inl t ↦ rw t (x ∷ xs, refl)
          | inr f ↦ let r = split xs in rw f (r.0, ap (λ ys. x ∷ ys) r.1)
        ]

-- entries from a text on, up to the first that doesn't begin with it
begin_all : (p low begin : List ℕ) (entries : List Entry) → KeysIncrease entries → low ≡ p → begin ≡ p
    → sought begin (entries_within (Included (slice_cmp nat_cmp low)) Unbounded entries) ≡ filter (begins_with p) entries
begin_all p low begin entries increase same alike = rw (same, alike) (sought_begin p entries increase)

module _ (bytes : List ℕ) (at : ℕ) (place : at ≡ own_at texts bytes) (form : Form) (text : List ℕ) (entries : List Entry) (is : IsInput bytes entries) where
  is_map : IsMap text_kind text_kind 5 bytes at entries
  is_map = subst (λ p. IsMap text_kind text_kind 5 bytes p entries) (sym place) (is.1.left, is.1.means)

  -- what is written of the keys from one to another is what the command writes that reads all of the file
  pub range_outputs : (from to : String Global) (low high : Bor (List ℕ)) → low.now ≡ string_bytes from → high.now ≡ string_bytes to
      → AreBetween text_kind text_kind 5 bytes at text_compared_at (Included low) (Included high) (entries_between text_kind text_kind 5 text_compared_at bytes (Included low) (Included high) at)
      → text ≡ text_in form (sought_in bytes at (Included low) (Included high) []) → Outputs (Range from to form) bytes text 0
  range_outputs from to low high same alike h wrote =
      let all = entries_between text_kind text_kind 5 text_compared_at bytes (Included low) (Included high) at in
      let reads = h.reads entries is_map in (
        refl,
        (
          entries,
          all,
          is,
          record {
            run = rw reads at h.run;
            all = rw (← same, ← alike) (rw reads at (h.within (λ n k. slice_cmp nat_cmp n.now k) (λ n b at. refl)));
          },
          wrote ∙ ap (text_in form) (sought_all all),
        ),
      )

  -- and so of the keys that begin with a text
  pub prefix_outputs : (prefix : String Global) (low : Bor (List ℕ)) (begin : List ℕ) → low.now ≡ string_bytes prefix → begin ≡ string_bytes prefix
      → AreBetween text_kind text_kind 5 bytes at text_compared_at (Included low) Unbounded (entries_between text_kind text_kind 5 text_compared_at bytes (Included low) Unbounded at)
      → text ≡ text_in form (sought_in bytes at (Included low) Unbounded begin) → Outputs (Prefix prefix form) bytes text 0
  prefix_outputs prefix low begin same alike h wrote =
      let all = entries_between text_kind text_kind 5 text_compared_at bytes (Included low) Unbounded at in
      let reads = h.reads entries is_map in (
        refl,
        (
          entries,
          sought begin all,
          is,
          record {
            run = run_front (λ e. not (begins_with begin e)) all entries (rw reads at h.run);
            all = λ increase.
                let within = rw reads at (h.sorted (λ n k. slice_cmp nat_cmp n.now k) (λ n b at. refl)) in
                ap (sought begin) (within increase) ∙ begin_all (string_bytes prefix) low.now begin entries increase same alike;
          },
          wrote,
        ),
      )

-- what is written of the last entry is what the command writes that reads all of the file
pub writes_last : (bytes : List ℕ) (at : ℕ) → at ≡ own_at texts bytes → (form : Form) (text : List ℕ) (status : ℕ) (found : Option Entry) → found ≡ last_or None (read_map text_kind text_kind 5 bytes at)
    → ((m : List Entry) → IsMap text_kind text_kind 5 bytes at m → found ≡ last_or None m) → WrittenEntry form found text status → WritesLast bytes form text status
writes_last bytes at place form text status found last on_map wrote = record {
  archived = λ entries is. (entries, is, subst (λ e. WrittenEntry form e text status) (on_map entries (is_map bytes at place form text entries is)) wrote);
  reached = subst (λ e. WrittenEntry form e text status) (last ∙ ap (λ p. last_or None (read_map text_kind text_kind 5 bytes p)) place) wrote;
}

-- what is written of the first entry is what the command writes that reads all of the file
pub writes_first : (bytes : List ℕ) (at : ℕ) → at ≡ own_at texts bytes → (form : Form) (text : List ℕ) (status : ℕ) (all : List Entry)
    → all ≡ read_map text_kind text_kind 5 bytes at → ((m : List Entry) → IsMap text_kind text_kind 5 bytes at m → read_map text_kind text_kind 5 bytes at ≡ m)
    → FirstEntry form all text status → WritesFirst bytes form text status
writes_first bytes at place form text status all whole reads wrote = record {
  archived = λ entries is. (entries, is, subst (λ es. FirstEntry form es text status) (whole ∙ reads entries (is_map bytes at place form text entries is)) wrote);
  reached = subst (λ es. FirstEntry form es text status) (whole ∙ ap (read_map text_kind text_kind 5 bytes) place) wrote;
}
