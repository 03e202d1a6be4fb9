-- What is written of the ends of a map in a source, and of a range of its entries.
use Rattle.std.proofs.Common.{◌≡◌, ◌∙◌, ℕ, ◌++◌, Bool, true, false, List, [], ◌∷◌, Option, None, ap, append_assoc, append-nil, map, refl, subst, sym}
use Rattle.std.specs.Global.{Global}
use Rattle.std.specs.List.{last_or}
use Rattle.std.specs.Prelude.{String, string_bytes}
use Rattle.rkyv_btree_format.specs.OwnBytes.{IsArchiveOf, own_at}
use Rattle.rkyv_btree_format.specs.Read.{read_map}
use Rattle.rkyv_btree_portable.specs.Kind.{Kind}
use Rattle.rkyv_btree_portable.specs.declared.refusal.Refusal.{Refusal}
use Rattle.rkyv_btree_source.specs.LastEntry.{LastFails}
use Rattle.rkyv_btree_unverified.specs.Walks.{Fails}
use Rattle.rkyv_btree_verify.specs.Map.{map_kind}
use Rattle.rkyv_btree_view.specs.Map.{IsMap}
use Rattle.btreearc_lines.specs.declared.fault.ProgramFault.{ProgramFault}
use Rattle.btreekv_commands.specs.Commands.{FirstEntry, WrittenEntry}
use Rattle.btreekv_commands.specs.Forms.{entry_line, text_in}
use Rattle.btreekv_commands.specs.Lines.{Entry}
use Rattle.btreekv_commands.specs.Sourced.{IsLookupFault}
use Rattle.btreekv_commands.specs.declared.forms.Form.{Form}
use Rattle.btreekv_types.specs.Commands.{IsBetweenKeys, IsKey}
use Rattle.btreekv_types.specs.Ranged.{PushesNext, WritesPart}
use Rattle.btreekv_types.specs.Typed.{Items, spelled}
use Rattle.btreekv_types.specs.declared.ranged.Part.TheVariants.{First, Last, Between}

module _ (form : Form) where
  -- one entry is written, or none is to come
  pub pushes_one : {Z : Type 0} (spell : Z → Entry) (old new : List Z) (e : Z) (shown : Entry) (before after : List ℕ) → old ≡ e ∷ new → shown ≡ spell e
      → after ≡ before ++ entry_line form shown → PushesNext form (map spell old) (map spell new) before after true
  pushes_one {Z} spell old new e shown before after is same wrote =
      (spell e, ap (λ (es : List Z). map spell es) is, wrote ∙ ap (λ (x : Entry). before ++ entry_line form x) same)

  pub pushes_none : {Z : Type 0} (spell : Z → Entry) (old new : List Z) (before after : List ℕ) → old ≡ [] → after ≡ before → PushesNext form (map spell old) (map spell new) before after false
  pushes_none {Z} spell old new before after none same = (ap (λ (es : List Z). map spell es) none, same)

  module _ (old new all : List Entry) (before after start : List ℕ) (is : before ++ text_in form old ≡ start ++ text_in form all) where
    -- what is written and what is to come are what was to be written
    pub writes_on : (more : Bool) → more ≡ true → PushesNext form old new before after more → after ++ text_in form new ≡ start ++ text_in form all
    writes_on more is_more h =
        let next : PushesNext form old new before after true = rw is_more at h in
        ap (λ (t : List ℕ). t ++ text_in form new) next.2 ∙ (append_assoc before (entry_line form next.0) (text_in form new) ∙ (ap (λ (es : List Entry). before ++ text_in form es) (sym next.1) ∙ is))

    -- at the end all is written
    pub writes_all : (more : Bool) → more ≡ false → PushesNext form old new before after more → after ≡ start ++ text_in form all
    writes_all more is_none h =
        let over : PushesNext form old new before after false = rw is_none at h in
        over.1 ∙ (sym (append-nil before) ∙ (ap (λ (es : List Entry). before ++ text_in form es) (sym over.0) ∙ is))

  module _ (all rest : List Entry) (before text : List ℕ) (found : Bool) (empty : before ≡ []) where
    -- the first of all entries is written
    pub wrote_first : found ≡ true → PushesNext form all rest before text found → FirstEntry form all text 0
    wrote_first is h =
        let first : PushesNext form all rest [] text true = rw (empty, is) at h in
        subst (λ (es : List Entry). FirstEntry form es text 0) (sym first.1) (first.2, refl)

    -- or there is none
    pub wrote_none : found ≡ false → PushesNext form all rest before text found → FirstEntry form all text 1
    wrote_none is h =
        let none : PushesNext form all rest [] text false = rw (empty, is) at h in
        subst (λ (es : List Entry). FirstEntry form es text 1) (sym none.0) (none.1, refl)

module _ (K V : Kind) (name : List ℕ) (keys : Items K.Value) (values : Items V.Value) (KR VR : List ℕ → ℕ → ℕ → ℕ → Refusal → Type 0) (b : List ℕ) (at : ℕ) (place : at ≡ own_at (map_kind K V 5) b) (form : Form) (text : List ℕ) where
  is_map : (entries : List (K.Value × V.Value)) → IsArchiveOf (map_kind K V 5) b entries → IsMap K V 5 b at entries
  is_map entries is = subst (λ p. IsMap K V 5 b p entries) (sym place) (is.left, is.means)

  -- of the first entry
  pub writes_first : (status : ℕ) (all : List (K.Value × V.Value)) → all ≡ read_map K V 5 b at → ((m : List (K.Value × V.Value)) → IsMap K V 5 b at m → read_map K V 5 b at ≡ m)
      → FirstEntry form (spelled keys values all) text status → WritesPart K V name keys values KR VR b First form text status
  writes_first status all whole reads wrote = record {
    archived = λ entries is. (entries, is, subst (λ es. FirstEntry form (spelled keys values es) text status) (whole ∙ reads entries (is_map entries is.1)) wrote);
    ends = subst (λ es. FirstEntry form (spelled keys values es) text status) (whole ∙ ap (read_map K V 5 b) place) wrote;
  }

  -- of the last one, which is shown so
  pub writes_last : (status : ℕ) (shown : Option Entry) → ((es : List (K.Value × V.Value)) → IsMap K V 5 b at es → shown ≡ last_or None (spelled keys values es))
      → shown ≡ last_or None (spelled keys values (read_map K V 5 b at)) → WrittenEntry form shown text status → WritesPart K V name keys values KR VR b Last form text status
  writes_last status shown on_map last wrote = record {
    archived = λ entries is. (entries, is, subst (λ (o : Option Entry). WrittenEntry form o text status) (on_map entries (is_map entries is.1)) wrote);
    ends = subst (λ (o : Option Entry). WrittenEntry form o text status) (last ∙ ap (λ (p : ℕ). last_or None (spelled keys values (read_map K V 5 b p))) place) wrote;
  }

  -- and of those between two keys
  pub writes_between : (low high : String Global) (lo hi : K.Value) → IsKey K V name keys values (string_bytes low) lo → IsKey K V name keys values (string_bytes high) hi
      → (within : List (K.Value × V.Value)) → ((es : List (K.Value × V.Value)) → IsMap K V 5 b at es → IsBetweenKeys K lo hi es within) → text ≡ text_in form (spelled keys values within)
      → WritesPart K V name keys values KR VR b (Between low high) form text 0
  writes_between low high lo hi low_is high_is within between wrote = record {
    archived = λ entries is. (refl, (entries, within, lo, hi, is, low_is, high_is, between entries (is_map entries is.1), wrote));
    ends = tt;
  }

  -- why an entry isn't written
  pub at_own : (fault : ProgramFault) → IsLookupFault (Fails K V 5 b KR VR at) fault → IsLookupFault (Fails K V 5 b KR VR (own_at (map_kind K V 5) b)) fault
  at_own fault h = subst (λ (p : ℕ). IsLookupFault (Fails K V 5 b KR VR p) fault) place h

  pub last_at_own : (fault : ProgramFault) → IsLookupFault (LastFails K V 5 b at KR VR) fault → IsLookupFault (LastFails K V 5 b (own_at (map_kind K V 5) b) KR VR) fault
  last_at_own fault h = subst (λ (p : ℕ). IsLookupFault (LastFails K V 5 b p KR VR) fault) place h
