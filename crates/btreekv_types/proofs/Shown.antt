-- What views of typed maps show.
use Rattle.std.proofs.Common.{◌≡◌, ℕ, List, [], ◌∷◌, Option, Some, None, map, refl, sym, ap, ◌∙◌}
use Rattle.std.proofs.Common.{slice_get}
use Rattle.std.specs.List.{last_or}
use Rattle.std.specs.Option.{option_map}
use Rattle.std.specs.declared.cmp.Ordering.{Ordering}
use Rattle.rkyv_btree_writer.specs.Archiving.{Archival}
use Rattle.btreekv_commands.specs.Commands.{FoundValue}
use Rattle.rkyv_btree_portable.specs.Kind.{Kind}
use Rattle.rkyv_btree_portable.specs.declared.check.Portable
use Rattle.rkyv_btree_view.proofs.Lasts.{last_mapped}
use Rattle.rkyv_btree_view.specs.View.{view_entry}
use Rattle.rkyv_btree_view.specs.declared.view.View.{View}
use Rattle.btreearc_lines.specs.declared.fault.ProgramFault.{ProgramFault}
use Rattle.btreearc_lines.specs.declared.fault.ProgramFault.TheVariants as fault
use Rattle.btreekv_commands.specs.Lines.{Entry}
use Rattle.rkyv_btree_portable.specs.declared.refusal.Refusal.{Refusal}
use Rattle.btreekv_types.specs.Commands.{FailsToRead}
use Rattle.btreekv_types.specs.Typed.{AreValues, IsTypedOpenFault, Items, items_by, spelled_entry, texts_shown}
use Rattle.btreekv_types.specs.declared.fault.TypedFault.TheVariants.{Program}
use Rattle.btreekv_types.proofs.Read.{both}

first_mapped : {A B : Type 0} (f : A → B) (xs : List A) → option_map f (slice_get xs 0) ≡ slice_get (map f xs) 0
first_mapped f [] = refl
first_mapped f (x ∷ xs) = refl

module _ {M N A B : Type 0} {m : Portable.Ghosts M} {n : Portable.Ghosts N} (key_text : A → List ℕ) (key_at : List ℕ → ℕ → A) (key_to : m.kind.Value → A) (value_text : B → List ℕ) (value_at : List ℕ → ℕ → B) (value_to : n.kind.Value → B)
    (key_read : (b : List ℕ) (at : ℕ) → key_at b at ≡ key_to (m.kind.read b at)) (value_read : (b : List ℕ) (at : ℕ) → value_at b at ≡ value_to (n.kind.read b at)) (IsKey : A → Type 0) (IsMapped : B → Type 0) where
  -- the texts of one entry
  pub one_shown : (e : View M m × View N n) → texts_shown key_text key_at value_text value_at e ≡ spelled_entry (items_by IsKey key_text key_to) (items_by IsMapped value_text value_to) (view_entry e)
  one_shown e = both (ap key_text (key_read e.0.buf.now e.0.pos)) (ap value_text (value_read e.1.buf.now e.1.pos))

  -- and of all
  pub all_shown : (es : List (View M m × View N n)) → map (texts_shown key_text key_at value_text value_at) es ≡ map (spelled_entry (items_by IsKey key_text key_to) (items_by IsMapped value_text value_to)) (map view_entry es)
  all_shown [] = refl
  all_shown (e ∷ es) =
      ap (λ (x : Entry). x ∷ map (texts_shown key_text key_at value_text value_at) es) (one_shown e)
      ∙ ap (λ (xs : List Entry). spelled_entry (items_by IsKey key_text key_to) (items_by IsMapped value_text value_to) (view_entry e) ∷ xs) (all_shown es)

  optional_shown : (o : Option (View M m × View N n))
      → option_map (texts_shown key_text key_at value_text value_at) o ≡ option_map (spelled_entry (items_by IsKey key_text key_to) (items_by IsMapped value_text value_to)) (option_map view_entry o)
  optional_shown None = refl
  optional_shown (Some e) = ap Some (one_shown e)

  -- and of the first and the last
  pub first_shown : (o : Option (View M m × View N n)) (es : List (m.kind.Value × n.kind.Value)) → option_map view_entry o ≡ slice_get es 0
      → option_map (texts_shown key_text key_at value_text value_at) o ≡ slice_get (map (spelled_entry (items_by IsKey key_text key_to) (items_by IsMapped value_text value_to)) es) 0
  first_shown o es is =
      let spell : m.kind.Value × n.kind.Value → Entry = spelled_entry (items_by IsKey key_text key_to) (items_by IsMapped value_text value_to) in
      optional_shown o ∙ (ap (option_map spell) is ∙ first_mapped spell es)

  pub last_shown : (o : Option (View M m × View N n)) (es : List (m.kind.Value × n.kind.Value)) → option_map view_entry o ≡ last_or None es
      → option_map (texts_shown key_text key_at value_text value_at) o ≡ last_or None (map (spelled_entry (items_by IsKey key_text key_to) (items_by IsMapped value_text value_to)) es)
  last_shown o es is =
      let spell : m.kind.Value × n.kind.Value → Entry = spelled_entry (items_by IsKey key_text key_to) (items_by IsMapped value_text value_to) in
      optional_shown o ∙ (ap (option_map spell) is ∙ last_mapped spell es)

-- an error of opening is one of a command that reads
module _ (K V : Kind) (name : List ℕ) (keys : Items K.Value) (values : Items V.Value) (Refuses : List ℕ → Refusal → Type 0) (input : List ℕ) where
  pub open_fails : (f : ProgramFault) → IsTypedOpenFault K V name Refuses input f → FailsToRead K V name keys values Refuses input (Program f)
  open_fails fault.Usage h = h
  open_fails (fault.Line n) h = h
  open_fails (fault.Refused e) h = h
  open_fails (fault.Misheaded e) h = h
  open_fails (fault.NotBuilt e) h = h
  open_fails fault.InputFailed h = h
  open_fails fault.OutputFailed h = h
  open_fails fault.Memory h = tt

-- the value that is found
pub value_none : {X : Type 0} (f : X → Entry) (written : List ℕ → List ℕ) (found : Option X) (text : List ℕ) → None ≡ found → text ≡ [] → FoundValue written (option_map f found) text 1
value_none f written None text is none = (none, refl)
value_none f written (Some x) text is none = absurd (cc is)

pub value_some : {X : Type 0} (f : X → Entry) (written : List ℕ → List ℕ) (found : Option X) (x : X) (text : List ℕ) → Some x ≡ found → text ≡ written (f x).1 → FoundValue written (option_map f found) text 0
value_some f written None x text is line = absurd (cc is)
value_some f written (Some y) x text is line = let same : x ≡ y = cc is in (line ∙ ap (λ z. written (f z).1) same, refl)

-- a native key compares to what is stored as what it means
pub compared_so : {X R A : Type 0} {KA : Archival X R} {K : Kind} {key_order : A → A → Ordering} {key_at : List ℕ → ℕ → A} {key_of : X → A} (key_to : K.Value → A) (keys : AreValues KA K key_order key_at key_of key_to) (x : X) (b : List ℕ) (at : ℕ)
    → key_order (key_of x) (key_at b at) ≡ K.order (keys.same.to (KA.meaning x)) (K.read b at)
compared_so {A = A} {KA} {K} {key_order} {key_at} key_to keys x b at =
    ap (λ (a : A). key_order a (key_at b at)) (keys.native x) ∙ (ap (λ (a : A). key_order (key_to (keys.same.to (KA.meaning x))) a) (keys.read b at) ∙ sym (keys.ordered (keys.same.to (KA.meaning x)) (K.read b at)))
