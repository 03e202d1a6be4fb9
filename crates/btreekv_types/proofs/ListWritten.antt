-- Lists that are written entry by entry.
use Rattle.std.proofs.Common.{◌≡◌, ℕ, Bool, true, false, List, [], ◌∷◌, ◌++◌, Option, map, refl, sym, ap, subst, ◌∙◌, append_assoc}
use Rattle.std.proofs.lemmas.List.{append-nil, map_push}
use Rattle.std.proofs.KnownBytes.{Appends-nil, Appends-trans}
use Rattle.std.specs.Io.KnownBytes.{Appends}
use Rattle.btreekv_commands.proofs.JsonTexts.{member_more, object_line, separator}
use Rattle.btreekv_commands.proofs.Listed.{text_more}
use Rattle.btreekv_commands.proofs.TablesWritten.{rows_more}
use Rattle.btreekv_commands.specs.Forms.{text_in}
use Rattle.btreekv_commands.specs.Json.{member}
use Rattle.btreekv_commands.specs.Lines.{Entry}
use Rattle.btreekv_types.specs.Listing.{comma, is_none, list_body, list_end, list_item, list_start, list_text}
use Rattle.btreekv_types.specs.declared.list_form.ListForm.{ListForm}
use Rattle.btreekv_types.specs.declared.list_form.ListForm.TheVariants.{Lines, Object, Table}

before_member : (entries : List Entry) (first : Bool) → first ≡ is_none entries → comma first ≡ separator entries
before_member [] first is = ap comma is
before_member (e ∷ es) first is = ap comma is

module _ {X : Type 0} (means : X → Entry) (items : List X) (x : X) where
  -- one more entry of a list, in each form
  item_more : (form : ListForm) (first : Bool) → first ≡ is_none (map means items)
      → list_body form (map means items) ++ list_item form first (means x) ≡ list_body form (map means (items ++ x ∷ []))
  item_more (Lines form) first is = text_more form means items x [] (text_in form (map means items)) _ (means x).0 (means x).1 refl refl refl refl
  item_more Object first is = member_more means items x (comma first) (comma first ++ member (means x)) (means x).0 (means x).1 (before_member (map means items) first is) refl refl refl
  item_more (Table table) first is = rows_more table means items x (means x).0 (means x).1 refl refl

  pub item_written : (form : ListForm) (first : Bool) (old mid new : Option (List ℕ)) (item : List ℕ) (e : Entry) → Appends old mid (list_body form (map means items)) → first ≡ is_none (map means items)
      → e ≡ means x → item ≡ list_item form first e → Appends mid new item → Appends old new (list_body form (map means (items ++ x ∷ [])))
  item_written form first old mid new item e before is shown made written =
      subst (Appends old new) (ap (λ z. list_body form (map means items) ++ z) (made ∙ ap (list_item form first) shown) ∙ item_more form first is) (Appends-trans old mid new _ item before written)

  pub some_written : false ≡ is_none (map means (items ++ x ∷ []))
  some_written = some_left items where
    some_left : (ys : List X) → false ≡ is_none (map means (ys ++ x ∷ []))
    some_left [] = refl
    some_left (y ∷ ys) = refl

-- no entry is written at first
pub none_written : (form : ListForm) (held : Option (List ℕ)) → Appends held held (list_body form [])
none_written (Lines form) held = Appends-nil held
none_written Object held = Appends-nil held
none_written (Table table) held = Appends-nil held

-- a list is what it begins with, its entries, and what ends it
list_parts : (form : ListForm) (entries : List Entry) → (list_start form ++ list_body form entries) ++ list_end form ≡ list_text form entries
list_parts (Lines form) entries = append-nil (text_in form entries)
list_parts Object entries = object_line entries
list_parts (Table table) entries = append-nil _

pub list_written : (form : ListForm) (entries : List Entry) (a b c d : Option (List ℕ)) (start end : List ℕ) → start ≡ list_start form → Appends a b start → Appends b c (list_body form entries) → end ≡ list_end form → Appends c d end
    → Appends a d (list_text form entries)
list_written form entries a b c d start end starts first all ends last =
    subst (Appends a d) (ap (λ (z : List ℕ). (z ++ list_body form entries) ++ end) starts ∙ (ap (λ (z : List ℕ). (list_start form ++ list_body form entries) ++ z) ends ∙ list_parts form entries))
    (Appends-trans a c d _ end (Appends-trans a b c start _ first all) last)
