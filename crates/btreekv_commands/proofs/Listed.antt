-- The text of entries that an iterator gives, one more at a time.
use Rattle.std.proofs.Common.{◌≡◌, ℕ, List, [], ◌∷◌, ◌++◌, map, refl, sym, ap, ◌∙◌, append_assoc}
use Rattle.std.proofs.lemmas.List.{map_push, append-nil}
use Rattle.btreekv_commands.specs.Forms.{entry_line, text_in}
use Rattle.btreekv_commands.specs.Lines.{Entry}
use Rattle.btreekv_commands.specs.declared.forms.Form.{Form}

text-append : (form : Form) (xs ys : List Entry) → text_in form (xs ++ ys) ≡ text_in form xs ++ text_in form ys
text-append form [] ys = refl
text-append form (x ∷ xs) ys = ap (λ z. entry_line form x ++ z) (text-append form xs ys) ∙ sym (append_assoc (entry_line form x) (text_in form xs) (text_in form ys))

pub text_more : (form : Form) {X : Type 0} (means : X → Entry) (items : List X) (x : X) (old text new key value : List ℕ) → text ≡ old ++ text_in form (map means items) → new ≡ text ++ entry_line form (key, value)
    → key ≡ (means x).0 → value ≡ (means x).1 → new ≡ old ++ text_in form (map means (items ++ x ∷ []))
text_more form means items x old text new key value before is key_is value_is =
    let entry : entry_line form (key, value) ≡ text_in form (means x ∷ []) = ap (λ k. entry_line form (k, value)) key_is ∙ (ap (λ v. entry_line form ((means x).0, v)) value_is ∙ sym (append-nil (entry_line form (means x)))) in
    is ∙ (ap (λ z. z ++ entry_line form (key, value)) before
    ∙ (append_assoc old (text_in form (map means items)) (entry_line form (key, value))
    ∙ ap (λ z. old ++ z) (ap (λ z. text_in form (map means items) ++ z) entry ∙ (sym (text-append form (map means items) (means x ∷ [])) ∙ ap (text_in form) (sym (map_push means items x))))))

pub from_nothing : (old text more : List ℕ) → old ≡ [] → text ≡ old ++ more → text ≡ more
from_nothing old text more none is = is ∙ ap (λ z. z ++ more) none
