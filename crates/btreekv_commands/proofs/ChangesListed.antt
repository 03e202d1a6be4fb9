-- The lines of changes that an iterator gives, one more at a time.
use Rattle.std.proofs.Common.{◌≡◌, ℕ, List, [], ◌∷◌, ◌++◌, map, refl, sym, ap, ◌∙◌, append_assoc}
use Rattle.std.proofs.lemmas.List.{map_push, append-nil}
use Rattle.btreekv_commands.specs.Changing.{TextChange, change_line, changes_text}

text-append : (xs ys : List TextChange) → changes_text (xs ++ ys) ≡ changes_text xs ++ changes_text ys
text-append [] ys = refl
text-append (x ∷ xs) ys = ap (λ z. change_line x ++ z) (text-append xs ys) ∙ sym (append_assoc (change_line x) (changes_text xs) (changes_text ys))

pub text_more : {X : Type 0} (means : X → TextChange) (items : List X) (x : X) (old text new : List ℕ) → text ≡ old ++ changes_text (map means items)
    → new ≡ text ++ change_line (means x) → new ≡ old ++ changes_text (map means (items ++ x ∷ []))
text_more means items x old text new before is =
    is ∙ (ap (λ z. z ++ change_line (means x)) before
    ∙ (append_assoc old (changes_text (map means items)) (change_line (means x))
    ∙ ap (λ z. old ++ z) (ap (λ z. changes_text (map means items) ++ z) (sym (append-nil (change_line (means x)))) ∙
    (sym (text-append (map means items) (means x ∷ [])) ∙ ap changes_text (sym (map_push means items x))))))
