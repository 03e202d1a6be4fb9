-- Entries whose keys begin with a text, one more at a time.
use Rattle.std.proofs.Common.{◌≡◌, ◌∙◌, ◌++◌, ◌∷◌, ℕ, [], List, Bool, true, false, Option, cond, ap, append_assoc, filter, map, refl, subst, sym}
use Rattle.std.proofs.KnownBytes.{Appends-trans}
use Rattle.std.proofs.lemmas.List.{map_push}
use Rattle.std.specs.Io.KnownBytes.{Appends}
use Rattle.rkyv_btree_strict.specs.Prefix.{begins_with}
use Rattle.btreekv_commands.specs.Forms.{entry_line, text_in}
use Rattle.btreekv_commands.specs.Lines.{Entry}
use Rattle.btreekv_commands.specs.declared.forms.Form.{Form}
use Rattle.btreekv_types.specs.Listing.{prefixed_text}

module _ (form : Form) (test : Entry → Bool) where
  abbrev passed : List Entry → List ℕ
  passed xs = text_in form (filter test xs)

  passed_more : (xs : List Entry) (e : Entry) → passed (xs ++ e ∷ []) ≡ passed xs ++ passed (e ∷ [])
  passed_more [] e = refl
  passed_more (x ∷ xs) e =
      elim (test x) as (λ b. text_in form (cond b (x ∷ filter test (xs ++ e ∷ [])) (filter test (xs ++ e ∷ []))) ≡ text_in form (cond b (x ∷ filter test xs) (filter test xs)) ++ passed (e ∷ [])) [
        | true ↦ ap (λ z. entry_line form x ++ z) (passed_more xs e) ∙ sym (append_assoc (entry_line form x) (passed xs) (passed (e ∷ [])))
        | false ↦ passed_more xs e
      ]

module _ (prefix : List ℕ) (form : Form) {X : Type 0} (means : X → Entry) (items : List X) (x : X) where
  -- one more entry is written if its key begins so
  pub prefixed_written : (old mid new : Option (List ℕ)) (item : List ℕ) (e : Entry) → Appends old mid (prefixed_text prefix form (map means items)) → e ≡ means x
      → item ≡ prefixed_text prefix form (e ∷ []) → Appends mid new item → Appends old new (prefixed_text prefix form (map means (items ++ x ∷ [])))
  prefixed_written old mid new item e before shown made written =
      subst (Appends old new) (ap (λ z. prefixed_text prefix form (map means items) ++ z) (made ∙ ap (λ (d : Entry). prefixed_text prefix form (d ∷ [])) shown)
      ∙ (sym (passed_more form (begins_with prefix) (map means items) (means x)) ∙ ap (prefixed_text prefix form) (sym (map_push means items x)))) (Appends-trans old mid new _ item before written)
