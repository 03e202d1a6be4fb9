-- A std map of texts into which entries are inserted in turn.
use Rattle.std.proofs.Common.{◌≡◌, List, [], ◌∷◌, ◌++◌, map, refl, sym, ap, ◌∙◌, string_bytes}
use Rattle.std.proofs.lemmas.List.{map_push}
use Rattle.std.specs.BTreeMap.{insert_entry}
use Rattle.std.specs.Cmp.Lexicographic.{slice_cmp}
use Rattle.std.specs.List.{fold}
use Rattle.std.specs.Ordering.{match_ordering, nat_cmp}
use Rattle.std.specs.Prelude.{String}
use Rattle.std.specs.String.{string_cmp}
use Rattle.std.specs.declared.alloc.Global.{Global}
use Rattle.std.specs.declared.cmp.Ordering.{Ordering}
use Rattle.std.specs.declared.cmp.Ordering.TheVariants.{Less, Equal, Greater}
use Rattle.btreekv_commands.specs.Building.{Native, last_values}
use Rattle.btreekv_commands.specs.Lines.{Entry}
use Rattle.btreekv_commands.specs.Texts.{texts_of}

module _ (k v : String Global) where
  chosen : (o : Ordering) (xs ys : List Native) (e : Native) (zs : List Native) (others : List Entry) → map texts_of zs ≡ others → map texts_of (match_ordering o xs ys (e ∷ zs)) ≡ match_ordering o (map texts_of xs) (map texts_of ys) (texts_of e ∷ others)
  chosen Less xs ys e zs others same = refl
  chosen Equal xs ys e zs others same = refl
  chosen Greater xs ys e zs others same = ap (λ (es : List Entry). texts_of e ∷ es) same

  inserted : (m : List Native) → map texts_of (insert_entry string_cmp m k v) ≡ insert_entry (slice_cmp nat_cmp) (map texts_of m) (string_bytes k) (string_bytes v)
  inserted [] = refl
  inserted (e ∷ m) = chosen (string_cmp k e.0) ((k, v) ∷ e ∷ m) ((e.0, v) ∷ m) e (insert_entry string_cmp m k v) _ (inserted m)

fold_push : {A M : Type 0} (step : M → A → M) (z : M) (xs : List A) (x : A) → fold step z (xs ++ x ∷ []) ≡ step (fold step z xs) x
fold_push step z [] x = refl
fold_push step z (y ∷ ys) x = fold_push step (step z y) ys x

-- one more entry
pub one_inserted : (taken m new : List Native) (e : Native) → map texts_of m ≡ last_values (map texts_of taken) → new ≡ insert_entry string_cmp m e.0 e.1 → map texts_of new ≡ last_values (map texts_of (taken ++ e ∷ []))
one_inserted taken m new e before is =
    ap (map texts_of) is ∙ (inserted e.0 e.1 m
    ∙ (ap (λ (es : List Entry). insert_entry (slice_cmp nat_cmp) es (string_bytes e.0) (string_bytes e.1)) before
    ∙ (sym (fold_push (λ es x. insert_entry (slice_cmp nat_cmp) es x.0 x.1) [] (map texts_of taken) (texts_of e))
    ∙ ap last_values (sym (map_push texts_of taken e)))))
