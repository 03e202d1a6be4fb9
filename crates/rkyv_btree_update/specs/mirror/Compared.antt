-- It follows the code: two lists are walked together, and compared.
use Rattle.std.specs.Ordering.{match_ordering}
use Rattle.std.specs.Prelude.{Bool, cond, List, [], ◌∷◌}
use Rattle.std.specs.declared.cmp.Ordering.{Ordering}
use Rattle.rkyv_btree_update.specs.Updated.{all_put}
use Rattle.rkyv_btree_update.specs.declared.change.Change.{Change}
use Rattle.rkyv_btree_update.specs.declared.change.Change.TheVariants.{Put, Delete}

module _ {A B : Type 0} (order : A → A → Ordering) (same : B → B → Bool) where
  -- after an entry of the first list, whose differences from any other list are `rest`
  abbrev pub against : A × B → (List (A × B) → List (A × Change B)) → List (A × B) → List (A × Change B)
  against e rest [] = (e.0, Delete) ∷ rest []
  against e rest (f ∷ n) =
      match_ordering (order e.0 f.0) ((e.0, Delete) ∷ rest (f ∷ n))
      (cond (same e.1 f.1) (rest n) ((f.0, Put f.1) ∷ rest n))
      ((f.0, Put f.1) ∷ against e rest n)

  abbrev pub compared : List (A × B) → List (A × B) → List (A × Change B)
  compared [] n = all_put n
  compared (e ∷ m) n = against e (compared m) n
