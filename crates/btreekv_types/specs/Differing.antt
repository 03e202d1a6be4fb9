-- The changes that lead from one typed map to another, in lines. The values that they put are texts.
use Rattle.std.specs.Prelude.{◌≡◌, ℕ, List, map}
use Rattle.std.specs.BTreeMap.{is_at}
use Rattle.std.specs.List.{AllByRecursion}
use Rattle.std.specs.Map.{lookup}
use Rattle.std.specs.declared.cmp.Ordering.{Ordering}
use Rattle.std.specs.declared.cmp.Ordering.TheVariants.{Equal}
use Rattle.rkyv_btree_format.specs.Increasing.{Increasing}
use Rattle.rkyv_btree_portable.specs.Kind.{Kind}
use Rattle.rkyv_btree_update.specs.Differences.{Counts}
use Rattle.rkyv_btree_update.specs.Updated.{changes_meant, last_word, updated}
use Rattle.rkyv_btree_update.specs.declared.change.Change.{Change}
use Rattle.btreekv_commands.specs.Changing.{changes_text}
use Rattle.btreekv_commands.specs.Lines.{Entry}
use Rattle.btreekv_types.specs.Changes.{with_text}
use Rattle.btreekv_types.specs.Natives.{IsText}
use Rattle.btreekv_types.specs.Typed.{IsTypedInput, Items}

-- the keys of entries of texts are those of values of a type
abbrev pub AreKeyTexts : {A : Type 0} → Items A → List Entry → Type 0
AreKeyTexts keys texts = AllByRecursion (λ e. IsText keys e.0) texts

module _ {A B : Type 0} (order : A → A → Ordering) where
  -- changes whose keys increase, none of which is in vain, lead from one list to another
  pub record LeadsEach (m n : List (A × B)) (changes : List (A × Change B)) : Type 0 where
    pub increase : Increasing order changes
    pub counts : AllByRecursion (Counts order m) changes
    -- after them each key has the value that it has in the other list, or none if it has none there
    pub leads : (k : A) → last_word (lookup (is_at (order k)) changes) (lookup (is_at (order k)) m) ≡ lookup (is_at (order k)) n
    -- and the list after them is the other one, if only the same keys are equal by the order
    pub exactly : ((x y : A) → order x y ≡ Equal → x ≡ y) → updated order m changes ≡ n

module _ (K V : Kind) (name : List ℕ) (keys : Items K.Value) (values : Items V.Value) where
  -- a text is the lines of the changes that lead from an archive's entries to another archive's. The keys of both increase
  pub record IsDiffOf (input other text : List ℕ) : Type 0 where
    pub entries : List (K.Value × V.Value)
    pub others : List (K.Value × V.Value)
    pub changes : List (K.Value × Change (List ℕ))
    pub old : IsTypedInput K V name input entries
    pub old_increase : Increasing K.order entries
    pub new : IsTypedInput K V name other others
    pub new_increase : Increasing K.order others
    pub leads : LeadsEach K.order (map (with_text keys values) entries) (map (with_text keys values) others) changes
    pub lines : text ≡ changes_text (changes_meant keys.text (λ text. text) changes)
