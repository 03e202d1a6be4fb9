-- The list of a map's entries after changes.
use Rattle.std.specs.BTreeMap.{insert_entry, is_at}
use Rattle.std.specs.List.{fold}
use Rattle.std.specs.Map.{remove_entry}
use Rattle.std.specs.Prelude.{List, Option, Some, None, map}
use Rattle.std.specs.declared.cmp.Ordering.{Ordering}
use Rattle.rkyv_btree_update.specs.declared.change.Change.{Change}
use Rattle.rkyv_btree_update.specs.declared.change.Change.TheVariants.{Put, Delete}

module _ {A B : Type 0} (order : A → A → Ordering) where
  -- one change: what `insert` and `remove` of std's map do
  abbrev pub changed : List (A × B) → A × Change B → List (A × B)
  changed m (k, Put v) = insert_entry order m k v
  changed m (k, Delete) = remove_entry (is_at (order k)) m

  -- the changes, in turn
  abbrev pub updated : List (A × B) → List (A × Change B) → List (A × B)
  updated m changes = fold changed m changes

-- the value that a key has: the last word on it is the change's, if there is one
abbrev pub last_word : {B : Type 0} → Option (Change B) → Option B → Option B
last_word None old = old
last_word (Some (Put v)) old = Some v
last_word (Some Delete) old = None

-- changes of what native keys and values mean
abbrev pub change_meant : {U B : Type 0} → (U → B) → Change U → Change B
change_meant value (Put v) = Put (value v)
change_meant value Delete = Delete

abbrev pub key_change : {T U A B : Type 0} → (T → A) → (U → B) → T × Change U → A × Change B
key_change key value c = (key c.0, change_meant value c.1)

abbrev pub changes_meant : {T U A B : Type 0} → (T → A) → (U → B) → List (T × Change U) → List (A × Change B)
changes_meant key value changes = map (key_change key value) changes

-- the entries of a list, each put
abbrev pub all_put : {A B : Type 0} → List (A × B) → List (A × Change B)
all_put m = map (λ e. (e.0, Put e.1)) m
