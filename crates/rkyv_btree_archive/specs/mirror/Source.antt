-- The items of an iterator, up to one whose key doesn't pass. The key of the last item is beside the source.
use Rattle.std.specs.Prelude.{◌≡◌, ◌⊎◌, List, [], ◌∷◌, Option, None, Some}
use Rattle.rkyv_btree_archive.specs.declared.items.Source.{Source}

module _ {A B : Type 0} where
  abbrev pub key_of : Option (A × B) → Option A
  key_of None = None
  key_of (Some x) = Some x.0

  -- the key of the last of these items, or else the one before them
  abbrev pub key_before : Option A → List (A × B) → Option A
  key_before before [] = before
  key_before before (x ∷ xs) = key_before (Some x.0) xs

  -- the key of the last item that was taken: a leaf's, or where it has none the last one that waits
  abbrev pub last_taken : List (A × B) → List (A × B) → Option A
  last_taken waiting leaf = key_before (key_before None waiting) leaf

-- an item is given where its key passes, and none where the iterator gives none or an item whose key doesn't
module _ {A B P L : Type 0} (steps : P → Option (A × B) → P → Type 0) (passes stops : L → Option A → A → L → Type 0) where
  abbrev pub Gives : Source P L × Option A → Option (A × B) → Source P L × Option A → Type 0
  Gives s None t =
      (steps s.0.items None t.0.items × (t.0.look ≡ s.0.look))
      ⊎ ((x : A × B) × steps s.0.items (Some x) t.0.items × stops s.0.look s.1 x.0 t.0.look)
  Gives s (Some x) t = steps s.0.items (Some x) t.0.items × passes s.0.look s.1 x.0 t.0.look × (t.1 ≡ Some x.0)
