-- What exports write of entries.
use Rattle.std.specs.Prelude.{◌≡◌, ℕ, List, [], ◌∷◌, Option, Some, None}
use Rattle.std.specs.declared.cmp.Ordering.{Ordering}
use Rattle.rkyv_btree_portable.specs.Kind.{Kind}
use Rattle.rkyv_btree_format.specs.Layout.{layout_of}
use Rattle.rkyv_btree_format.specs.Read.{entry_at, map_tree}
use Rattle.rkyv_btree_seal.specs.Put.{key_place, value_place}
use Rattle.rkyv_btree_walk.specs.Search.{probe}
use Rattle.rkyv_btree_ffi.specs.declared.item.BtreeItem.{BtreeItem}
use Rattle.rkyv_btree_ffi.specs.declared.item.BtreeEntry.{BtreeEntry}

module _ (K V : Kind) (ShowsKey ShowsValue : List ℕ → ℕ → BtreeItem → Type 0) (b : List ℕ) where
  -- an entry shows the key and the value at a place
  pub record IsShown (place : ℕ × ℕ) (entry : BtreeEntry) : Type 0 where
    pub key : ShowsKey b (key_place K V 5 place) entry.key
    pub value : ShowsValue b (value_place K V 5 place) entry.value

  -- entries show the first places of a list, and these are left of it
  abbrev pub AreShown : List (ℕ × ℕ) → List BtreeEntry → List (ℕ × ℕ) → Type 0
  AreShown places [] later = places ≡ later
  AreShown [] (e ∷ es) later = ⊥
  AreShown (p ∷ ps) (e ∷ es) later = IsShown p e × AreShown ps es later

  -- an entry shows the place that a search of the map at a position finds, if it finds one
  abbrev pub IsEither : Option (ℕ × ℕ) → Option BtreeEntry → Type 0
  IsEither None None = Unit {0}
  IsEither None (Some e) = ⊥
  IsEither (Some p) None = ⊥
  IsEither (Some p) (Some e) = IsShown p e

  abbrev pub IsFoundAt : ℕ → (K.Value → Ordering) → Option BtreeEntry → Type 0
  IsFoundAt at comparison found = IsEither (probe (λ e. comparison (entry_at K V 5 b e).0) (map_tree (layout_of K V 5) b at)) found
