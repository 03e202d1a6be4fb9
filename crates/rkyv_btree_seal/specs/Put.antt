-- What a write over one value of a map makes of it. An entry is given by its node and its number there, as the map's tree
-- is read.
use Rattle.std.specs.Prelude.{◌≡◌, ℕ, zero, suc, ◌+◌, ◌≤◌, List, [], ◌∷◌, length, Some, slice_get}
use Rattle.std.specs.List.{splice}
use Rattle.rkyv_btree_portable.specs.Bytes.{bytes_at}
use Rattle.rkyv_btree_portable.specs.InPlace.{IsOwn, value_of}
use Rattle.rkyv_btree_portable.specs.Kind.{Kind}
use Rattle.rkyv_btree_format.specs.Layout.{layout_of, key_at, value_at}
use Rattle.rkyv_btree_format.specs.Read.{map_tree}
use Rattle.rkyv_btree_format.specs.Spells.{Accepted}
use Rattle.rkyv_btree_walk.specs.EntryPlaces.{entry_places}

-- the buffer with these bytes in place of its own from a position on
abbrev pub put_bytes : List ℕ → ℕ → List ℕ → List ℕ
put_bytes b at bytes = splice b at (at + length bytes) bytes

-- the list with this value in place of that of entry i
abbrev pub put_value : {A B : Type 0} → List (A × B) → ℕ → B → List (A × B)
put_value [] i v = []
put_value (e ∷ m) zero v = (e.0, v) ∷ m
put_value (e ∷ m) (suc i) v = e ∷ put_value m i v

module _ (K V : Kind) (E : ℕ) where
  -- where the key and the value of an entry stand
  abbrev pub key_place : ℕ × ℕ → ℕ
  key_place e = e.0 + key_at (layout_of K V E) e.1

  abbrev pub value_place : ℕ × ℕ → ℕ
  value_place e = e.0 + value_at (layout_of K V E) e.1

  module _ (b : List ℕ) (lo hi at left : ℕ) (m : List (K.Value × V.Value)) (i : ℕ) (e : ℕ × ℕ) where
    -- own bytes, written over the value of entry i, put what they mean there into the list; the map leaves of its window
    -- what it left, and all entries stay where they are
    pub record IsPut (own : List ℕ) : Type 0 where
      pub accepted : Accepted K V E (put_bytes b (value_place e) own) lo hi at left (put_value m i (value_of V own))
      pub tree : map_tree (layout_of K V E) (put_bytes b (value_place e) own) at ≡ map_tree (layout_of K V E) b at

    -- the value of entry i lies at its place before the map, where its own bytes mean it and others may be written
    pub record WritesEntry : Type 0 where
      pub before : value_place e + V.size ≤ at
      pub within : value_place e + V.size ≤ length b
      pub is_own : IsOwn V (bytes_at b (value_place e) V.size)
      pub means : slice_get m i ≡ Some (K.read b (key_place e), value_of V (bytes_at b (value_place e) V.size))
      pub writes : (own : List ℕ) → IsOwn V own → IsPut own

-- so of each entry of each map
abbrev pub WritesValues : Kind → Kind → ℕ → Type 0
WritesValues K V E =
    (b : List ℕ) (lo hi at left : ℕ) (m : List (K.Value × V.Value)) → Accepted K V E b lo hi at left m
    → (i : ℕ) (e : ℕ × ℕ) → slice_get (entry_places K V E b at) i ≡ Some e → WritesEntry K V E b lo hi at left m i e
