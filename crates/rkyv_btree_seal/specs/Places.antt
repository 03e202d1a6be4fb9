-- Which entry of a map a search finds, and what a write over its value makes of the map.
use Rattle.std.specs.Prelude.{◌≡◌, ◌↔◌, ℕ, List, Option, Some, IfSome, IsSome, IsTrue, MatchOption, Bool, is_some, slice_get}
use Rattle.std.specs.BTreeMap.{is_at}
use Rattle.std.specs.Map.{lookup}
use Rattle.std.specs.Option.{option_map}
use Rattle.std.specs.declared.cmp.Ordering.{Ordering}
use Rattle.std.specs.declared.cmp.Ordering.TheVariants.{Equal}
use Rattle.rkyv_btree_portable.specs.Bytes.{bytes_at}
use Rattle.rkyv_btree_portable.specs.InPlace.{value_of}
use Rattle.rkyv_btree_portable.specs.Kind.{Kind}
use Rattle.rkyv_btree_format.specs.Increasing.{Increasing}
use Rattle.rkyv_btree_format.specs.Layout.{layout_of}
use Rattle.rkyv_btree_format.specs.Read.{entry_at, map_tree, read_map}
use Rattle.rkyv_btree_format.specs.Spells.{Accepted}
use Rattle.rkyv_btree_seal.specs.Put.{put_bytes, put_value, key_place, value_place}
use Rattle.rkyv_btree_view.specs.Lookup.{found_at}
use Rattle.rkyv_btree_walk.specs.EntryPlaces.{entry_places}
use Rattle.rkyv_btree_walk.specs.Search.{IsSearch, probe}

module _ (K V : Kind) (E : ℕ) (b : List ℕ) (at : ℕ) where
  -- it is entry i of the map
  abbrev pub IsNumber : ℕ → ℕ × ℕ → Type 0
  IsNumber i e = slice_get (entry_places K V E b at) i ≡ Some e

  -- it is one of its entries
  abbrev pub IsEntry : ℕ × ℕ → Type 0
  IsEntry e = (i : ℕ) × IsNumber i e

  -- what stands at an entry's places is its key and its value
  abbrev pub ShowsEntry : ℕ × ℕ → Type 0
  ShowsEntry e =
      (i : ℕ) → IsNumber i e
      → slice_get (read_map K V E b at) i ≡ Some (K.read b (key_place K V E e), value_of V (bytes_at b (value_place K V E e) V.size))

  -- a search has found the entry that it asks and finds equal: an entry of the map that is equal, and under an ordered
  -- comparison one if there is one
  pub record FindsPlace (comparison : K.Value → Ordering) (found : Option (ℕ × ℕ)) : Type 0 where
    pub probed : found ≡ probe (λ e. comparison (entry_at K V E b e).0) (map_tree (layout_of K V E) b at)
    pub entry : IfSome found IsEntry
    pub search : IsSearch (λ e. comparison e.0) (entry_at K V E b) (map_tree (layout_of K V E) b at) (option_map (entry_at K V E b) found)

  -- c is the buffer with these own bytes as the value of an entry: no other byte is another, and the map is accepted as
  -- it was, of the list with what they mean there put in, its entries where they were
  pub record PutsEntry (e : ℕ × ℕ) (own : List ℕ) (c : List ℕ) : Type 0 where
    pub entry : IsEntry e
    pub bytes : c ≡ put_bytes b (value_place K V E e) own
    pub list : (i : ℕ) → IsNumber i e → read_map K V E c at ≡ put_value (read_map K V E b at) i (value_of V own)
    pub accepted : (i lo hi left : ℕ) (m : List (K.Value × V.Value)) → IsNumber i e → Accepted K V E b lo hi at left m
        → Accepted K V E c lo hi at left (put_value m i (value_of V own))
    pub tree : map_tree (layout_of K V E) c at ≡ map_tree (layout_of K V E) b at

  -- in the list, the value of one entry with a key that gives Equal is another one
  abbrev pub ReplacesAtEqual : (K.Value → Ordering) → V.Value → List (K.Value × V.Value) → Type 0
  ReplacesAtEqual comparison value new =
      (i : ℕ) × (e : K.Value × V.Value) × (slice_get (read_map K V E b at) i ≡ Some e) × (comparison e.0 ≡ Equal)
      × (new ≡ put_value (read_map K V E b at) i value)

  -- a search for an entry, and such a write over its value, if it is there
  pub record SetsFound (comparison : K.Value → Ordering) (own : List ℕ) (c : List ℕ) (result : Bool) : Type 0 where
    pub found : Option (ℕ × ℕ)
    pub finds : FindsPlace comparison found
    pub has_found : result ≡ is_some found
    pub puts : MatchOption found (c ≡ b) (λ e. PutsEntry e own c)

  -- a call that overwrites the value of an equal key: whether there is one, and what is written then
  pub record IsSet (comparison : K.Value → Ordering) (own : List ℕ) (c : List ℕ) (result : Bool) : Type 0 where
    -- if the keys increase, the result is whether std's map has a value for the key
    pub sorted : Increasing K.order (read_map K V E b at) → result ≡ is_some (lookup (is_at comparison) (read_map K V E b at))
    -- on each map it is whether a lookup finds an entry
    pub found : IsTrue result ↔ IsSome (found_at K V E b at comparison)
    -- then one value in the list is the new one: that of an entry whose key is equal
    pub writes : IsTrue result → ReplacesAtEqual comparison (value_of V own) (read_map K V E c at)
    -- which bytes are written
    pub sets : SetsFound comparison own c result
