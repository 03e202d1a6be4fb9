-- The headline's phrases.
use Rattle.std.specs.Prelude.{◌≡◌, ℕ, ◌⊎◌, ◌↔◌, Bool, true, false, List, length, map, slice_get, Option, Some, IsSome, IfSome}
use Rattle.std.specs.Borrow.{Bor}
use Rattle.std.specs.Iterator.{Drains}
use Rattle.std.specs.declared.cmp.Ordering.{Ordering}
use Rattle.std.specs.declared.cmp.Ordering.TheVariants.{Equal}
use Rattle.rkyv_btree_base.specs.Archiving.{Archival, Matches}
use Rattle.rkyv_btree_base.specs.Entries.{now_of, now_of_key}
use Rattle.rkyv_btree_base.specs.InPlace.{value_of}
use Rattle.rkyv_btree_base.specs.Kind.{Kind}
use Rattle.rkyv_btree_base.specs.Scalars.{unit_kind}
use Rattle.rkyv_btree_base.specs.Serialising.{RootFault}
use Rattle.rkyv_btree_base.specs.Sets.{unit_archival, unit_entries}
use Rattle.rkyv_btree_base.specs.SmallestMaps.{IsSmallestMap, entry_value, map_at}
use Rattle.rkyv_btree_base.specs.Spells.{Accepted}
use Rattle.rkyv_btree_base.specs.Writing.{Writing}
use Rattle.rkyv_btree_base.specs.Fault.{Fault}
use Rattle.rkyv_btree.specs.Map.{IsMap}
use Rattle.rkyv_btree.specs.Put.{put_bytes, put_value}
use Rattle.rkyv_btree.specs.Search.{OrderedBy, AnyHit, IsHit}

module _ {M N R S : Type 0} (K V : Kind) (E : ℕ) (KA : Archival M R) (VA : Archival N S) where
  -- the bytes at a position are accepted as the map of what these entries mean, and no accepted map with as many entries has
  -- fewer nodes, inner nodes, levels or node bytes
  abbrev pub IsSmallestOf : List (M × N) → List ℕ → ℕ → Type 0
  IsSmallestOf entries bytes pos =
      (key : Matches KA.kind K) (value : Matches VA.kind V) → (left : ℕ)
      × (a : Accepted K V E bytes 0 pos pos left (map (entry_value K V E KA VA key value) entries)) × IsSmallestMap (map_at a)

  -- an iterator gave as many items as claimed and then no more, and this is their archive
  pub record IsArchiveOfItems {P : Type 0} (steps : P → Option (Bor M × Bor N) → P → Type 0) (iter : P) (claim : ℕ) (bytes : List ℕ) (pos : ℕ) : Type 0 where
    pub items : List (Bor M × Bor N)
    pub all : Drains steps iter items
    pub count : length items ≡ claim
    pub smallest : IsSmallestOf (map now_of items) bytes pos

-- a fault stopped the building of the tree, or the writing of the map after one that was built
abbrev pub HasCause : {X : Type 0} → (Fault X → Writing → Type 0) → (ℕ → Writing → Type 0) → ℕ → Fault X → Type 0
HasCause stops builds len fault = (t : Writing) × (stops fault t ⊎ ((root : ℕ) × (mid : Writing) × builds root mid × RootFault root len mid fault t))

-- an iterator gave as many keys as claimed and then no more, and this is the archive of the set of them
pub record IsArchiveOfKeys {M R P : Type 0} (K : Kind) (E : ℕ) (KA : Archival M R) (steps : P → Option (Bor M) → P → Type 0)
    (iter : P) (claim : ℕ) (bytes : List ℕ) (pos : ℕ) : Type 0 where
  pub keys : List (Bor M)
  pub all : Drains steps iter keys
  pub count : length keys ≡ claim
  pub smallest : IsSmallestOf K unit_kind E KA unit_archival (unit_entries now_of_key keys) bytes pos

-- no list is what the bytes mean
abbrev pub IsNoMap : Kind → Kind → ℕ → List ℕ → ℕ → Type 0
IsNoMap K V E b pos = (m : List (K.Value × V.Value)) → IsMap K V E b pos m → ⊥

-- What a lookup finds in a list, of entries or of keys, is one that gives Equal; and where the list is ordered for the
-- query, one is found exactly if there is one.
pub record IsLookedUp {X : Type 0} (comparison : X → Ordering) (m : List X) (found : Option X) : Type 0 where
  pub hit : IfSome found (IsHit comparison m)
  pub complete : OrderedBy comparison m → (IsSome found ↔ AnyHit comparison m)

-- If a key was found, these own bytes stand for the value of an entry whose key gives Equal: no other byte is another, and
-- the map has the list with what they mean there. Else no byte is another, and where the keys are ordered for the query
-- none gives Equal.
abbrev pub IsSealed : (K V : Kind) → ℕ → List ℕ → ℕ → (K.Value → Ordering) → List ℕ → List (K.Value × V.Value) → List ℕ → Bool → Type 0
IsSealed K V E b pos comparison own m c true =
    (i : ℕ) × (at : ℕ) × (e : K.Value × V.Value) × (slice_get m i ≡ Some e) × (comparison e.0 ≡ Equal) × (c ≡ put_bytes b at own)
    × IsMap K V E c pos (put_value m i (value_of V own))
IsSealed K V E b pos comparison own m c false = (c ≡ b) × (OrderedBy (λ e. comparison e.0) m → AnyHit (λ e. comparison e.0) m → ⊥)
