-- What C is given of the entries of a map: of a lookup, and of a batch.
use Rattle.std.specs.Prelude.{◌≡◌, ℕ, ◌≤◌, ◌<◌, List, [], ◌∷◌, ◌++◌, length, take, Option, Some, None}
use Rattle.std.specs.Cmp.Lexicographic.{slice_cmp}
use Rattle.std.specs.Int.{w64, cast_signed}
use Rattle.std.specs.Ordering.{nat_cmp, int_cmp}
use Rattle.std.specs.declared.cmp.Ordering.{Ordering}
use Rattle.std.specs.declared.cmp.Ordering.TheVariants.{Less}
use Rattle.std.specs.declared.ops.Bound.TheVariants.{Included, Unbounded}
use Rattle.rkyv_btree_walk.specs.Bounds.{IsRun, IsWithin}
use Rattle.rkyv_btree_view.specs.Lookup.{found_at}
use Rattle.rkyv_btree_ffi.specs.Items.{kind_at, IsItem}
use Rattle.rkyv_btree_ffi.specs.MapTypes.{key_kind, value_kind, entries_at}
use Rattle.rkyv_btree_ffi.specs.Queries.{number_comparison, signed_comparison, text_comparison}
use Rattle.rkyv_btree_ffi.specs.declared.item.BtreeItem.{BtreeItem}
use Rattle.rkyv_btree_ffi.specs.declared.item.BtreeEntry.{BtreeEntry}
use Rattle.rkyv_btree_ffi.specs.declared.query.Query.{Query}
use Rattle.rkyv_btree_ffi.specs.declared.map_type.MapType.{MapType}
use Rattle.rkyv_btree_ffi.specs.declared.map_type.ItemType.{ItemType}
use Rattle.rkyv_btree_ffi.specs.declared.map_type.ItemType.TheVariants.{U32, U64, I64, Text, Bytes, Empty}

-- what comparing a query with a key of a type gives. No map has keys of the empty type
abbrev pub comparison_at : (i : ItemType) → Query → (kind_at i).Value → Ordering
comparison_at U32 = number_comparison
comparison_at U64 = number_comparison
comparison_at I64 = signed_comparison
comparison_at Text = text_comparison
comparison_at Bytes = text_comparison
comparison_at Empty = λ query key. Less

-- what comparing a number with a key gives; it is before every text and all bytes. Among keys with a sign it is in two's complement
abbrev pub by_number_at : (i : ItemType) → ℕ → (kind_at i).Value → Ordering
by_number_at U32 n = nat_cmp n
by_number_at U64 n = nat_cmp n
by_number_at I64 n = int_cmp (cast_signed w64 n)
by_number_at Text n = λ key. Less
by_number_at Bytes n = λ key. Less
by_number_at Empty n = λ key. Less

-- what comparing a text or bytes with a key gives; they are before every number
abbrev pub by_text_at : (i : ItemType) → List ℕ → (kind_at i).Value → Ordering
by_text_at U32 text = λ key. Less
by_text_at U64 text = λ key. Less
by_text_at I64 text = λ key. Less
by_text_at Text text = slice_cmp nat_cmp text
by_text_at Bytes text = slice_cmp nat_cmp text
by_text_at Empty text = λ key. Less

-- the same of the keys of a map
abbrev pub comparison_with : (t : MapType) → Query → (key_kind t).Value → Ordering
comparison_with t = comparison_at t.key

abbrev pub by_number : (t : MapType) → ℕ → (key_kind t).Value → Ordering
by_number t = by_number_at t.key

abbrev pub by_text : (t : MapType) → List ℕ → (key_kind t).Value → Ordering
by_text t = by_text_at t.key

module _ (b : List ℕ) where
  -- an item is this key
  abbrev pub IsKey : (t : MapType) → (key_kind t).Value → BtreeItem → Type 0
  IsKey t key item = IsItem t.key b key item

  -- an item is this value
  abbrev pub IsValue : (t : MapType) → (value_kind t).Value → BtreeItem → Type 0
  IsValue t value item = IsItem t.value b value item

module _ (t : MapType) (b : List ℕ) where
  -- C has this entry
  pub record IsEntry (e : (key_kind t).Value × (value_kind t).Value) (entry : BtreeEntry) : Type 0 where
    pub key : IsKey b t e.0 entry.key
    pub value : IsValue b t e.1 entry.value

  -- one after the other
  abbrev pub AreEntries : List ((key_kind t).Value × (value_kind t).Value) → List BtreeEntry → Type 0
  AreEntries [] [] = Unit {0}
  AreEntries [] (entry ∷ entries) = ⊥
  AreEntries (e ∷ es) [] = ⊥
  AreEntries (e ∷ es) (entry ∷ entries) = IsEntry e entry × AreEntries es entries

  -- the entry that a lookup in the map at a position finds, if it finds one
  abbrev pub IsEither : Option ((key_kind t).Value × (value_kind t).Value) → Option BtreeEntry → Type 0
  IsEither None None = Unit {0}
  IsEither None (Some entry) = ⊥
  IsEither (Some e) None = ⊥
  IsEither (Some e) (Some entry) = IsEntry e entry

  abbrev pub FindsEntry : ℕ → ((key_kind t).Value → Ordering) → Option BtreeEntry → Type 0
  FindsEntry at comparison found = IsEither (found_at (key_kind t) (value_kind t) 5 b at comparison) found

  -- C has the entry that was found, or the code that there is none
  abbrev pub Gives : Option ((key_kind t).Value × (value_kind t).Value) → ℕ → BtreeEntry → Type 0
  Gives None code entry = code ≡ 18
  Gives (Some e) code entry = (code ≡ 0) × IsEntry e entry

  -- of the map at a position, that is the entry that a lookup finds
  abbrev pub LooksUp : ℕ → ((key_kind t).Value → Ordering) → ℕ → BtreeEntry → Type 0
  LooksUp at comparison code entry = Gives (found_at (key_kind t) (value_kind t) 5 b at comparison) code entry

  -- the first entries of a list were written, and the others are left: none if there was more room
  pub record IsBatch (old new : List ((key_kind t).Value × (value_kind t).Value)) (out : List BtreeEntry) (written : ℕ) : Type 0 where
    pub taken : List ((key_kind t).Value × (value_kind t).Value)
    pub parts : old ≡ taken ++ new
    pub entries : AreEntries taken (take written out)
    pub room : written ≤ length out
    pub last : written < length out → new ≡ []

  -- these entries of the map at a position are left from a query on: contiguous ones; if the keys are sorted for it, all from it on
  pub record IsFrom (at : ℕ) (comparison : (key_kind t).Value → Ordering) (left : List ((key_kind t).Value × (value_kind t).Value)) : Type 0 where
    pub run : IsRun left (entries_at t b at)
    pub within : IsWithin (Included comparison) Unbounded (entries_at t b at) left
