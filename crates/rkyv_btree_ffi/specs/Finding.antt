-- What a lookup in bytes that nobody has validated gives C.
use Rattle.std.specs.Prelude.{◌≡◌, ℕ, IsTrue, IfSome, List, Option, Some, None, Result, Ok, Err}
use Rattle.std.specs.Option.{option_map}
use Rattle.std.specs.declared.cmp.Ordering.{Ordering}
use Rattle.std.specs.declared.cmp.Ordering.TheVariants.{Equal}
use Rattle.rkyv_btree_portable.specs.Kind.{Kind}
use Rattle.rkyv_btree_format.specs.Read.{entry_at}
use Rattle.rkyv_btree_portable.specs.declared.refusal.Refusal.{Refusal}
use Rattle.rkyv_btree_portable.specs.Refusing.{RefusesWhole}
use Rattle.rkyv_btree_portable.specs.Views.{stands}
use Rattle.rkyv_btree_format.specs.OwnBytes.{own_at}
use Rattle.rkyv_btree_view.specs.Lookup.{found_at}
use Rattle.rkyv_btree_view.specs.Map.{IsMap}
use Rattle.rkyv_btree_portable.specs.declared.check.Portable
use Rattle.rkyv_btree_unverified.specs.Lookups.{LookupGives}
use Rattle.rkyv_btree_unverified.specs.Steps.{value_place, Gives as KeyGives}
use Rattle.rkyv_btree_view.specs.declared.view.View.{View}
use Rattle.rkyv_btree_ffi.specs.Batches.{IsEither}
use Rattle.rkyv_btree_ffi.specs.Codes.{refusal_for}
use Rattle.rkyv_btree_ffi.specs.Entries.{IsKey, IsValue, IsEntry}
use Rattle.rkyv_btree_ffi.specs.MapTypes.{key_kind, value_kind, kind_of}
use Rattle.rkyv_btree_ffi.specs.declared.codes.BtreeRefusal.{BtreeRefusal}
use Rattle.rkyv_btree_ffi.specs.declared.item.BtreeItem.{BtreeItem}
use Rattle.rkyv_btree_ffi.specs.declared.item.BtreeEntry.{BtreeEntry}
use Rattle.rkyv_btree_ffi.specs.declared.map_type.MapType.{MapType}

-- an entry shows what two views read, if there are two
abbrev pub ShowsViews : {K V : Type 0} {k : Portable.Ghosts K} {v : Portable.Ghosts V} → (ShowsKey ShowsValue : List ℕ → ℕ → BtreeItem → Type 0)
    → Option (View K k × View V v) → Option BtreeEntry → Type 0
ShowsViews ShowsKey ShowsValue None None = Unit {0}
ShowsViews ShowsKey ShowsValue None (Some entry) = ⊥
ShowsViews ShowsKey ShowsValue (Some e) None = ⊥
ShowsViews ShowsKey ShowsValue (Some e) (Some entry) = ShowsKey e.0.buf.now e.0.pos entry.key × ShowsValue e.1.buf.now e.1.pos entry.value

module _ (K V : Kind) (ShowsKey ShowsValue : List ℕ → ℕ → BtreeItem → Type 0) (KRefuses VRefuses : List ℕ → ℕ → ℕ → ℕ → Refusal → Type 0)
    (b : List ℕ) (at : ℕ) (comparison : K.Value → Ordering) where
  -- a lookup in the map at a position ends at a valid entry with an equal key, which this one shows; or at none, and there is none. On a
  -- map that is what a lookup in a view finds
  pub record IsLookedUp (found : Option BtreeEntry) : Type 0 where
    pub place : Option (ℕ × ℕ)
    pub gives : LookupGives K V 5 b comparison KRefuses VRefuses at (Ok place)
    pub valid : IfSome place (λ e. KeyGives K V 5 b comparison Equal e × IsTrue (stands V b (value_place K V 5 e)))
    pub shown : IsEither K V ShowsKey ShowsValue b place found
    pub on_map : (m : List (K.Value × V.Value)) → IsMap K V 5 b at m → option_map (entry_at K V 5 b) place ≡ found_at K V 5 b at comparison

  -- the lookup's result; on a map it is no error
  abbrev pub ShowsLookup : Result (Option BtreeEntry) Refusal → Type 0
  ShowsLookup (Ok found) = IsLookedUp found
  ShowsLookup (Err e) = LookupGives K V 5 b comparison KRefuses VRefuses at (Err e) × ((m : List (K.Value × V.Value)) → IsMap K V 5 b at m → ⊥)

module _ (t : MapType) (b : List ℕ) (comparison : (key_kind t).Value → Ordering) where
  -- what a lookup of the library returns for the last eight bytes as a map: the node and the number of an entry, none, or an error
  abbrev pub LookupReturns : Result (Option (ℕ × ℕ)) Refusal → Type 0
  LookupReturns = LookupGives (key_kind t) (value_kind t) 5 b comparison (RefusesWhole (key_kind t)) (RefusesWhole (value_kind t)) (own_at (kind_of t) b)

  -- C has the entry at which such a lookup ends: its key is valid and equal, and its value is valid
  pub record IsFoundEntry (entry : BtreeEntry) : Type 0 where
    pub place : ℕ × ℕ
    pub returned : LookupReturns (Ok (Some place))
    pub key : KeyGives (key_kind t) (value_kind t) 5 b comparison Equal place
    pub value : IsTrue (stands (value_kind t) b (value_place (key_kind t) (value_kind t) 5 place))
    pub shown : IsEntry t b (entry_at (key_kind t) (value_kind t) 5 b place) entry

  -- C has the error of such a lookup: its code, and its cause
  pub record IsRefusal (why : BtreeRefusal) (code : ℕ) : Type 0 where
    pub error : Refusal
    pub returned : LookupReturns (Err error)
    pub same_code : code ≡ why.code
    pub cause : why ≡ refusal_for error

  -- the result of such a lookup, with the entry as C has it
  abbrev pub ShowsLookupOf : Result (Option BtreeEntry) Refusal → Type 0
  ShowsLookupOf = ShowsLookup (key_kind t) (value_kind t) (λ c at item. IsKey c t ((key_kind t).read c at) item)
      (λ c at item. IsValue c t ((value_kind t).read c at) item) (RefusesWhole (key_kind t)) (RefusesWhole (value_kind t)) b (own_at (kind_of t) b) comparison
