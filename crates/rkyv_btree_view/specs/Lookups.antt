-- What lookups promise of their results. `comparison` is what comparing the query with a key gives, at each key.
use Rattle.std.specs.Prelude.{◌≡◌, ℕ, Bool, Option, IfSome, IsSome, IsTrue, is_some}
use Rattle.std.specs.BTreeMap.{is_at}
use Rattle.std.specs.List.{find}
use Rattle.std.specs.List.Sorted.{IsStrictlySortedBy}
use Rattle.std.specs.Map.{lookup, lookup_entry}
use Rattle.std.specs.Option.{option_map}
use Rattle.std.specs.declared.cmp.Ordering.{Ordering}
use Rattle.rkyv_btree_format.specs.Increasing.{Increasing}
use Rattle.rkyv_btree_portable.specs.Kind.{Kind}
use Rattle.rkyv_btree_portable.specs.declared.check.Portable
use Rattle.rkyv_btree_walk.specs.Search.{AnyHit, IsHit}
use Rattle.rkyv_btree_view.specs.Lookup.{IsComplete, IsValueOfEqualKey, found_in}
use Rattle.rkyv_btree_view.specs.Query.{IsCut}
use Rattle.rkyv_btree_view.specs.Set.{IsCompleteOnKeys, key_in, keys_of}
use Rattle.rkyv_btree_view.specs.View.{entries_of}
use Rattle.rkyv_btree_view.specs.declared.view.View.{View}

module _ (K V : Kind) (E : ℕ) {M : Type 0} {m : Portable.Ghosts M} (view : View M m) (comparison : K.Value → Ordering) where
  -- the entry is what a lookup in the map finds
  pub record IsEntryLookup (entry : Option (K.Value × V.Value)) : Type 0 where
    -- it is an entry of the list whose key is equal
    pub member : IfSome entry (IsHit (λ e. comparison e.0) (entries_of K V E view))
    -- if the keys increase, it is what std's map finds
    pub sorted : Increasing K.order (entries_of K V E view) → entry ≡ lookup_entry (is_at comparison) (entries_of K V E view)
    pub complete : IsComplete K V E view comparison (IsSome entry)
    -- on each map it is the entry at which the search ends
    pub found : entry ≡ found_in K V E view comparison

  -- so it is by any comparison, which may go with the order of keys or not
  pub record IsLookupWith (entry : Option (K.Value × V.Value)) : Type 0 where
    pub member : IfSome entry (IsHit (λ e. comparison e.0) (entries_of K V E view))
    -- if it does, and the keys increase, it is what std's map finds
    pub sorted : IsCut K.order comparison → Increasing K.order (entries_of K V E view) → entry ≡ lookup_entry (is_at comparison) (entries_of K V E view)
    pub complete : IsComplete K V E view comparison (IsSome entry)
    pub found : entry ≡ found_in K V E view comparison

  -- the value is that of the entry
  pub record IsLookup (value : Option V.Value) : Type 0 where
    -- it is the value of an entry whose key is equal
    pub member : IfSome value (IsValueOfEqualKey comparison (entries_of K V E view))
    -- if the keys increase, it is what std's map finds
    pub sorted : Increasing K.order (entries_of K V E view) → value ≡ lookup (is_at comparison) (entries_of K V E view)
    pub complete : IsComplete K V E view comparison (IsSome value)
    -- on each map it is the value of the entry at which the search ends
    pub found : value ≡ option_map (λ e. e.1) (found_in K V E view comparison)

  -- the native value is that of the entry, where `native` has the native value of each value
  pub record IsNativeLookup {N : Type 0} (native : V.Value → N) (result : Option N) : Type 0 where
    -- if the keys increase, it is the native value of what std's map finds
    pub sorted : Increasing K.order (entries_of K V E view) → result ≡ option_map native (lookup (is_at comparison) (entries_of K V E view))
    pub complete : IsComplete K V E view comparison (IsSome result)
    -- on each map it is the native value of the entry at which the search ends
    pub found : result ≡ option_map native (option_map (λ e. e.1) (found_in K V E view comparison))

  -- the truth value says whether there is an entry
  pub record IsWhetherFound (result : Bool) : Type 0 where
    -- if it is true, an entry of the list has an equal key
    pub member : IsTrue result → AnyHit (λ e. comparison e.0) (entries_of K V E view)
    -- if the keys increase, it is whether std's map finds a value
    pub sorted : Increasing K.order (entries_of K V E view) → result ≡ is_some (lookup (is_at comparison) (entries_of K V E view))
    pub complete : IsComplete K V E view comparison (IsTrue result)
    -- on each map it is whether the search ends at an entry
    pub found : result ≡ is_some (found_in K V E view comparison)

module _ (K : Kind) (E : ℕ) {M : Type 0} {m : Portable.Ghosts M} (view : View M m) (comparison : K.Value → Ordering) where
  -- the key is what a lookup in the set finds
  pub record IsKeyLookup (key : Option K.Value) : Type 0 where
    -- it is a key of the set that is equal
    pub member : IfSome key (IsHit comparison (keys_of K E view))
    -- if the keys increase, it is what std's set finds
    pub sorted : IsStrictlySortedBy K.order (keys_of K E view) → key ≡ find (is_at comparison) (keys_of K E view)
    pub complete : IsCompleteOnKeys K E view comparison (IsSome key)
    -- on each set it is the key at which the search ends
    pub found : key ≡ key_in K E view comparison

  -- the truth value says whether there is a key
  pub record IsWhetherKeyFound (result : Bool) : Type 0 where
    -- if it is true, a key of the set is equal
    pub member : IsTrue result → AnyHit comparison (keys_of K E view)
    -- if the keys increase, it is whether std's set finds a key
    pub sorted : IsStrictlySortedBy K.order (keys_of K E view) → result ≡ is_some (find (is_at comparison) (keys_of K E view))
    pub complete : IsCompleteOnKeys K E view comparison (IsTrue result)
    -- on each set it is whether the search ends at a key
    pub found : result ≡ is_some (key_in K E view comparison)
