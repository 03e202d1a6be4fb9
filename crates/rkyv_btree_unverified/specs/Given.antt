-- What lookups promise of their results in bytes that nobody has validated. `By` is what holds by the comparisons of a query with keys,
-- as `ByNative K compared_at key` is.
use Rattle.std.specs.BTreeMap.{is_at}
use Rattle.std.specs.List.{find}
use Rattle.std.specs.Map.{keys_of, lookup, lookup_entry}
use Rattle.std.specs.Option.{option_map}
use Rattle.std.specs.Prelude.{◌≡◌, ◌↔◌, ℕ, Bool, IfErr, IfOk, IfSome, IsOk, IsSome, is_some, List, Option, Result, Ok, Err}
use Rattle.std.specs.declared.cmp.Ordering.{Ordering}
use Rattle.std.specs.declared.cmp.Ordering.TheVariants.{Equal}
use Rattle.rkyv_btree_format.specs.Increasing.{Increasing}
use Rattle.rkyv_btree_portable.specs.Kind.{Kind}
use Rattle.rkyv_btree_portable.specs.declared.refusal.Refusal.{Refusal}
use Rattle.rkyv_btree_portable.specs.declared.check.Portable
use Rattle.rkyv_btree_unverified.specs.Lookups.{FindsAt, LookupGives}
use Rattle.rkyv_btree_unverified.specs.Steps.{entry_places, key_place, places, value_place}
use Rattle.rkyv_btree_view.specs.Lookup.{found_at}
use Rattle.rkyv_btree_view.specs.Map.{IsMap}
use Rattle.rkyv_btree_view.specs.View.{view_entry, view_value}
use Rattle.rkyv_btree_view.specs.declared.view.View.{View}
use Rattle.rkyv_btree_walk.specs.Search.{AnyHit, OrderedBy}

-- what holds by the order of keys, for a key
abbrev pub ByKey : (K : Kind) → K.Value → ((K.Value → Ordering) → Type 0) → Type 0
ByKey K key Holds = Holds (K.order key)

module _ (K V : Kind) (E : ℕ) (KRefuses VRefuses : List ℕ → ℕ → ℕ → ℕ → Refusal → Type 0) (b : List ℕ) (at : ℕ)
    (By : ((K.Value → Ordering) → Type 0) → Type 0) where
  -- a lookup in the map at a position fails exactly where its search does
  pub record FailsAsSearched {X : Type 0} (result : Result X Refusal) : Type 0 where
    -- each error has its cause
    pub refused : By (λ comparison. IfErr result (λ refusal. LookupGives K V E b comparison KRefuses VRefuses at (Err refusal)))
    -- and each cause its error
    pub all_refused : By (λ comparison. (refusal : Refusal) → LookupGives K V E b comparison KRefuses VRefuses at (Err refusal) → result ≡ Err refusal)
    -- on a map there is no error
    pub accepts : (m : List (K.Value × V.Value)) → IsMap K V E b at m → IsOk result

  -- it says whether its search ends at an entry
  pub record FindsWhether (result : Result Bool Refusal) : Type 0 where
    pub fails : FailsAsSearched result
    -- on all bytes it is whether an equal key is where the search comes to
    pub places : By (λ comparison. IfOk result (λ found. (entry : Option (ℕ × ℕ)) × LookupGives K V E b comparison KRefuses VRefuses at (Ok entry)
        × (found ≡ is_some entry)))
    -- on a map it is what a lookup in a view of it finds
    pub found : (m : List (K.Value × V.Value)) → IsMap K V E b at m → By (λ comparison. IfOk result (λ found. found ≡ is_some (found_at K V E b at comparison)))

  -- and on a map whose keys increase whether std's map finds a value
  pub record GivesWhether (result : Result Bool Refusal) : Type 0 where
    pub finds : FindsWhether result
    pub sorted : (m : List (K.Value × V.Value)) → IsMap K V E b at m → Increasing K.order m
        → By (λ comparison. IfOk result (λ found. found ≡ is_some (lookup (is_at comparison) m)))

  -- or, in a set, whether std's set finds a key
  pub record GivesWhetherKey (result : Result Bool Refusal) : Type 0 where
    pub finds : FindsWhether result
    pub sorted : (m : List (K.Value × V.Value)) → IsMap K V E b at m → Increasing K.order m
        → By (λ comparison. IfOk result (λ found. found ≡ is_some (find (is_at comparison) (keys_of m))))

module _ {A B : Type 0} {k : Portable.Ghosts A} {v : Portable.Ghosts B} (E : ℕ) (KRefuses VRefuses : List ℕ → ℕ → ℕ → ℕ → Refusal → Type 0) (b : List ℕ)
    (at : ℕ) (By : ((k.kind.Value → Ordering) → Type 0) → Type 0) (result : Result (Option (View A k × View B v)) Refusal) where
  -- what it finds is the entry at which its search ends
  pub record FindsEntry : Type 0 where
    -- on all bytes its key is equal
    pub equal : By (λ comparison. IfOk result (λ found. IfSome (option_map view_entry found) (λ e. comparison e.0 ≡ Equal)))
    -- and it is where the search comes to
    pub places : By (λ comparison. IfOk result (λ found. FindsAt k.kind v.kind E b comparison KRefuses VRefuses at (entry_places k.kind v.kind E)
        (option_map places found)))
    pub buffer : IfOk result (λ found. IfSome found (λ e. (e.0.buf.now ≡ b) × (e.1.buf.now ≡ b)))
    -- on a map it is what a lookup in a view of it finds
    pub found : (m : List (k.kind.Value × v.kind.Value)) → IsMap k.kind v.kind E b at m
        → By (λ comparison. IfOk result (λ found. option_map view_entry found ≡ found_at k.kind v.kind E b at comparison))

  -- it gives the entry by a comparison that goes with the order of keys
  pub record GivesEntry : Type 0 where
    pub fails : FailsAsSearched k.kind v.kind E KRefuses VRefuses b at By result
    pub finds : FindsEntry
    -- on a map whose keys increase it is what std's map finds
    pub sorted : (m : List (k.kind.Value × v.kind.Value)) → IsMap k.kind v.kind E b at m → Increasing k.kind.order m
        → By (λ comparison. IfOk result (λ found. option_map view_entry found ≡ lookup_entry (is_at comparison) m))

  -- and by any other
  pub record GivesEntryWith : Type 0 where
    pub fails : FailsAsSearched k.kind v.kind E KRefuses VRefuses b at By result
    pub finds : FindsEntry
    -- on a map that the comparison orders there is an entry exactly if some key is equal
    pub complete : (m : List (k.kind.Value × v.kind.Value)) → IsMap k.kind v.kind E b at m
        → By (λ comparison. IfOk result (λ found. OrderedBy (λ e. comparison e.0) m → (IsSome found ↔ AnyHit (λ e. comparison e.0) m)))

module _ (K : Kind) {B : Type 0} {v : Portable.Ghosts B} (E : ℕ) (KRefuses VRefuses : List ℕ → ℕ → ℕ → ℕ → Refusal → Type 0) (b : List ℕ) (at : ℕ)
    (By : ((K.Value → Ordering) → Type 0) → Type 0) (result : Result (Option (View B v)) Refusal) where
  -- it gives the value of the entry
  pub record GivesValue : Type 0 where
    pub fails : FailsAsSearched K v.kind E KRefuses VRefuses b at By result
    -- on all bytes it is the value beside an equal key, which is where the search comes to
    pub places : By (λ comparison. IfOk result (λ found. FindsAt K v.kind E b comparison KRefuses VRefuses at (value_place K v.kind E)
        (option_map (λ value. value.pos) found)))
    pub buffer : IfOk result (λ found. IfSome found (λ value. value.buf.now ≡ b))
    -- on a map it is what a lookup in a view of it finds
    pub found : (m : List (K.Value × v.kind.Value)) → IsMap K v.kind E b at m
        → By (λ comparison. IfOk result (λ found. option_map view_value found ≡ option_map (λ e. e.1) (found_at K v.kind E b at comparison)))
    -- and if the keys increase, what std's map finds
    pub sorted : (m : List (K.Value × v.kind.Value)) → IsMap K v.kind E b at m → Increasing K.order m
        → By (λ comparison. IfOk result (λ found. option_map view_value found ≡ lookup (is_at comparison) m))

module _ {A : Type 0} {k : Portable.Ghosts A} (V : Kind) (E : ℕ) (KRefuses VRefuses : List ℕ → ℕ → ℕ → ℕ → Refusal → Type 0) (b : List ℕ) (at : ℕ)
    (By : ((k.kind.Value → Ordering) → Type 0) → Type 0) where
  -- a lookup in a set gives the set's own key; its map has the values V, which are `()`
  pub record GivesKey (result : Result (Option (View A k)) Refusal) : Type 0 where
    pub fails : FailsAsSearched k.kind V E KRefuses VRefuses b at By result
    -- on all bytes it is equal, and is where the search comes to
    pub equal : By (λ comparison. IfOk result (λ found. IfSome (option_map view_value found) (λ key. comparison key ≡ Equal)))
    pub places : By (λ comparison. IfOk result (λ found. FindsAt k.kind V E b comparison KRefuses VRefuses at (key_place k.kind V E)
        (option_map (λ key. key.pos) found)))
    pub buffer : IfOk result (λ found. IfSome found (λ key. key.buf.now ≡ b))
    -- on a set it is what a lookup in a view of it finds
    pub found : (m : List (k.kind.Value × V.Value)) → IsMap k.kind V E b at m
        → By (λ comparison. IfOk result (λ found. option_map view_value found ≡ option_map (λ e. e.0) (found_at k.kind V E b at comparison)))
    -- and if the keys increase, what std's set finds
    pub sorted : (m : List (k.kind.Value × V.Value)) → IsMap k.kind V E b at m → Increasing k.kind.order m
        → By (λ comparison. IfOk result (λ found. option_map view_value found ≡ find (is_at comparison) (keys_of m)))
