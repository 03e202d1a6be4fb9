-- What a lookup in bytes that nobody has validated gives C, by its result.
use Rattle.std.proofs.Common.{◌≡◌, ℕ, ◌<◌, ◌∙◌, IsTrue, IfSome, List, length, Option, Some, None, Result, Ok, Err, refl, ap, subst, arith}
use Rattle.std.specs.Option.{option_map}
use Rattle.std.specs.declared.cmp.Ordering.{Ordering}
use Rattle.std.specs.declared.cmp.Ordering.TheVariants.{Equal}
use Rattle.rkyv_btree_portable.specs.Kind.{Kind}
use Rattle.rkyv_btree_format.specs.Read.{entry_at}
use Rattle.rkyv_btree_portable.specs.declared.refusal.Refusal.{Refusal}
use Rattle.rkyv_btree_portable.specs.declared.refusal.Refusal.TheVariants.{TooLong}
use Rattle.rkyv_btree_portable.specs.Refusing.{too_long}
use Rattle.rkyv_btree_portable.specs.Views.{stands}
use Rattle.rkyv_btree_format.specs.OwnBytes.{IsArchiveOf, own_at}
use Rattle.rkyv_btree_view.specs.Lookup.{found_at}
use Rattle.rkyv_btree_view.specs.Map.{IsMap}
use Rattle.rkyv_btree_portable.specs.declared.check.Portable
use Rattle.rkyv_btree_unverified.specs.Lookups.{LookupGives, FindsAt, FoundIsValid, MapsAreSearched}
use Rattle.rkyv_btree_unverified.specs.Steps.{key_place, value_place, entry_places, places, misplaced, Gives as KeyGives}
use Rattle.rkyv_btree_view.specs.declared.view.View.{View}
use Rattle.rkyv_btree_ffi.specs.Batches.{IsEither}
use Rattle.rkyv_btree_ffi.specs.Entries.{IsKey, IsValue, Gives, LooksUp}
use Rattle.rkyv_btree_ffi.specs.Finding.{ShowsViews, ShowsLookup, ShowsLookupOf, LookupReturns, IsFoundEntry}
use Rattle.rkyv_btree_ffi.specs.MapTypes.{key_kind, value_kind, kind_of}
use Rattle.rkyv_btree_ffi.specs.declared.item.BtreeItem.{BtreeItem}
use Rattle.rkyv_btree_ffi.specs.declared.item.BtreeEntry.{BtreeEntry}
use Rattle.rkyv_btree_ffi.specs.declared.map_type.MapType.{MapType}

module _ (K V : Kind) (SK SV : List ℕ → ℕ → BtreeItem → Type 0) (KR VR : List ℕ → ℕ → ℕ → ℕ → Refusal → Type 0) where
  abbrev Shows : List ℕ → ℕ → (K.Value → Ordering) → Result (Option BtreeEntry) Refusal → Type 0
  Shows b at comparison r = ShowsLookup K V SK SV KR VR b at comparison r

  -- in the buffer and at the position that are equal to these
  pub moved : (b c : List ℕ) (at p : ℕ) (comparison : K.Value → Ordering) (r : Result (Option BtreeEntry) Refusal) → b ≡ c → at ≡ p → Shows b at comparison r → Shows c p comparison r
  moved b c at p comparison r same there h = subst (λ (q : ℕ). Shows c q comparison r) there (subst (λ (d : List ℕ). Shows d at comparison r) same h)

  module _ (b : List ℕ) (at : ℕ) (comparison : K.Value → Ordering) where
    -- an entry that shows views shows what is at their places
    shown_at : {A B : Type 0} {k : Portable.Ghosts A} {v : Portable.Ghosts B} (place : Option (ℕ × ℕ)) (views : Option (View A k × View B v)) (entry : Option BtreeEntry)
        → IfSome views (λ e. (e.0.buf.now ≡ b) × (e.1.buf.now ≡ b)) → option_map places views ≡ option_map (entry_places K V 5) place → ShowsViews SK SV views entry → IsEither K V SK SV b place entry
    shown_at None None None bufs same h = tt
    shown_at None None (Some entry) bufs same h = absurd h
    shown_at None (Some e) entry bufs same h = absurd (cc same)
    shown_at (Some p) None entry bufs same h = absurd (cc same)
    shown_at (Some p) (Some e) None bufs same h = absurd h
    shown_at (Some p) (Some e) (Some entry) bufs same h =
        let there : places e ≡ entry_places K V 5 p = cc same in
        record {
          key = subst (λ (c : List ℕ). SK c (key_place K V 5 p) entry.key) bufs.0 (subst (λ (q : ℕ). SK e.0.buf.now q entry.key) (ap (λ (x : ℕ × ℕ). x.0) there) h.0);
          value = subst (λ (c : List ℕ). SV c (value_place K V 5 p) entry.value) bufs.1 (subst (λ (q : ℕ). SV e.1.buf.now q entry.value) (ap (λ (x : ℕ × ℕ). x.1) there) h.1);
        }

    valid_at : FoundIsValid K V 5 KR VR → (place : Option (ℕ × ℕ)) → LookupGives K V 5 b comparison KR VR at (Ok place) → IfSome place (λ e. KeyGives K V 5 b comparison Equal e × IsTrue (stands V b (value_place K V 5 e)))
    valid_at law None gives = tt
    valid_at law (Some e) gives = law b comparison at e gives

    module _ (searched : MapsAreSearched K V 5 KR VR) where
      same_on_map : (place : Option (ℕ × ℕ)) → LookupGives K V 5 b comparison KR VR at (Ok place) → (m : List (K.Value × V.Value)) → IsMap K V 5 b at m → option_map (entry_at K V 5 b) place ≡ found_at K V 5 b at comparison
      same_on_map place gives m is =
          let s = searched b comparison at m (Ok place) is gives in
          let same : place ≡ s.0 = cc s.1 in
          ap (option_map (entry_at K V 5 b)) same ∙ s.2

      -- what a lookup finds is shown, and its error
      pub found_shown : {A B : Type 0} {k : Portable.Ghosts A} {v : Portable.Ghosts B} → FoundIsValid K V 5 KR VR → (views : Option (View A k × View B v)) (entry : Option BtreeEntry)
          → IfSome views (λ e. (e.0.buf.now ≡ b) × (e.1.buf.now ≡ b)) → FindsAt K V 5 b comparison KR VR at (entry_places K V 5) (option_map places views) → ShowsViews SK SV views entry → Shows b at comparison (Ok entry)
      found_shown valid views entry bufs finds h = record {
        place = finds.0;
        gives = finds.1;
        valid = valid_at valid finds.0 finds.1;
        shown = shown_at finds.0 views entry bufs finds.2 h;
        on_map = same_on_map finds.0 finds.1;
      }

      pub error_shown : (e : Refusal) → LookupGives K V 5 b comparison KR VR at (Err e) → Shows b at comparison (Err e)
      error_shown e gives = (gives, λ m is. let s = searched b comparison at m (Err e) is gives in absurd (cc s.1))

      -- more bytes than positions reach are refused by the lookup too
      pub long_shown : (e : Refusal) → (e ≡ TooLong) × (4294967295 < length b) → Shows b at comparison (Err e)
      long_shown e h = rw h.0 (error_shown TooLong (record { result = Err TooLong; gives = misplaced (too_long h.1); goes_on = refl }))

module _ (t : MapType) (b : List ℕ) (comparison : (key_kind t).Value → Ordering) where
  abbrev Either : Option (ℕ × ℕ) → Option BtreeEntry → Type 0
  Either = IsEither (key_kind t) (value_kind t) (λ c at item. IsKey c t ((key_kind t).read c at) item) (λ c at item. IsValue c t ((value_kind t).read c at) item) b

  entry_is : (entry : BtreeEntry) (place : Option (ℕ × ℕ)) → LookupReturns t b comparison (Ok place)
      → IfSome place (λ e. KeyGives (key_kind t) (value_kind t) 5 b comparison Equal e × IsTrue (stands (value_kind t) b (value_place (key_kind t) (value_kind t) 5 e))) → Either place (Some entry) → IsFoundEntry t b comparison entry
  entry_is entry None returned valid shown = absurd shown
  entry_is entry (Some p) returned valid shown = record { place = p; returned = returned; key = valid.0; value = valid.1; shown = record { key = shown.key; value = shown.value } }

  looked_up : (place : Option (ℕ × ℕ)) (found : Option BtreeEntry) (code : ℕ) (entry : BtreeEntry) → Either place found → IfSome found (λ e. (code ≡ 0) × (entry ≡ e)) → (found ≡ None → code ≡ 18)
      → Gives t b (option_map (entry_at (key_kind t) (value_kind t) 5 b) place) code entry
  looked_up None None code entry shown some none = none refl
  looked_up None (Some e) code entry shown some none = absurd shown
  looked_up (Some p) None code entry shown some none = absurd shown
  looked_up (Some p) (Some e) code entry shown some none = (some.0, rw some.1 record { key = shown.key; value = shown.value })

  -- what was written of what the lookup found
  module _ (code : ℕ) (entry : BtreeEntry) where
    pub found_is : (found : Option BtreeEntry) → IfSome found (λ e. (code ≡ 0) × (entry ≡ e)) → (found ≡ None → code ≡ 18) → ShowsLookupOf t b comparison (Ok found) → code ≡ 0 → IsFoundEntry t b comparison entry
    found_is None some none h zero_code = let other = none refl in absurd (omega (arith, other, zero_code))
    found_is (Some e) some none h zero_code = rw some.1 (entry_is e h.place h.gives h.valid h.shown)

    pub as_opened : (found : Option BtreeEntry) → IfSome found (λ e. (code ≡ 0) × (entry ≡ e)) → (found ≡ None → code ≡ 18) → ShowsLookupOf t b comparison (Ok found)
        → (m : (kind_of t).Value) → IsArchiveOf (kind_of t) b m → LooksUp t b (own_at (kind_of t) b) comparison code entry
    as_opened found some none h m is = subst (λ o. Gives t b o code entry) (h.on_map m (is.left, is.means)) (looked_up h.place found code entry h.shown some none)
