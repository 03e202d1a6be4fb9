-- What a lookup returns, as its caller reads it.
use Rattle.std.proofs.Common.{◌≡◌, ℕ, IsSome, List, Option, Some, None, Result, Ok, Err, sym, ap, ◌∙◌, subst}
use Rattle.std.specs.BTreeMap.{is_at}
use Rattle.std.specs.Map.{lookup_entry}
use Rattle.std.specs.Option.{option_map}
use Rattle.std.specs.Prelude.{◌↔◌}
use Rattle.std.specs.declared.cmp.Ordering.{Ordering}
use Rattle.rkyv_btree_verify.proofs.MapLaws.{map_laws}
use Rattle.rkyv_btree_portable.specs.Kind.{Kind, IsLawful}
use Rattle.rkyv_btree_format.specs.Layout.{layout_of}
use Rattle.rkyv_btree_format.specs.Read.{entry_at, read_map}
use Rattle.rkyv_btree_portable.specs.declared.refusal.Refusal.{Refusal}
use Rattle.rkyv_btree_portable.specs.Refusing.{AreRefusals}
use Rattle.rkyv_btree_view.proofs.LookedUp.{found_is}
use Rattle.rkyv_btree_format.specs.Increasing.{Increasing}
use Rattle.rkyv_btree_unverified.proofs.Exact.{one_lookup}
use Rattle.rkyv_btree_unverified.specs.Lookups.{LookupGives}
use Rattle.rkyv_btree_view.proofs.Lookups.{place_finds}
use Rattle.rkyv_btree_view.specs.Lookup.{found_at}
use Rattle.rkyv_btree_view.specs.Map.{IsMap}
use Rattle.rkyv_btree_view.specs.Query.{IsCut}
use Rattle.rkyv_btree_walk.specs.Search.{AnyHit, OrderedBy}
use Rattle.rkyv_btree_walk.specs.mirror.Search.{comparison_at, searched_map}

err_is : {A : Type 0} (d e : Refusal) → ◌≡◌ {A = Result A Refusal} (Err d) (Err e) → d ≡ e
err_is d e h = cc h

-- an error is passed on
pub passed_on : {A B : Type 0} (d e : Refusal) → ◌≡◌ {A = Result A Refusal} (Err d) (Err e) → ◌≡◌ {A = Result B Refusal} (Err d) (Err e)
passed_on d e h = ap Err (err_is d e h)

pub not_both : {A B : Type 0} (a : A) (b : B) (e : Refusal) → ◌≡◌ {A = Result A Refusal} (Ok a) (Err e) → ◌≡◌ {A = Result B Refusal} (Ok b) (Err e)
not_both a b e h = absurd (cc h)

module _ (K V : Kind) (E : ℕ) (b : List ℕ) (comparison : K.Value → Ordering) (KR VR : List ℕ → ℕ → ℕ → ℕ → Refusal → Type 0) (k : IsLawful K) (v : IsLawful V) (kr : AreRefusals K KR) (vr : AreRefusals V VR) (at : ℕ) where
  -- a lookup has one error at most
  pub same_error : {A : Type 0} (d e : Refusal) → LookupGives K V E b comparison KR VR at (Err d) → LookupGives K V E b comparison KR VR at (Err e) → ◌≡◌ {A = Result A Refusal} (Err d) (Err e)
  same_error d e h m = ap Err (err_is d e (one_lookup K V E b comparison KR VR k v kr vr at (Err d) (Err e) h m))

  -- and none where it returns a place, or that there is none
  pub no_error : {A : Type 0} (place : Option (ℕ × ℕ)) (r : A) (e : Refusal) → LookupGives K V E b comparison KR VR at (Ok place) → LookupGives K V E b comparison KR VR at (Err e) → ◌≡◌ {A = Result A Refusal} (Ok r) (Err e)
  no_error place r e h m = let same = one_lookup K V E b comparison KR VR k v kr vr at (Ok place) (Err e) h m in absurd (cc same)

module _ (K V : Kind) (E : ℕ) (b : List ℕ) (comparison : K.Value → Ordering) where
  module _ (at : ℕ) (place : Option (ℕ × ℕ)) (found : Option (K.Value × V.Value)) (is : found ≡ option_map (entry_at K V E b) place) (searched : place ≡ (searched_map (layout_of K V E) b (comparison_at K V E b comparison) at).0) where
    -- on a map it is what a lookup in a view of it finds
    pub as_checked : found ≡ found_at K V E b at comparison
    as_checked = is ∙ ap (option_map (entry_at K V E b)) searched

    module _ (k : IsLawful K) (v : IsLawful V) (m : List (K.Value × V.Value)) (map : IsMap K V E b at m) where
      list_is : read_map K V E b at ≡ m
      list_is = sym ((map_laws K V E k v).is_read b 0 at at map.0 m map.1)

      -- and along an ordered list something is found exactly if some key is equal
      pub complete_on : {X : Type 0} (views : Option X) (view_value : X → K.Value × V.Value) → found ≡ option_map view_value views → OrderedBy (λ e. comparison e.0) m → (IsSome views ↔ AnyHit (λ e. comparison e.0) m)
      complete_on {X = X} views view_value shown =
          subst (λ (l : List (K.Value × V.Value)). OrderedBy (λ e. comparison e.0) l → (IsSome views ↔ AnyHit (λ e. comparison e.0) l)) list_is
          (λ ordered. as_views views shown ((place_finds K V E b at comparison place found is searched).complete ordered))
        where
          as_views : {P : Type 0} (vs : Option X) → found ≡ option_map view_value vs → (IsSome found ↔ P) → (IsSome vs ↔ P)
          as_views None e h = rw e at h
          as_views (Some x) e h = rw e at h

      -- and in a map whose keys increase, what std's lookup finds
      pub sorted_finds : (cut : K.Value → Ordering) → IsCut K.order cut → ((p : ℕ) → comparison (K.read b p) ≡ cut (K.read b p)) → Increasing K.order m → found ≡ lookup_entry (is_at comparison) m
      sorted_finds cut is_cut agree =
          subst (λ (l : List (K.Value × V.Value)). Increasing K.order l → found ≡ lookup_entry (is_at comparison) l) list_is
          (λ rises. as_checked ∙ found_is K V E b at rises comparison cut is_cut agree)
