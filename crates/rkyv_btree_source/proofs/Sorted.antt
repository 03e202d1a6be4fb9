-- A lookup in a source whose bytes are a map.
use Rattle.std.proofs.Common.{◌≡◌, ◌∙◌, ℕ, IsTrue, List, Option, Some, None, Ok, Err, refl, ap}
use Rattle.std.specs.BTreeMap.{is_at}
use Rattle.std.specs.Map.{lookup}
use Rattle.std.specs.Option.{option_map}
use Rattle.std.specs.declared.cmp.Ordering.{Ordering}
use Rattle.rkyv_btree_format.specs.Increasing.{Increasing}
use Rattle.rkyv_btree_portable.specs.Kind.{Kind, IsLawful}
use Rattle.rkyv_btree_format.specs.Layout.{layout_of, are_fitting}
use Rattle.rkyv_btree_format.specs.Read.{entry_at}
use Rattle.rkyv_btree_portable.specs.declared.refusal.Refusal.{Refusal}
use Rattle.rkyv_btree_portable.specs.Refusing.{AreRefusals}
use Rattle.rkyv_btree_view.proofs.LookedUp.{value_of_entry}
use Rattle.rkyv_btree_unverified.proofs.Found.{sorted_finds}
use Rattle.rkyv_btree_unverified.proofs.OnMaps.{lookup_is}
use Rattle.rkyv_btree_unverified.specs.Lookups.{FindsAt, LookupGives}
use Rattle.rkyv_btree_unverified.specs.Steps.{value_place}
use Rattle.rkyv_btree_view.specs.Map.{IsMap}
use Rattle.rkyv_btree_view.specs.Query.{IsCut}
use Rattle.rkyv_btree_walk.specs.mirror.Search.{comparison_at, searched_map}

found_value : (K V : Kind) (E : ℕ) (b : List ℕ) (place : Option (ℕ × ℕ)) → option_map (λ e. V.read b (value_place K V E e)) place ≡ option_map (λ e. e.1) (option_map (entry_at K V E b) place)
found_value K V E b None = refl
found_value K V E b (Some e) = refl

module _ (K V : Kind) (E : ℕ) (b : List ℕ) (comparison : K.Value → Ordering) (KR VR : List ℕ → ℕ → ℕ → ℕ → Refusal → Type 0) (k : IsLawful K) (v : IsLawful V) (kr : AreRefusals K KR) (vr : AreRefusals V VR)
    (fits : IsTrue (are_fitting K V E)) (at : ℕ) (m : List (K.Value × V.Value)) (map : IsMap K V E b at m) where
  -- nothing is refused
  pub none_refused : (e : Refusal) → LookupGives K V E b comparison KR VR at (Err e) → ⊥
  none_refused e h = let is = lookup_is K V E b comparison KR VR k v kr vr fits at m map (Err e) h in absurd (cc is)

  -- and in a map whose keys increase std's lookup finds the same
  pub finds_sorted : (cut : K.Value → Ordering) → IsCut K.order cut → ((p : ℕ) → comparison (K.read b p) ≡ cut (K.read b p)) → Increasing K.order m → (found : Option V.Value)
      → FindsAt K V E b comparison KR VR at (λ e. V.read b (value_place K V E e)) found → found ≡ lookup (is_at comparison) m
  finds_sorted cut is_cut agree rises found h =
      let place = h.0 in
      let is = lookup_is K V E b comparison KR VR k v kr vr fits at m map (Ok place) h.1 in
      let there : place ≡ (searched_map (layout_of K V E) b (comparison_at K V E b comparison) at).0 = cc is in
      let entry = sorted_finds K V E b comparison at place (option_map (entry_at K V E b) place) refl there k v m map cut is_cut agree rises in
      h.2 ∙ (found_value K V E b place ∙ (ap (option_map (λ e. e.1)) entry ∙ value_of_entry (is_at comparison) m))
