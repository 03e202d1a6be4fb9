-- What a search for an entry, and a write over its value, make of the list.
use Rattle.std.proofs.Common.{◌≡◌, ◌↔◌, ℕ, List, Option, Some, None, Bool, true, IsTrue, IsSome, is_some, sym, ap, ◌∙◌}
use Rattle.std.proofs.lemmas.Option.{slice_get-map}
use Rattle.std.specs.BTreeMap.{is_at}
use Rattle.std.specs.Map.{lookup}
use Rattle.std.specs.Option.{option_map}
use Rattle.std.specs.Prelude.{MatchOption}
use Rattle.std.specs.declared.cmp.Ordering.{Ordering}
use Rattle.rkyv_btree_format.specs.Increasing.{Increasing}
use Rattle.rkyv_btree_portable.specs.InPlace.{value_of}
use Rattle.rkyv_btree_portable.specs.Kind.{Kind}
use Rattle.rkyv_btree_format.specs.Layout.{layout_of}
use Rattle.rkyv_btree_format.specs.Read.{entry_at, map_tree, read_map}
use Rattle.rkyv_btree_shape.specs.Tree.{list}
use Rattle.rkyv_btree_view.proofs.LookedUp.{found_is, some_of_entry}
use Rattle.rkyv_btree_view.proofs.Lookups.{some_mapped}
use Rattle.rkyv_btree_view.specs.Lookup.{found_at}
use Rattle.rkyv_btree_view.specs.Query.{IsCut}
use Rattle.rkyv_btree_walk.specs.Search.{probe}
use Rattle.rkyv_btree_seal.specs.Places.{FindsPlace, PutsEntry, ReplacesAtEqual, SetsFound}

module _ (K V : Kind) (E : ℕ) (b : List ℕ) (at : ℕ) (comparison : K.Value → Ordering) where
  -- a place is found exactly where a lookup finds an entry
  place_is_some : (found : Option (ℕ × ℕ)) → FindsPlace K V E b at comparison found → is_some found ≡ is_some (found_at K V E b at comparison)
  place_is_some found finds = ap is_some finds.probed ∙ sym (some_mapped (entry_at K V E b) (probe (λ e. comparison (entry_at K V E b e).0) (map_tree (layout_of K V E) b at)))

  module _ (own c : List ℕ) (result : Bool) (sets : SetsFound K V E b at comparison own c result) where
    pub sets_found : IsTrue result ↔ IsSome (found_at K V E b at comparison)
    sets_found = rw (sets.has_found, place_is_some sets.found sets.finds) ((λ is. is), λ is. is)

    pub sets_sorted : Increasing K.order (read_map K V E b at) → (cut : K.Value → Ordering) → IsCut K.order cut → ((p : ℕ) → comparison (K.read b p) ≡ cut (K.read b p)) → result ≡ is_some (lookup (is_at comparison) (read_map K V E b at))
    sets_sorted rises cut is_cut agree =
        sets.has_found ∙ place_is_some sets.found sets.finds ∙ ap is_some (found_is K V E b at rises comparison cut is_cut agree) ∙ some_of_entry (is_at comparison) (read_map K V E b at)

    pub sets_writes : IsTrue result → ReplacesAtEqual K V E b at comparison (value_of V own) (read_map K V E c at)
    sets_writes is = case sets.found sets.finds (sym sets.has_found ∙ is) sets.puts
      where
        case : (found : Option (ℕ × ℕ)) → FindsPlace K V E b at comparison found → is_some found ≡ true → MatchOption found (c ≡ b) (λ e. PutsEntry K V E b at e own c) → ReplacesAtEqual K V E b at comparison (value_of V own) (read_map K V E c at)
        case None finds some puts = absurd (cc some)
        case (Some e) finds some puts =
            let i = puts.entry.0 in
            (i, entry_at K V E b e, slice_get-map (entry_at K V E b) (list (map_tree (layout_of K V E) b at)) i ∙ ap (option_map (entry_at K V E b)) puts.entry.1, finds.search.hit.0, puts.list i puts.entry.1)
