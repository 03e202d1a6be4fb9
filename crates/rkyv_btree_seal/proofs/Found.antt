-- What a search of a map finds is one of its entries.
use Rattle.std.proofs.Common.{◌≡◌, ℕ, List, sym, Option, Some, None, IfSome}
use Rattle.std.specs.Option.{option_map}
use Rattle.std.specs.declared.cmp.Ordering.{Ordering}
use Rattle.rkyv_btree_portable.specs.Kind.{Kind}
use Rattle.rkyv_btree_format.specs.Layout.{layout_of}
use Rattle.rkyv_btree_format.specs.Read.{entry_at, map_tree}
use Rattle.rkyv_btree_walk.specs.Search.{probe}
use Rattle.rkyv_btree_walk.specs.mirror.Search.{comparison_at}
use Rattle.rkyv_btree_walk.proofs.Hits.{probe_finds, probe_is_entry}
use Rattle.rkyv_btree_seal.specs.Places.{FindsPlace, IsEntry}
use Rattle.rkyv_btree_walk.specs.EntryPlaces.{place_of}
use Rattle.rkyv_btree_walk.specs.declared.entry_place.EntryPlace.{EntryPlace}

module _ (K V : Kind) (E : ℕ) (b : List ℕ) (at : ℕ) (comparison : K.Value → Ordering) where
  entry_found : (found : Option (ℕ × ℕ)) → found ≡ probe (comparison_at K V E b comparison) (map_tree (layout_of K V E) b at) → IfSome found (IsEntry K V E b at)
  entry_found None e = tt
  entry_found (Some x) e = probe_is_entry (comparison_at K V E b comparison) (map_tree (layout_of K V E) b at) x (sym e)

  pub finds_place : (found : Option (ℕ × ℕ)) → found ≡ probe (comparison_at K V E b comparison) (map_tree (layout_of K V E) b at) → FindsPlace K V E b at comparison found
  finds_place found e = record {
    probed = e;
    entry = entry_found found e;
    search = probe_finds (entry_at K V E b) (λ x. comparison x.0) (map_tree (layout_of K V E) b at) found e;
  }

-- an entry that stands in the list, as a place
pub place_listed : (K V : Kind) (E : ℕ) (b : List ℕ) (at : ℕ) (found : Option (ℕ × ℕ)) (place : Option EntryPlace) → found ≡ option_map place_of place → IfSome found (IsEntry K V E b at) → IfSome place (λ p. IsEntry K V E b at (place_of p))
place_listed K V E b at found None e h = tt
place_listed K V E b at found (Some p) e h = rw e at h
