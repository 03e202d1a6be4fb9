-- What many lookups at once return.
use Rattle.std.specs.Prelude.{ℕ, ◌+◌, List, Option}
use Rattle.std.specs.Option.{option_map}
use Rattle.std.specs.declared.cmp.Ordering.{Ordering}
use Rattle.rkyv_btree_portable.specs.Kind.{Kind}
use Rattle.rkyv_btree_format.specs.Layout.{layout_of, key_at}
use Rattle.rkyv_btree_format.specs.Read.{entry_at, map_tree}
use Rattle.rkyv_btree_portable.specs.Scalars.{unit_kind}
use Rattle.rkyv_btree_portable.specs.declared.check.Portable
use Rattle.rkyv_btree_walk.specs.Search.{probe}
use Rattle.rkyv_btree_view.specs.declared.view.View.{View}

module _ {N : Type 0} (K V : Kind) (E : ℕ) (compared_at : N → List ℕ → ℕ → Ordering) (b : List ℕ) (at : ℕ) where
  -- the entry at which the search of the map at a position for a native key ends
  abbrev pub place_of_key : N → Option (ℕ × ℕ)
  place_of_key key = probe (λ e. compared_at key b (e.0 + key_at (layout_of K V E) e.1)) (map_tree (layout_of K V E) b at)

  -- the entry there, which a lookup of the key finds
  abbrev pub entry_looked_up : N → Option (K.Value × V.Value)
  entry_looked_up key = option_map (entry_at K V E b) (place_of_key key)

module _ {N M : Type 0} {m : Portable.Ghosts M} where
  -- the entry that a lookup finds in the map that a view is of
  abbrev pub entry_looked_up_in : (K V : Kind) → ℕ → View M m → (N → List ℕ → ℕ → Ordering) → N → Option (K.Value × V.Value)
  entry_looked_up_in K V E view compared_at key = entry_looked_up K V E compared_at view.buf.now view.pos key

  -- its value
  abbrev pub looked_up_in : (K V : Kind) → ℕ → View M m → (N → List ℕ → ℕ → Ordering) → N → Option V.Value
  looked_up_in K V E view compared_at key = option_map (λ e. e.1) (entry_looked_up_in K V E view compared_at key)

  -- the key that a lookup finds in the set that a view is of
  abbrev pub key_looked_up_in : (K : Kind) → ℕ → View M m → (N → List ℕ → ℕ → Ordering) → N → Option K.Value
  key_looked_up_in K E view compared_at key = option_map (λ e. e.0) (entry_looked_up_in K unit_kind E view compared_at key)
