-- What is found at a place is what a lookup promises.
use Rattle.std.proofs.Common.{◌≡◌, ℕ, ◌+◌, ◌<◌, ◌≤◌, ◌*◌, IsTrue, List, Option, Some, None, is_some, refl, arith}
use Rattle.std.specs.Option.{option_map}
use Rattle.std.specs.declared.cmp.Ordering.{Ordering}
use Rattle.rkyv_btree_portable.specs.Kind.{Kind, IsLawful}
use Rattle.rkyv_btree_format.specs.Layout.{layout_of, are_fitting}
use Rattle.rkyv_btree_format.specs.Read.{entry_at, map_tree}
use Rattle.rkyv_btree_format.proofs.Sizes.{room_of}
use Rattle.rkyv_btree_walk.specs.Search.{IsSearch, probe}
use Rattle.rkyv_btree_walk.specs.mirror.Search.{comparison_at}
use Rattle.rkyv_btree_walk.proofs.Hits.{probe_finds}

module _ (K V : Kind) (E : ℕ) (b : List ℕ) (at : ℕ) (compare : K.Value → Ordering) where
  pub place_finds : (place : Option (ℕ × ℕ)) (found : Option (K.Value × V.Value)) → found ≡ option_map (entry_at K V E b) place → place ≡ probe (comparison_at K V E b compare) (map_tree (layout_of K V E) b at)
      → IsSearch (λ e. compare e.0) (entry_at K V E b) (map_tree (layout_of K V E) b at) found
  place_finds place found is probed = rw is (probe_finds (entry_at K V E b) (λ e. compare e.0) (map_tree (layout_of K V E) b at) place probed)

-- a count has room for the comparisons of one lookup
pub count_room : (K V : Kind) (E : ℕ) → IsLawful K → IsLawful V → IsTrue (are_fitting K V E) → (steps more : ℕ) → steps ≤ 9223372036854775807 → more ≤ E * 32 → steps + more < 18446744073709551616
count_room K V E k v fits steps more low few = let room = room_of K V E k v fits in omega (arith, room.entries)

pub some_mapped : {A B : Type 0} (f : A → B) (o : Option A) → is_some (option_map f o) ≡ is_some o
some_mapped f None = refl
some_mapped f (Some x) = refl
