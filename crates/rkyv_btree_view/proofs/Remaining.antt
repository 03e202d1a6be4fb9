-- The entries that remain of an iterator are what its walk has left.
use Rattle.std.proofs.Common.{◌≡◌, ℕ, ◌+◌, ◌-◌, ◌<◌, List, [], ◌∷◌, ◌++◌, length, map, Option, Some, None, sym, ap, ◌∙◌, arith, append-nil, append_assoc, length-append}
use Rattle.std.proofs.Math.Seq.{drop-append_seam}
use Rattle.std.proofs.lemmas.List.{drop-map, length-map}
use Rattle.rkyv_btree_portable.specs.Kind.{Kind}
use Rattle.rkyv_btree_format.specs.Layout.{layout_of}
use Rattle.rkyv_btree_format.specs.Read.{entry_at, read_map}
use Rattle.rkyv_btree_walk.proofs.Props.{places_had}
use Rattle.rkyv_btree_walk.specs.EntryPlaces.{entry_places, place_of}
use Rattle.rkyv_btree_walk.specs.declared.entry_walk.Walk.{Walk}
use Rattle.rkyv_btree_walk.specs.declared.entry_place.EntryPlace.{EntryPlace}
use Rattle.rkyv_btree_walk.specs.mirror.Along.{walk_left, IsWalk, Takes}
use Rattle.rkyv_btree_walk.specs.Bounds.{IsEnd}
use Rattle.rkyv_btree_view.specs.Iter.{last_of}
use mathlib.Core.Logic.{∥∥₁_map}

last_is_end : {X : Type 0} (rest all : List X) → IsEnd rest all → last_of (length rest) all ≡ rest
last_is_end rest all (skipped, is) =
    let front : length all - length rest ≡ length skipped = omega (arith, ap length is, length-append skipped rest) in
    rw (front, is) (drop-append_seam skipped rest)

last_mapped : {X Y : Type 0} (f : X → Y) (n : ℕ) (xs : List X) → last_of n (map f xs) ≡ map f (last_of n xs)
last_mapped f n xs = rw (length-map xs f) (drop-map f (length xs - n) xs)

-- a step along the end of a list leaves an end of it
pub end_taken : (old new all : List (ℕ × ℕ)) (taken : Option EntryPlace) → Takes old new taken → IsEnd old all → IsEnd new all
end_taken old new all None takes end = rw takes.1 (all, sym (append-nil all))
end_taken old new all (Some p) takes end = (end.0 ++ place_of p ∷ [], rw takes at end.1 ∙ sym (append_assoc end.0 (place_of p ∷ []) new))

-- a list that is the rest after an element is longer than that
pub shorter : {X : Type 0} (x : X) (xs rest : List X) → xs ≡ x ∷ rest → length rest < length xs
shorter x xs rest is = omega (arith, ap length is)

module _ (K V : Kind) (E : ℕ) (b : List ℕ) (at : ℕ) (w : Walk) (is : IsWalk (layout_of K V E) b at w) (end : ∥ IsEnd (walk_left (layout_of K V E) b w) (entry_places K V E b at) ∥₁) where
  -- so they are the last of the map's places
  pub last_places : last_of (w.behind + (w.end - w.next)) (entry_places K V E b at) ≡ walk_left (layout_of K V E) b w
  last_places =
      let left = walk_left (layout_of K V E) b w in
      let places = entry_places K V E b at in
      rw is.counted (places_had (last_of (length left) places) left (∥∥₁_map end (last_is_end left places)))

  -- as many as the walk counts
  pub last_count : length (last_of (w.behind + (w.end - w.next)) (entry_places K V E b at)) ≡ w.behind + (w.end - w.next)
  last_count = ap length last_places ∙ sym is.counted

  pub remaining_is : last_of (w.behind + (w.end - w.next)) (read_map K V E b at) ≡ map (entry_at K V E b) (walk_left (layout_of K V E) b w)
  remaining_is = last_mapped (entry_at K V E b) (w.behind + (w.end - w.next)) (entry_places K V E b at) ∙ ap (map (entry_at K V E b)) last_places

  -- and there are as many
  pub remaining_count : length (last_of (w.behind + (w.end - w.next)) (read_map K V E b at)) ≡ w.behind + (w.end - w.next)
  remaining_count = ap length remaining_is ∙ length-map (walk_left (layout_of K V E) b w) (entry_at K V E b) ∙ sym is.counted
