-- What the entries of a map show is what they mean, made shown.
use Rattle.std.proofs.Common.{◌≡◌, ℕ, ◌+◌, ◌-◌, List, [], ◌∷◌, length, map, drop, Option, Some, None, refl, sym, ap, ◌∙◌}
use Rattle.std.specs.Iterator.{YieldsFirst}
use Rattle.rkyv_btree_portable.specs.Kind.{Kind}
use Rattle.rkyv_btree_format.specs.Read.{entry_at, read_map}
use Rattle.rkyv_btree_portable.specs.declared.check.Portable
use Rattle.rkyv_btree_update.specs.Natives.{both, shown_at, read_shown}
use Rattle.rkyv_btree_update.specs.mirror.Merged.{ahead, shown_left}
use Rattle.rkyv_btree_view.specs.Iter.{last_of, entries_left}
use Rattle.rkyv_btree_view.specs.View.{view_entry}
use Rattle.rkyv_btree_view.specs.declared.iter.Iter.{Iter}
use Rattle.rkyv_btree_view.specs.declared.view.View.{View}
use Rattle.rkyv_btree_walk.specs.Bounds.{IsLastOf}
use Rattle.rkyv_btree_walk.specs.declared.archived_map.ArchivedMap
use Rattle.std.proofs.lemmas.List.{length-map, drop-map, map-append}

last_mapped : {X Y : Type 0} (f : X → Y) (n : ℕ) (xs : List X) → last_of n (map f xs) ≡ map f (last_of n xs)
last_mapped f n xs = ap (λ k. drop (k - n) (map f xs)) (length-map xs f) ∙ drop-map f (length xs - n) xs

module _ {T U : Type 0} (K V : Kind) (E : ℕ) (key_lent : List ℕ → ℕ → T) (value_lent : List ℕ → ℕ → U) (key_from : K.Value → T) (value_from : V.Value → U)
    (keys : (b : List ℕ) (at : ℕ) → key_lent b at ≡ key_from (K.read b at)) (values : (b : List ℕ) (at : ℕ) → value_lent b at ≡ value_from (V.read b at)) where
  all_native : (b : List ℕ) (places : List (ℕ × ℕ)) → map (shown_at K V E key_lent value_lent b) places ≡ map (both key_from value_from) (map (entry_at K V E b) places)
  all_native b [] = refl
  all_native b (e ∷ places) = rw (keys b _, values b _, all_native b places) refl

  -- all of a map
  pub natives_by_value : (b : List ℕ) (at : ℕ) → read_shown K V E key_lent value_lent b at ≡ map (both key_from value_from) (read_map K V E b at)
  natives_by_value b at = all_native b _

  -- as many
  pub shown_length : (b : List ℕ) (at : ℕ) → length (read_shown K V E key_lent value_lent b at) ≡ length (read_map K V E b at)
  shown_length b at = ap length (natives_by_value b at) ∙ length-map (read_map K V E b at) (both key_from value_from)

module _ {M K V T U : Type 0} {g : ArchivedMap.Ghosts M K V} {m : Portable.Ghosts M} {k : Portable.Ghosts K} {v : Portable.Ghosts V}
    (key_lent : List ℕ → ℕ → T) (value_lent : List ℕ → ℕ → U) (key_from : k.kind.Value → T) (value_from : v.kind.Value → U)
    (keys : (b : List ℕ) (at : ℕ) → key_lent b at ≡ key_from (k.kind.read b at)) (values : (b : List ℕ) (at : ℕ) → value_lent b at ≡ value_from (v.kind.read b at)) where
  pub left_native : (s : Iter M K V g m k v) → shown_left key_lent value_lent s ≡ map (both key_from value_from) (entries_left s)
  left_native s = ap (last_of (s.walk.behind + (s.walk.end - s.walk.next))) (natives_by_value k.kind v.kind g.E key_lent value_lent key_from value_from keys values s.buf.now s.pos) ∙ last_mapped (both key_from value_from) _ (read_map k.kind v.kind g.E s.buf.now s.pos)

  pub whole : (s : Iter M K V g m k v) (b : List ℕ) (at : ℕ) → entries_left s ≡ read_map k.kind v.kind g.E b at → shown_left key_lent value_lent s ≡ read_shown k.kind v.kind g.E key_lent value_lent b at
  whole s b at is = left_native s ∙ ap (map (both key_from value_from)) is ∙ sym (natives_by_value k.kind v.kind g.E key_lent value_lent key_from value_from keys values b at)

  pub taken : (s t : Iter M K V g m k v) (x : View K k × View V v) → entries_left s ≡ view_entry x ∷ entries_left t
      → shown_left key_lent value_lent s ≡ (key_lent x.0.buf.now x.0.pos, value_lent x.1.buf.now x.1.pos) ∷ shown_left key_lent value_lent t
  taken s t x step = rw (left_native s, step, left_native t, keys x.0.buf.now x.0.pos, values x.1.buf.now x.1.pos) refl

  pub same : (s t : Iter M K V g m k v) → entries_left s ≡ entries_left t → shown_left key_lent value_lent s ≡ shown_left key_lent value_lent t
  same s t is = left_native s ∙ ap (map (both key_from value_from)) is ∙ sym (left_native t)

  pub last : (s : Iter M K V g m k v) (n : ℕ) (x : View K k × View V v) → IsLastOf n (entries_left s) (view_entry x)
      → IsLastOf n (shown_left key_lent value_lent s) (key_lent x.0.buf.now x.0.pos, value_lent x.1.buf.now x.1.pos)
  last s n x (before, later, is, count) =
      let show = both key_from value_from in (
        map show before,
        map show later,
        left_native s ∙ ap (map show) is ∙ map-append show before (view_entry x ∷ later) ∙ rw (keys x.0.buf.now x.0.pos, values x.1.buf.now x.1.pos) refl,
        rw (length-map before show) count,
      )

  pub ended : (s : Iter M K V g m k v) → entries_left s ≡ [] → shown_left key_lent value_lent s ≡ []
  ended s none = rw (left_native s, none) refl

-- what was taken of a list, and the rest
pub ahead_of : {X S : Type 0} (rest : S → List X) (s : S) (first : Option X) (t : S) → YieldsFirst rest s first t → ahead first (rest t) ≡ rest s
ahead_of rest s None t h = sym h.0
ahead_of rest s (Some x) t h = sym h
