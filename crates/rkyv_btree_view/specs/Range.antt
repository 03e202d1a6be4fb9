-- What ranges of a map's entries are, by their bounds, and what they have left.
use Rattle.std.specs.Prelude.{◌≡◌, ℕ, List, map}
use Rattle.std.specs.Range.Bound.{bound_map}
use Rattle.std.specs.declared.cmp.Ordering.{Ordering}
use Rattle.std.specs.declared.ops.Bound.{Bound}
use Rattle.rkyv_btree_portable.specs.Kind.{Kind}
use Rattle.rkyv_btree_portable.specs.declared.check.Portable
use Rattle.rkyv_btree_walk.specs.declared.archived_map.ArchivedMap
use Rattle.rkyv_btree_format.specs.Read.{entry_at}
use Rattle.rkyv_btree_walk.specs.Remaining.{places_between}
use Rattle.rkyv_btree_view.specs.declared.range.Range.{Range}

-- the entries that a range has left, in order: those of the map from the first that its walk notes on, up to its stop
abbrev pub range_left : {M K V : Type 0} {g : ArchivedMap.Ghosts M K V} {m : Portable.Ghosts M} {k : Portable.Ghosts K}
    {v : Portable.Ghosts V} → Range M K V g m k v → List (k.kind.Value × v.kind.Value)
range_left {g} {k} {v} s = map (entry_at k.kind v.kind g.E s.buf.now) (places_between k.kind v.kind g.E s.buf.now s.pos s.walk)

-- what holds of two bounds of native values, which are compared with what stands at a position of a buffer
abbrev pub ByNativeBounds : {N : Type 0} (K : Kind) → (N → List ℕ → ℕ → Ordering) → Bound N → Bound N
    → (Bound (K.Value → Ordering) → Bound (K.Value → Ordering) → Type 0) → Type 0
ByNativeBounds {N} K compared_at low high Holds =
    (compared : N → K.Value → Ordering) → ((n : N) (b : List ℕ) (at : ℕ) → compared_at n b at ≡ compared n (K.read b at))
    → Holds (bound_map compared low) (bound_map compared high)
