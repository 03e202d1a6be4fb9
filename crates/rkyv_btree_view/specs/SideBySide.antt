-- Searches for many keys, as the iterator over their results keeps them.
use Rattle.std.specs.Prelude.{◌≡◌, ℕ, ◌+◌, ◌<◌, List, Some, slice_get}
use Rattle.std.specs.Option.{ForSome}
use Rattle.std.specs.declared.cmp.Ordering.{Ordering}
use Rattle.rkyv_btree_portable.specs.Kind.{Kind}
use Rattle.rkyv_btree_walk.specs.Ends.{end_of}
use Rattle.rkyv_btree_walk.specs.declared.many.Way.{Way}
use Rattle.rkyv_btree_walk.specs.mirror.Many.{way_at}
use Rattle.rkyv_btree_walk.specs.mirror.Node.{RunStands}
use Rattle.rkyv_btree_view.specs.ManyLookups.{place_of_key}

module _ {N : Type 0} (K V : Kind) (E : ℕ) (compared_at : N → List ℕ → ℕ → Ordering) (b : List ℕ) (at : ℕ) where
  -- a search for the key has come to the entry that it finds, or to none
  pub record IsWayOf (key : N) (way : Way) : Type 0 where
    pub stands : ForSome (end_of way) (λ e. RunStands K V E b e.0 e.1 (e.1 + 1))
    pub found : end_of way ≡ place_of_key K V E compared_at b at key

  -- the ways are those of these keys, of which there may be more than sixteen
  abbrev pub AreWaysOf : List N → List Way → Type 0
  AreWaysOf keys ways = (i : ℕ) (key : N) → i < 16 → slice_get keys i ≡ Some key → IsWayOf key (way_at ways i)
