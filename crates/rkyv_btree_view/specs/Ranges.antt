-- What ranges promise of the entries, or of the keys, that they have left.
use Rattle.std.specs.Prelude.{◌≡◌, List}
use Rattle.std.specs.Iterator.{IsFinite}
use Rattle.std.specs.List.Sorted.{IsStrictlySortedBy}
use Rattle.std.specs.declared.cmp.Ordering.{Ordering}
use Rattle.std.specs.declared.iter.Iterator
use Rattle.std.specs.declared.ops.Bound.{Bound}
use Rattle.rkyv_btree_format.specs.Increasing.{Increasing}
use Rattle.rkyv_btree_walk.specs.Bounds.{IsRun, IsWithin, entries_within, keys_within}
use Rattle.rkyv_btree_view.specs.Items.{ShowsAll}
use Rattle.rkyv_btree_view.specs.Set.{AreKeysWithin}

-- a range yields what it has left, and that is a contiguous run of a list
pub record IsRange {S A Y : Type 0} (iterator : Iterator.Ghosts S A) (shows : A → Y) (range : S) (left all : List Y) : Type 0 where
  pub yields : ShowsAll iterator.next_gives shows range left
  pub ends : IsFinite (iterator.remaining range)
  pub run : IsRun left all

module _ {A : Type 0} (order : A → A → Ordering) (low high : Bound (A → Ordering)) where
  -- the entries that are left are those of a list that are within two bounds
  pub record IsBetween {B : Type 0} (all left : List (A × B)) : Type 0 where
    -- if the keys increase
    pub sorted : Increasing order all → left ≡ entries_within low high all
    -- and if the entries are ordered for both bounds
    pub within : IsWithin low high all left

  -- the same of keys
  pub record AreKeysBetween (all left : List A) : Type 0 where
    pub sorted : IsStrictlySortedBy order all → left ≡ keys_within low high all
    pub within : AreKeysWithin low high all left
