-- That a value of a map shares no byte with another value, with a key, or with what a walk reads of an entry's node.
use Rattle.std.specs.Prelude.{◌≡◌, ◌≢◌, ℕ, ◌+◌, List, Some, slice_get}
use Rattle.rkyv_btree_verify.specs.Claims.{Range, Apart}
use Rattle.rkyv_btree_portable.specs.Kind.{Kind}
use Rattle.rkyv_btree_format.specs.Layout.{layout_of, len_at}
use Rattle.rkyv_btree_format.specs.Spells.{Accepted}
use Rattle.rkyv_btree_seal.specs.Put.{key_place, value_place}
use Rattle.rkyv_btree_walk.specs.EntryPlaces.{entry_places, size_at}

module _ (K V : Kind) (E : ℕ) where
  -- the own bytes of an entry's key, and of its value
  abbrev pub key_range : ℕ × ℕ → Range
  key_range e = record { first = key_place K V E e; past = key_place K V E e + K.size }

  abbrev pub value_range : ℕ × ℕ → Range
  value_range e = record { first = value_place K V E e; past = value_place K V E e + V.size }

  -- the kind of an entry's node, and its length or its pointers
  abbrev pub kind_range : ℕ × ℕ → Range
  kind_range e = record { first = e.0; past = e.0 + 1 }

  abbrev pub tail_range : List ℕ → ℕ × ℕ → Range
  tail_range b e = record { first = e.0 + len_at (layout_of K V E); past = e.0 + size_at (layout_of K V E) b e.0 }

  -- the value of entry e, number i, is apart from all that entry f, number j, has: from its value where it is another
  pub record ValueIsApart (b : List ℕ) (i j : ℕ) (e f : ℕ × ℕ) : Type 0 where
    pub value : i ≢ j → Apart (value_range e) (value_range f)
    pub key : Apart (value_range e) (key_range f)
    pub kind : Apart (value_range e) (kind_range f)
    pub tail : Apart (value_range e) (tail_range b f)

-- so of any two entries of each map
abbrev pub ValuesAreApart : Kind → Kind → ℕ → Type 0
ValuesAreApart K V E =
    (b : List ℕ) (lo hi at left : ℕ) (m : List (K.Value × V.Value)) → Accepted K V E b lo hi at left m
    → (i j : ℕ) (e f : ℕ × ℕ) → slice_get (entry_places K V E b at) i ≡ Some e → slice_get (entry_places K V E b at) j ≡ Some f → ValueIsApart K V E b i j e f
