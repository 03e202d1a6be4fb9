-- How a node is read: its kind, its entries, and where its pointers lead.
use Rattle.std.specs.Prelude.{ℕ, ◌+◌, List, Option, Some, None, Bool, ℤ, pos, negsuc, slice_index, nat_eq, if◌then◌else◌}
use Rattle.rkyv_btree_portable.specs.Bytes.{number_at, target_at}
use Rattle.rkyv_btree_format.specs.Layout.{NodeLayout, len_at, pointer_at}

-- a place in a buffer, where it isn't before its start
abbrev pub natural : Option ℤ → Option ℕ
natural None = None
natural (Some (negsuc n)) = None
natural (Some (pos q)) = Some q

module _ (s : NodeLayout) (b : List ℕ) where
  -- whether the node at p is a leaf
  abbrev pub is_leaf : ℕ → Bool
  is_leaf p = nat_eq (slice_index b p) 0

  -- how many entries it has
  abbrev pub entry_count : ℕ → ℕ
  entry_count p = if is_leaf p then number_at b (p + len_at s) 4 else s.E

  -- its child number i, which is before entry i, or after the last one: a leaf has none
  abbrev pub child_place : ℕ → ℕ → Option ℕ
  child_place p i = if is_leaf p then None else natural (target_at b (p + pointer_at s i))
