-- Where the parts of a node stand, counted from its first byte, which is its kind.
use Rattle.std.specs.Prelude.{ℕ, ◌+◌, ◌*◌, ◌&&◌, max, nat_le, Bool}
use Rattle.rkyv_btree_portable.specs.Kind.{Kind}
use Rattle.rkyv_btree_portable.specs.Rounding.{round_up}

-- what the layout of nodes depends on
pub record NodeLayout : Type 0 where
  pub key_size : ℕ
  pub key_align : ℕ
  pub value_size : ℕ
  pub value_align : ℕ
  pub E : ℕ

abbrev pub layout_of : Kind → Kind → ℕ → NodeLayout
layout_of K V E = record { key_size = K.size; key_align = K.align; value_size = V.size; value_align = V.align; E = E }

unfoldable pub keys_at : NodeLayout → ℕ
keys_at s = round_up 1 s.key_align

unfoldable pub values_at : NodeLayout → ℕ
values_at s = round_up (keys_at s + s.E * s.key_size) s.value_align

abbrev pub key_at : NodeLayout → ℕ → ℕ
key_at s i = keys_at s + i * s.key_size

abbrev pub value_at : NodeLayout → ℕ → ℕ
value_at s i = values_at s + i * s.value_size

-- the alignment of a node's part for kind, keys and values
unfoldable pub node_align : NodeLayout → ℕ
node_align s = max 1 (max s.key_align s.value_align)

-- the size of a node's part for kind, keys and values
unfoldable pub node_size : NodeLayout → ℕ
node_size s = round_up (values_at s + s.E * s.value_size) (node_align s)

-- the alignment of leaves and inner nodes
unfoldable pub align : NodeLayout → ℕ
align s = max 4 (node_align s)

-- a leaf's length, and an inner node's first pointer
unfoldable pub len_at : NodeLayout → ℕ
len_at s = round_up (node_size s) 4

unfoldable pub leaf_size : NodeLayout → ℕ
leaf_size s = round_up (len_at s + 4) (align s)

-- the pointers of an inner node: those before its entries, and the one after the last
abbrev pub pointer_at : NodeLayout → ℕ → ℕ
pointer_at s i = len_at s + 4 * i

unfoldable pub inner_size : NodeLayout → ℕ
inner_size s = round_up (len_at s + 4 * s.E + 4) (align s)

-- the keys and values fit, and so do nodes, with room for an entry: what the caller of each call over nodes owes
unfoldable pub are_fitting : Kind → Kind → ℕ → Bool
are_fitting K V E = K.is_fitting && V.is_fitting && nat_le 1 E && nat_le (inner_size (layout_of K V E)) 4294967295
