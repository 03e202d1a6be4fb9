-- Keys and values lie in a node's bytes.
use Rattle.std.proofs.Common.{◌≡◌, ℕ, ◌+◌, ◌*◌, ◌≤◌, ◌<◌, IsTrue, arith}
use Rattle.rkyv_btree_format.proofs.Sizes.{room_of}
use Rattle.rkyv_btree_portable.specs.Kind.{Kind, IsLawful}
use Rattle.rkyv_btree_format.specs.Layout.{layout_of, are_fitting, leaf_size, key_at, value_at}

one_more : (i n : ℕ) → (i + 1) * n ≡ i * n + n
one_more i n = grind arith

module _ (K V : Kind) (E : ℕ) (k : IsLawful K) (v : IsLawful V) (fits : IsTrue (are_fitting K V E)) (i : ℕ) (low : i < E) where
  pub key_inside : key_at (layout_of K V E) i + K.size ≤ leaf_size (layout_of K V E)
  key_inside =
      let room = room_of K V E k v fits in
      let parts = room.parts in
      let row = room.key_at (i + 1) (omega arith) in
      omega (arith, one_more i K.size, row, parts.keys, parts.values, parts.entries, parts.len)

  pub value_inside : value_at (layout_of K V E) i + V.size ≤ leaf_size (layout_of K V E)
  value_inside =
      let room = room_of K V E k v fits in
      let parts = room.parts in
      let row = room.value_at (i + 1) (omega arith) in
      omega (arith, one_more i V.size, row, parts.values, parts.entries, parts.len)
