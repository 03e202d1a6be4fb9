-- How long an archive is at most, by the sizes of its nodes. These mirror the code.
use Rattle.std.specs.Prelude.{◌≡◌, ℕ, ◌+◌, ◌-◌, ◌*◌, ◌≤◌, ◌<◌, ◌⊎◌, min, Result, Ok, Err}
use Rattle.rkyv_btree_format.specs.Layout.{NodeLayout, align, leaf_size, inner_size}
use Rattle.rkyv_btree_writer.specs.Writing.{last_end}
use Rattle.rkyv_btree_ffi.specs.Lengths.{node_count, inner_count}
use Rattle.rkyv_btree_ffi.specs.declared.bound.NodeSizes.{NodeSizes}

pub record AreSizes (s : NodeLayout) (sizes : NodeSizes) : Type 0 where
  pub leaf : sizes.leaf ≡ leaf_size s
  pub inner : sizes.inner ≡ inner_size s
  pub align : sizes.align ≡ align s
  pub order : sizes.leaf ≤ sizes.inner
  pub some : 1 ≤ sizes.align
  pub few : sizes.align ≤ 16

module _ (sizes : NodeSizes) (n texts : ℕ) where
  abbrev pub least : ℕ
  least = texts + (inner_count n * sizes.inner + (node_count n - inner_count n) * sizes.leaf) + 8

  -- the code of too many entries, or of too many bytes
  abbrev pub IsTooMany : ℕ → Type 0
  IsTooMany code = ((code ≡ 32) × (last_end < n)) ⊎ ((code ≡ 33) × (n ≤ last_end) × (last_end < least))

  abbrev pub IsLeast : Result ℕ ℕ → Type 0
  IsLeast (Ok len) = (n ≤ last_end) × (least ≤ last_end) × (len ≡ least)
  IsLeast (Err code) = IsTooMany code

  abbrev pub IsMost : Result ℕ ℕ → Type 0
  IsMost (Ok len) = (n ≤ last_end) × (least ≤ last_end) × (len ≡ min (least + min (node_count n) texts * (sizes.align - 1)) last_end)
  IsMost (Err code) = IsTooMany code
