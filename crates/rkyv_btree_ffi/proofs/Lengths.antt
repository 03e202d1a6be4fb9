-- How long archives are at most: of more entries and of more bytes no less.
use Rattle.std.proofs.Common.{◌≡◌, ℕ, ◌+◌, ◌-◌, ◌*◌, ◌/◌, ◌%◌, ◌≤◌, min, sym, ap, arith}
use Rattle.std.proofs.Math.Nat.{mul-le-mul_right}
use Rattle.rkyv_btree_format.specs.Layout.{NodeLayout, align, leaf_size, inner_size}
use Rattle.rkyv_btree_writer.specs.Writing.{last_end}
use Rattle.rkyv_btree_ffi.specs.Lengths.{node_count, inner_count}
use Rattle.rkyv_btree_ffi.specs.declared.bound.NodeSizes.{NodeSizes}
use Rattle.rkyv_btree_ffi.specs.mirror.Bounds.{AreSizes}

-- there are no more inner nodes than nodes, and more entries have no fewer of both
pub inners_within : (n : ℕ) → inner_count n ≤ node_count n
inners_within n = within (node_count n)
  where
    within : (k : ℕ) → (k - 1) / 6 + min 1 ((k - 1) % 6) ≤ k
    within k = omega arith

pub node_count_mono : (m n : ℕ) → m ≤ n → node_count m ≤ node_count n
node_count_mono m n h = omega arith

pub inner_count_mono : (m n : ℕ) → m ≤ n → inner_count m ≤ inner_count n
inner_count_mono m n h = mono (node_count m) (node_count n) (node_count_mono m n h)
  where
    mono : (j k : ℕ) → j ≤ k → (j - 1) / 6 + min 1 ((j - 1) % 6) ≤ (k - 1) / 6 + min 1 ((k - 1) % 6)
    mono j k h = omega arith

-- the bytes of nodes: each has at least those of a leaf
by_leaves : (i k leaf more : ℕ) → i ≤ k → i * (leaf + more) + (k - i) * leaf ≡ k * leaf + i * more
by_leaves i k leaf more h = by_rest (k - i) (omega arith)
  where
    by_rest : (d : ℕ) → k ≡ i + d → i * (leaf + more) + d * leaf ≡ k * leaf + i * more
    by_rest d is = omega (arith, ap (λ z. z * leaf) is)

-- the bytes of nodes, by the sizes of both
abbrev pub nodes_len : ℕ → ℕ → ℕ → ℕ
nodes_len leaf inner n = inner_count n * inner + (node_count n - inner_count n) * leaf

pub nodes_len_mono : (leaf inner m n : ℕ) → leaf ≤ inner → m ≤ n → nodes_len leaf inner m ≤ nodes_len leaf inner n
nodes_len_mono leaf inner m n order h = rw order_is at (by_more (inner - leaf))
  where
    order_is : leaf + (inner - leaf) ≡ inner
    order_is = omega arith

    by_more : (more : ℕ) → nodes_len leaf (leaf + more) m ≤ nodes_len leaf (leaf + more) n
    by_more more =
        omega (
          arith,
          by_leaves (inner_count m) (node_count m) leaf more (inners_within m),
          by_leaves (inner_count n) (node_count n) leaf more (inners_within n),
          mul-le-mul_right leaf (node_count_mono m n h),
          mul-le-mul_right more (inner_count_mono m n h),
        )

-- the most bytes, by the sizes of nodes and their alignment
abbrev pub most : ℕ → ℕ → ℕ → ℕ → ℕ → ℕ
most leaf inner align n texts = min (texts + nodes_len leaf inner n + 8 + min (node_count n) texts * (align - 1)) last_end

pub most_mono : (leaf inner align m n texts more : ℕ) → leaf ≤ inner → m ≤ n → texts ≤ more → most leaf inner align m texts ≤ most leaf inner align n more
most_mono leaf inner align m n texts more order h g =
    let fewer : min (node_count m) texts ≤ min (node_count n) more = omega (arith, node_count_mono m n h) in
    let zeros = mul-le-mul_right (align - 1) fewer in
    let nodes = nodes_len_mono leaf inner m n order h in
    at_most (texts + nodes_len leaf inner m + 8 + min (node_count m) texts * (align - 1)) (more + nodes_len leaf inner n + 8 + min (node_count n) more * (align - 1)) (omega (arith, zeros, nodes))
  where
    at_most : (x y : ℕ) → x ≤ y → min x last_end ≤ min y last_end
    at_most x y h = omega arith

-- what is enough for so many entries and bytes is enough for fewer
pub enough : (s : NodeLayout) (sizes : NodeSizes) → AreSizes s sizes → (m n texts more : ℕ) → m ≤ n → texts ≤ more → most (leaf_size s) (inner_size s) (align s) m texts ≤ most sizes.leaf sizes.inner sizes.align n more
enough s sizes are m n texts more h g = rw (sym are.leaf) rw (sym are.inner) rw (sym are.align) (most_mono sizes.leaf sizes.inner sizes.align m n texts more are.order h g)
