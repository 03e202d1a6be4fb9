-- Keys, values and pointers of an aligned node are aligned.
use Rattle.std.proofs.Common.{ℕ, ◌+◌, max}
use Rattle.rkyv_btree_portable.specs.Kind.{Kind, IsLawful}
use Rattle.rkyv_btree_format.specs.Layout.{layout_of, keys_at, values_at, key_at, value_at, node_align, align}
use Rattle.rkyv_btree_portable.specs.Rounding.{IsAlignment, one, four}
use Rattle.rkyv_btree_portable.specs.laws.Rounding.{max_alignment, aligned_left, aligned_right, aligned_add, aligned_mul, round_up-aligned}
use Rattle.rkyv_btree_portable.specs.Standing.{IsAligned}

module _ (K V : Kind) (E : ℕ) (k : IsLawful K) (v : IsLawful V) where
  parts : IsAlignment (max K.align V.align)
  parts = max_alignment k.alignment v.alignment

  node : IsAlignment (node_align (layout_of K V E))
  unfolding node_align
  node = max_alignment one parts

  pub alignment : IsAlignment (align (layout_of K V E))
  unfolding align
  alignment = max_alignment four node

  entries_aligned : (p : ℕ) → IsAligned (align (layout_of K V E)) p → IsAligned (max K.align V.align) p
  unfolding align node_align
  entries_aligned p h = aligned_right p one parts (aligned_right p four node h)

  pub key_aligned : (p i : ℕ) → IsAligned (align (layout_of K V E)) p → IsAligned K.align (p + key_at (layout_of K V E) i)
  unfolding keys_at
  key_aligned p i h =
      aligned_add K.align p _ (aligned_left p k.alignment v.alignment (entries_aligned p h))
      (aligned_add K.align _ _ (round_up-aligned 1 K.align) (aligned_mul K.align K.size i k.whole))

  pub value_aligned : (p i : ℕ) → IsAligned (align (layout_of K V E)) p → IsAligned V.align (p + value_at (layout_of K V E) i)
  unfolding values_at
  value_aligned p i h =
      aligned_add V.align p _ (aligned_right p k.alignment v.alignment (entries_aligned p h))
      (aligned_add V.align _ _ (round_up-aligned _ V.align) (aligned_mul V.align V.size i v.whole))
