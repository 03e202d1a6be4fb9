-- How many bytes an archive has whose tree was written of native entries.
use Rattle.std.proofs.Common.{◌≡◌, ℕ, ◌+◌, ◌-◌, ◌*◌, ◌≤◌, ◌∙◌, min, List, [], ◌∷◌, length, map, refl, sym, ap, arith}
use Rattle.std.proofs.lemmas.List.{length-append, length-map}
use Rattle.std.proofs.Math.Nat.{mul-le-mul_right, le-max_left}
use Rattle.rkyv_btree_format.specs.Layout.{NodeLayout, align, node_align, len_at, leaf_size, inner_size}
use Rattle.rkyv_btree_portable.specs.Rounding.{IsAlignment, one, four, eight}
use Rattle.rkyv_btree_portable.specs.Standing.{IsAligned}
use Rattle.rkyv_btree_portable.specs.laws.Rounding.{alignment_positive, max_alignment, alignment_divides, aligned_through, round_up-aligned}
use Rattle.rkyv_btree_portable.proofs.Rounds.{round_up-multiple}
use Rattle.rkyv_btree_writer.specs.TextArchival.{text_writes}
use Rattle.rkyv_btree_writer.specs.Writing.{Write, appended, position, last_end}
use Rattle.rkyv_btree_writing_laws.specs.Whole.{fresh}
use Rattle.rkyv_btree_ffi.specs.Items.{Native, Resolver, archival_of, kind_at, native_value}
use Rattle.rkyv_btree_ffi.specs.Lengths.{layout, node_count, least_len, most_len, text_len, texts_len}
use Rattle.rkyv_btree_ffi.specs.declared.map_type.ItemType.{ItemType}
use Rattle.rkyv_btree_ffi.specs.declared.map_type.ItemType.TheVariants.{U32, U64, I64, Text, Bytes, Empty}
use Rattle.rkyv_btree_ffi.specs.declared.map_type.MapType.{MapType}
use Rattle.rkyv_btree_ffi.specs.mirror.Natives.{HasTree, native_meaning}
use Rattle.rkyv_btree_ffi.proofs.Sized.{built_took, texts_of}

-- a native value writes its text
text_written : (text : List ℕ) (writes : List Write) → writes ≡ text_writes text → length (appended writes) ≡ length text
text_written text writes is = ap (λ (ws : List Write). length (appended ws)) is ∙ omega (arith, length-append text [])

written : (i : ItemType) (x : Native i) (from : ℕ) (writes : List Write) (r : Resolver i) → (archival_of i).Writes x from writes r → length (appended writes) ≡ text_len i (native_value i x)
written U32 x from writes r h = ap (λ (ws : List Write). length (appended ws)) h
written U64 x from writes r h = ap (λ (ws : List Write). length (appended ws)) h
written I64 x from writes r h = ap (λ (ws : List Write). length (appended ws)) h
written Text x from writes r h = text_written x.now writes h.1
written Bytes x from writes r h = text_written x.now writes h.1
written Empty x from writes r h = ap (λ (ws : List Write). length (appended ws)) h

item_alignment : (i : ItemType) → IsAlignment (kind_at i).align
item_alignment U32 = four
item_alignment U64 = eight
item_alignment I64 = eight
item_alignment Text = four
item_alignment Bytes = four
item_alignment Empty = one

node_alignment : (t : MapType) → IsAlignment (node_align (layout t))
unfolding node_align
node_alignment t = max_alignment one (max_alignment (item_alignment t.key) (item_alignment t.value))

pub alignment : (t : MapType) → IsAlignment (align (layout t))
unfolding align
alignment t = max_alignment four (node_alignment t)

four_divides : (t : MapType) → IsAligned 4 (align (layout t))
unfolding align
four_divides t = alignment_divides four (max_alignment four (node_alignment t)) (le-max_left 4 (node_align (layout t)))

leaf_aligned : (s : NodeLayout) → IsAligned (align s) (leaf_size s)
unfolding leaf_size
leaf_aligned s = round_up-aligned (len_at s + 4) (align s)

inner_aligned : (s : NodeLayout) → IsAligned (align s) (inner_size s)
unfolding inner_size
inner_aligned s = round_up-aligned (len_at s + 4 * s.E + 4) (align s)

module _ (t : MapType) where
  abbrev meaning : List (Native t.key × Native t.value) → List ((kind_at t.key).Value × (kind_at t.value).Value)
  meaning xs = map (native_meaning (archival_of t.key) (archival_of t.value)) xs

  abbrev native_texts : List (Native t.key × Native t.value) → ℕ
  native_texts = texts_of (archival_of t.key) (archival_of t.value) (λ x. text_len t.key (native_value t.key x)) (λ x. text_len t.value (native_value t.value x)) (written t.key) (written t.value)

  texts_are : (xs : List (Native t.key × Native t.value)) → native_texts xs ≡ texts_len t (meaning xs)
  texts_are [] = refl
  texts_are (x ∷ xs) = ap (λ n. text_len t.key (native_value t.key x.0) + text_len t.value (native_value t.value x.1) + n) (texts_are xs)

  -- an archive has as many bytes as its entries take
  pub between : (natives : List (Native t.key × Native t.value)) (len : ℕ) → HasTree (archival_of t.key) (archival_of t.value) (layout t) natives len → len ≤ last_end
      → (least_len t (length (meaning natives)) (texts_len t (meaning natives)) ≤ len) × (len ≤ most_len t (length (meaning natives)) (texts_len t (meaning natives)))
  between natives len h short =
      let s = layout t in
      let some = alignment_positive (alignment t) in
      let took = built_took (archival_of t.key) (archival_of t.value) (λ x. text_len t.key (native_value t.key x)) (λ x. text_len t.value (native_value t.value x)) (written t.key) (written t.value) s some (leaf_aligned s) (inner_aligned s) (omega arith) fresh natives h.built.place h.left (omega arith) h.built.written in
      let end = round_up-multiple (position h.left) 4 (omega arith) (aligned_through 4 (align s) (position h.left) (four_divides t) took.aligned) in
      let count = length-map natives (native_meaning (archival_of t.key) (archival_of t.value)) in
      let texts = texts_are natives in
      let zeros : took.zeros ≤ min (node_count (length natives)) (native_texts natives) * (align s - 1) = omega (arith, took.short, mul-le-mul_right (align s - 1) (fewer took.with_texts (node_count (length natives)) (native_texts natives) took.few took.some)) in
      rw count rw (sym texts) (omega (arith, h.long, end, took.is), omega (arith, h.long, end, took.is, zeros, short))
    where
      fewer : (w m n : ℕ) → w ≤ m → w ≤ n → w ≤ min m n
      fewer w m n h g = omega arith
