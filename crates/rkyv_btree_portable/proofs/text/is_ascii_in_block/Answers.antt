-- Bytes of one block, in which the lanes that hold a byte past 127 are marked.
use Rattle.std.specs.Prelude.{◌≡◌, ℕ, ◌+◌, ◌<◌, ◌≤◌, ◌^◌, ◌%◌, Bool, false, List, length, map, drop}
use Rattle.std.specs.Str.{IsAscii}
use Rattle.std.proofs.Common.{leb, cond, replicate, get_or, sym, ap, subst, ◌∙◌, arith, w8, inl, inr}
use Rattle.std.proofs.lemmas.Bool.{cases_eq, leb-false, leb-true, cases_lt}
use Rattle.std.proofs.lemmas.List.{length-map, length-take, get_or_past, get_or-take, get_or-drop}
use Rattle.std.proofs.lemmas.Simd.{tops_compared, zip2_splat_left, mask_l-mod, length-chunk, none_from_empty_mask, run_in_chunk_fails, trailing_mask_l}
use lib.Count.{count_trailing_zeros}
use lib.Lanes.{chunk, zip2, mask_l, top}
use Rattle.rkyv_btree_portable.specs.Bytes.{bytes_at}
use Rattle.rkyv_btree_portable.proofs.text.is_ascii_in_block.Goals as goal

module _ (xs : List ℕ) (i n : ℕ) (room : i + 32 ≤ length xs) where
  abbrev is_past : ℕ → Bool
  is_past = leb 128

  long : length (chunk i 32 xs) ≡ 32
  long = length-chunk i 32 xs room

  -- the mask of the comparison of all lanes with 128
  marked : mask_l (map (top 7) (zip2 (λ a b. cond (leb a b) 255 0) (replicate 32 128) (chunk i 32 xs))) % 2 ^ 64 ≡ mask_l (map is_past (chunk i 32 xs))
  marked =
      ap (λ ms. mask_l ms % 2 ^ 64) (tops_compared w8 leb (replicate 32 128) (chunk i 32 xs) ∙ zip2_splat_left leb 128 32 (chunk i 32 xs) long)
      ∙ mask_l-mod (map is_past (chunk i 32 xs)) 64 (omega (arith, length-map (chunk i 32 xs) is_past, long))

  -- the bytes before the lowest mark
  before : n ≤ 32 → n ≤ count_trailing_zeros 64 (mask_l (map is_past (chunk i 32 xs))) → (k : ℕ) → i ≤ k → k < i + n → is_past (get_or xs k 0) ≡ false
  before few clear k from to =
      elim (cases_eq (mask_l (map is_past (chunk i 32 xs))) 0) [
        | inl none ↦ none_from_empty_mask is_past xs i 32 0 room none k from (omega arith)
        | inr some ↦
            let counted = trailing_mask_l is_past 64 (chunk i 32 xs) (omega (arith, long)) (omega arith) in
            run_in_chunk_fails is_past xs i 32 (count_trailing_zeros 64 (mask_l (map is_past (chunk i 32 xs)))) 0 room counted k from (omega arith)
      ]

  unmarked_is_ascii : n ≤ 32 → n ≤ count_trailing_zeros 64 (mask_l (map is_past (chunk i 32 xs))) → IsAscii (bytes_at xs i n)
  unmarked_is_ascii few clear k =
      elim (cases_lt k n) [
        | inl early ↦
            let at = get_or-take n (drop i xs) k 0 early ∙ get_or-drop i xs k 0 in
            subst (λ b. b < 128) (sym at) (leb-false 128 (get_or xs (i + k) 0) (before few clear (i + k) (omega arith) (omega arith)))
        | inr late ↦ subst (λ b. b < 128) (sym (get_or_past (bytes_at xs i n) k 0 (omega (arith, length-take n (drop i xs))))) (omega arith)
      ]

pub returns : goal.returns
returns c e =
    let buf = c.args.buf.now in
    let len = c.args.len in
    let mask = marked buf c.args.lo len (omega arith) in
    unmarked_is_ascii buf c.args.lo len (omega arith) (omega arith) (subst (λ m. len ≤ count_trailing_zeros 64 m) mask (leb-true len _ e))
