-- Parts of the bytes that a buffer holds.
use Rattle.std.proofs.Common.{◌≡◌, ℕ, ◌+◌, ◌-◌, ◌<◌, ◌≤◌, List, ◌∷◌, ◌++◌, length, get_or, take, drop, refl, ap, sym, ◌∙◌, arith, slice_index}
use Rattle.std.proofs.Math.Seq.{take-append_seam}
use Rattle.std.proofs.lemmas.List.{take-take, get_or-take, get_or-drop, drop-drop, drop-take, drop_at, append_assoc, length-append, length-replicate, take-replicate, drop-replicate}
use Rattle.rkyv_btree_portable.specs.Bytes.{Holds, bytes_at, zeros, filled}

pub Holds-front : (b : List ℕ) (w : ℕ) (xs ys : List ℕ) → Holds b w (xs ++ ys) → Holds b w xs
Holds-front b w xs ys h =
    let short : length xs ≤ length (xs ++ ys) = omega (arith, length-append xs ys) in
    sym (take-take (length xs) (length (xs ++ ys)) (drop w b) short) ∙ (ap (take (length xs)) h ∙ take-append_seam xs ys)

pub Holds-back : (b : List ℕ) (w : ℕ) (xs ys : List ℕ) → Holds b w (xs ++ ys) → Holds b (w + length xs) ys
Holds-back b w xs ys h =
    let e : take (length xs + length ys) (drop w b) ≡ xs ++ ys = ap (λ n. take n (drop w b)) (sym (length-append xs ys)) ∙ h in
    ap (take (length ys)) (sym (drop-drop (length xs) w b)) ∙ (sym (drop-take (length xs) (length ys) (drop w b)) ∙ (ap (drop (length xs)) e ∙ drop_at xs ys (length xs) refl))

pub Holds-at : (b : List ℕ) (w n : ℕ) (bs : List ℕ) → w ≡ n → Holds b w bs → Holds b n bs
Holds-at b w n bs e h = ap (λ m. bytes_at b m (length bs)) (sym e) ∙ h

-- the first byte
pub first-held : (b : List ℕ) (w x : ℕ) (xs : List ℕ) → Holds b w (x ∷ xs) → slice_index b w ≡ x
first-held b w x xs h =
    let at_start : get_or (take (length (x ∷ xs)) (drop w b)) 0 0 ≡ x = ap (λ ys. get_or ys 0 0) h in
    let some : 0 < length (x ∷ xs) = omega arith in
    let there : get_or (drop w b) 0 0 ≡ x = sym (get_or-take (length (x ∷ xs)) (drop w b) 0 0 some) ∙ at_start in
    ap (λ i. get_or b i 0) (omega arith) ∙ (sym (get_or-drop w b 0 0) ∙ there)

pub length-zeros : (n : ℕ) → length (zeros n) ≡ n
length-zeros n = length-replicate {A = ℕ} n 0

pub length-filled : (bytes : List ℕ) (len : ℕ) → length bytes ≤ len → length (filled bytes len) ≡ len
length-filled bytes len h = omega (arith, length-append bytes (zeros (len - length bytes)), length-zeros (len - length bytes))

-- bytes, and after them others at a place, with zeros after both
module _ (a tail : List ℕ) (n size : ℕ) (first : length a ≤ n) (room : n + length tail ≤ size) where
  pub tail_length : length (filled (filled a n ++ tail) size) ≡ size
  tail_length = length-filled (filled a n ++ tail) size (omega (arith, length-append (filled a n) tail, length-filled a n first))

  pub tail_held : (b : List ℕ) (p : ℕ) → Holds b p (filled (filled a n ++ tail) size) → Holds b p a × Holds b (p + n) tail
  tail_held b p h =
      let both = Holds-front b p (filled a n ++ tail) (zeros (size - length (filled a n ++ tail))) h in (
        Holds-front b p a (zeros (n - length a)) (Holds-front b p (filled a n) tail both),
        Holds-at b (p + length (filled a n)) (p + n) tail (omega (arith, length-filled a n first)) (Holds-back b p (filled a n) tail both),
      )

parts_filled : (own own2 : List ℕ) (k v offset size : ℕ) → length own ≡ k → length own2 ≡ v → k ≤ offset → offset + v ≤ size → (own ++ drop k (take offset (zeros size))) ++ (own2 ++ drop v (drop offset (zeros size))) ≡ filled (filled own offset ++ own2) size
parts_filled own own2 k v offset size ek ev front back =
    let first : drop k (take offset (zeros size)) ≡ zeros (offset - length own) = ap (drop k) (take-replicate {X = ℕ} offset size 0 (omega arith)) ∙ (drop-replicate {X = ℕ} k offset 0 ∙ ap (λ n. zeros (offset - n)) (sym ek)) in
    let len : length (filled own offset ++ own2) ≡ offset + v = omega (arith, length-append (filled own offset) own2, length-filled own offset (omega arith)) in
    let second : drop v (drop offset (zeros size)) ≡ zeros (size - length (filled own offset ++ own2)) = ap (drop v) (drop-replicate {X = ℕ} offset size 0) ∙ (drop-replicate {X = ℕ} v (size - offset) 0 ∙ ap zeros (omega arith)) in
    rw (first, second) (sym (append_assoc (filled own offset) own2 (zeros (size - length (filled own offset ++ own2)))))

-- zeros in which two parts were written, the second from a position on
pub parts_written : (own own2 whole front back : List ℕ) (k v offset size : ℕ) → length own ≡ k → length own2 ≡ v → k ≤ offset → offset + v ≤ size → whole ≡ zeros size → front ≡ take offset whole → back ≡ drop offset whole → (own ++ drop k front) ++ (own2 ++ drop v back) ≡ filled (filled own offset ++ own2) size
parts_written own own2 whole front back k v offset size ek ev inside inside2 clear ef eb =
    ap (λ z. (own ++ drop k z) ++ (own2 ++ drop v back)) (ef ∙ ap (take offset) clear) ∙ (ap (λ z. (own ++ drop k (take offset (zeros size))) ++ (own2 ++ drop v z)) (eb ∙ ap (drop offset) clear) ∙ parts_filled own own2 k v offset size ek ev inside inside2)
