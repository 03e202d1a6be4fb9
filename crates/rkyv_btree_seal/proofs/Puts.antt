-- What a write over a value leaves of a buffer, and what it makes of a list.
use Rattle.std.proofs.Common.{◌≡◌, ℕ, zero, suc, ◌+◌, ◌-◌, ◌≤◌, ◌<◌, ◌⊎◌, inl, inr, List, [], ◌∷◌, ◌++◌, length, take, drop, refl, sym, ap, ◌∙◌, arith, Some, slice_get, slice_index, get_or, length-append, length-drop, length-take-le, get_or-take, get_or-drop}
use Rattle.std.proofs.lemmas.List.{get_or_append_left, get_or-append_right, take_at, drop_at}
use Rattle.rkyv_btree_portable.specs.Bytes.{bytes_at}
use Rattle.rkyv_btree_portable.specs.Standing.{SameBytes}
use Rattle.rkyv_btree_seal.specs.Put.{put_bytes, put_value}

-- an element of two lists joined is of the first or of the second
pub split_get : {X : Type 0} (xs ys : List X) (i : ℕ) (x : X) → slice_get (xs ++ ys) i ≡ Some x → ((i < length xs) × (slice_get xs i ≡ Some x)) ⊎ ((j : ℕ) × (i ≡ length xs + j) × (slice_get ys j ≡ Some x))
split_get [] ys i x h = inr (i, omega arith, h)
split_get (y ∷ xs) ys zero x h = inl (omega arith, h)
split_get (y ∷ xs) ys (suc i) x h = elim (split_get xs ys i x h) [ inl k ↦ inl (omega (arith, k.0), k.1) | inr k ↦ inr (k.0, omega (arith, k.1), k.2) ]

module _ {A B : Type 0} where
  pub length-put_value : (m : List (A × B)) (i : ℕ) (v : B) → length (put_value m i v) ≡ length m
  length-put_value [] i v = refl
  length-put_value (e ∷ m) zero v = refl
  length-put_value (e ∷ m) (suc i) v = ap suc (length-put_value m i v)

  pub put_front : (xs ys : List (A × B)) (i : ℕ) (v : B) → i < length xs → put_value (xs ++ ys) i v ≡ put_value xs i v ++ ys
  put_front [] ys i v h = absurd (omega arith)
  put_front (e ∷ xs) ys zero v h = refl
  put_front (e ∷ xs) ys (suc i) v h = ap (λ r. e ∷ r) (put_front xs ys i v (omega arith))

  pub put_back : (xs ys : List (A × B)) (i j : ℕ) (v : B) → i ≡ length xs + j → put_value (xs ++ ys) i v ≡ xs ++ put_value ys j v
  put_back [] ys i j v e = let is : i ≡ j = omega arith in ap (λ n. put_value ys n v) is
  put_back (x ∷ xs) ys zero j v e = absurd (omega arith)
  put_back (x ∷ xs) ys (suc i) j v e = ap (λ r. x ∷ r) (put_back xs ys i j v (omega arith))

  pub get_put : (m : List (A × B)) (i : ℕ) (x : A × B) (v : B) → slice_get m i ≡ Some x → slice_get (put_value m i v) i ≡ Some (x.0, v)
  get_put [] i x v h = absurd (cc h)
  get_put (e ∷ m) zero x v h = let same : e ≡ x = cc h in ap (λ (y : A × B). Some (y.0, v)) same
  get_put (e ∷ m) (suc i) x v h = get_put m i x v h

-- the buffer c is b but for the bytes from q to q + size - 1
pub record Wrote (b c : List ℕ) (q size : ℕ) : Type 0 where
  pub long : length c ≡ length b
  pub before : (k : ℕ) → k < q → slice_index b k ≡ slice_index c k
  pub after : (k : ℕ) → q + size ≤ k → slice_index b k ≡ slice_index c k

pub wrote_none : (b : List ℕ) (q size : ℕ) → Wrote b b q size
wrote_none b q size = record { long = refl; before = λ k h. refl; after = λ k h. refl }

module _ (b : List ℕ) (q : ℕ) (w : List ℕ) (size : ℕ) (long : length w ≡ size) (room : q + size ≤ length b) where
  front : length (take q b) ≡ q
  front = length-take-le q b (omega arith)

  pub wrote : Wrote b (put_bytes b q w) q size
  wrote =
      let at = front in
      let back = length-drop (q + length w) b in
      let tail = length-append w (drop (q + length w) b) in
      let all = length-append (take q b) (w ++ drop (q + length w) b) in
      record {
        long = omega arith;
        before = λ k h. sym (get_or_append_left (take q b) (w ++ drop (q + length w) b) 0 k (omega arith) ∙ get_or-take q b k 0 h);
        after = λ k h.
            let first = get_or-append_right (take q b) (w ++ drop (q + length w) b) q k 0 front (omega arith) in
            let second = get_or-append_right w (drop (q + length w) b) (length w) (k - q) 0 refl (omega arith) in
            let third = get_or-drop (q + length w) b (k - q - length w) 0 in
            let is : q + length w + (k - q - length w) ≡ k = omega arith in
            sym (first ∙ second ∙ third ∙ ap (λ n. get_or b n 0) is);
      }

  pub wrote_own : bytes_at (put_bytes b q w) q size ≡ w
  wrote_own = ap (take size) (drop_at (take q b) (w ++ drop (q + length w) b) q front) ∙ take_at w (drop (q + length w) b) size long

-- the bytes before a write, and those after it
module _ {b c : List ℕ} {q size : ℕ} (made : Wrote b c q size) where
  pub earlier : (from to : ℕ) → to ≤ q → to ≤ length b → SameBytes b c from to
  earlier from to h room = let long = made.long in record { covers = omega arith; same = λ k x y. made.before k (omega arith) }

  pub later : (from to : ℕ) → q + size ≤ from → to ≤ length b → SameBytes b c from to
  later from to h room = let long = made.long in record { covers = omega arith; same = λ k x y. made.after k (omega arith) }
