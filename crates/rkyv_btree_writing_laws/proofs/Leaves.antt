-- A buffer that holds a leaf's bytes spells the leaf.
use Rattle.std.proofs.Common.{◌≡◌, ℕ, ◌+◌, ◌-◌, ◌*◌, ◌<◌, ◌≤◌, Bool, true, false, IsTrue, if◌then◌else◌, nat_eq, List, [], ◌∷◌, ◌++◌, length, refl, arith}
use Rattle.std.proofs.lemmas.Bool.Decides.{nat_tests}
use Rattle.std.proofs.lemmas.List.{length-append}
use Rattle.std.specs.Int.{w32, to_le_bytes}
use Rattle.std.specs.List.{flat_map}
use Rattle.rkyv_btree_portable.specs.Bytes.{Holds, zeros, filled}
use Rattle.rkyv_btree_writer.specs.Padding.{zeros_write, padding}
use Rattle.rkyv_btree_writing_laws.specs.Image.{entry_bytes, leaf_bytes}
use Rattle.rkyv_btree_portable.specs.InPlace.{OwnBytes, AreOwn}
use Rattle.rkyv_btree_portable.specs.Kind.{Kind, IsLawful}
use Rattle.rkyv_btree_format.specs.Layout.{layout_of, are_fitting, keys_at, values_at, len_at, align, leaf_size}
use Rattle.rkyv_btree_portable.specs.Rounding.{round_up}
use Rattle.rkyv_btree_portable.specs.laws.Rounding.{le-round_up}
use Rattle.rkyv_btree_writer.specs.Writing.{appended}
use Rattle.rkyv_btree_portable.specs.laws.Holding.{Holds-front, Holds-back, Holds-at, length-zeros, length-filled, tail_length}
use Rattle.rkyv_btree_format.proofs.Sizes.{room_of}

pub length-padding : (align w : ℕ) → 0 < align → length (appended (padding align w)) + w ≡ round_up w align
length-padding align w positive = go (nat_eq (round_up w align) w) refl
  where
    go : (b : Bool) → nat_eq (round_up w align) w ≡ b → length (appended (if b then [] else zeros_write (round_up w align - w) ∷ [])) + w ≡ round_up w align
    go true e = grind (arith, nat_tests)
    go false e = omega (arith, length-append (zeros (round_up w align - w)) [], length-zeros (round_up w align - w), le-round_up w align positive)

-- the parts of a node's entries
module _ (a keys values : List ℕ) (k v : ℕ) (first : length a ≤ k) (room : k + length keys ≤ v) where
  front_length : length (filled a k ++ keys) ≡ k + length keys
  front_length = omega (arith, length-append (filled a k) keys, length-filled a k first)

  pub parts_length : length (filled (filled a k ++ keys) v ++ values) ≡ v + length values
  parts_length = omega (arith, length-append (filled (filled a k ++ keys) v) values, length-filled (filled a k ++ keys) v (omega (arith, front_length)))

  pub parts_held : (b : List ℕ) (p : ℕ) → Holds b p (filled (filled a k ++ keys) v ++ values) → Holds b p a × Holds b (p + k) keys × Holds b (p + v) values
  parts_held b p h =
      let front = Holds-front b p (filled (filled a k ++ keys) v) values h in
      let both = Holds-front b p (filled a k ++ keys) (zeros (v - length (filled a k ++ keys))) front in
      let begin = Holds-front b p (filled a k) keys both in (
        Holds-front b p a (zeros (k - length a)) begin,
        Holds-at b (p + length (filled a k)) (p + k) keys (omega (arith, length-filled a k first)) (Holds-back b p (filled a k) keys both),
        Holds-at b (p + length (filled (filled a k ++ keys) v)) (p + v) values (omega (arith, length-filled (filled a k ++ keys) v (omega (arith, front_length)))) (Holds-back b p (filled (filled a k ++ keys) v) values h),
      )

-- the own bytes of all keys and of all values
abbrev pub keys_of : List OwnBytes → List ℕ
keys_of xs = flat_map (λ x. x.0) xs

abbrev pub values_of : List OwnBytes → List ℕ
values_of xs = flat_map (λ x. x.1) xs

module _ (K V : Kind) (E : ℕ) (k : IsLawful K) (v : IsLawful V) (fits : IsTrue (are_fitting K V E)) where
  keys_length : (xs : List OwnBytes) → AreOwn K V xs → length (keys_of xs) ≡ length xs * K.size
  keys_length [] own = omega arith
  keys_length (x ∷ xs) own = omega (arith, length-append x.0 (keys_of xs), own.0.size, keys_length xs own.2)

  values_length : (xs : List OwnBytes) → AreOwn K V xs → length (values_of xs) ≡ length xs * V.size
  values_length [] own = omega arith
  values_length (x ∷ xs) own = omega (arith, length-append x.1 (values_of xs), own.1.size, values_length xs own.2)

  keys_room : (xs : List OwnBytes) → AreOwn K V xs → length xs ≤ E → keys_at (layout_of K V E) + length (keys_of xs) ≤ values_at (layout_of K V E)
  keys_room xs own few =
      let room = room_of K V E k v fits in
      let parts = room.parts in
      omega (arith, keys_length xs own, room.key_at (length xs) few)

  -- a node's kind and entries end before its length or its pointers
  pub entries_end : (kind : ℕ) (xs : List OwnBytes) → AreOwn K V xs → length xs ≤ E → length (entry_bytes (layout_of K V E) kind xs) ≤ len_at (layout_of K V E)
  entries_end kind xs own few =
      let s = layout_of K V E in
      let room = room_of K V E k v fits in
      let parts = room.parts in
      omega (arith, parts_length (kind ∷ []) (keys_of xs) (values_of xs) (keys_at s) (values_at s) parts.kind (keys_room xs own few), values_length xs own, room.value_at (length xs) few)

  pub leaf_bytes_length : (xs : List OwnBytes) → AreOwn K V xs → length xs ≤ E → length (leaf_bytes (layout_of K V E) xs) ≡ leaf_size (layout_of K V E)
  leaf_bytes_length xs own few =
      let s = layout_of K V E in
      let len_room = (room_of K V E k v fits).parts.len in
      tail_length (entry_bytes s 0 xs) (to_le_bytes w32 (length xs)) (len_at s) (leaf_size s) (entries_end 0 xs own few) len_room
