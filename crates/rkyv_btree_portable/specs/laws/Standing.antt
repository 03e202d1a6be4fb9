-- Bytes that two buffers share, and the decision for own bytes that lie in a buffer.
use Rattle.std.specs.Prelude.{◌≡◌, ℕ, ◌+◌, ◌-◌, ◌%◌, ◌≤◌, ◌<◌, List, length, take, drop, Option, Some, nat_eq, nat_lt}
use Rattle.std.proofs.Common.{arith, refl, sym, ap, ◌∙◌}
use Rattle.std.proofs.lemmas.Bool.{eqb-true, ltb-false, eq-eqb, le-ltb}
use Rattle.std.proofs.lemmas.List.{ext_get_or, length-take, length-drop, get_or-take, get_or-drop, take-take, drop-drop, drop-take}
use Rattle.rkyv_btree_portable.specs.Bytes.{bytes_at}
use Rattle.rkyv_btree_portable.specs.Refusing.{HasPlace}
use Rattle.rkyv_btree_portable.specs.Standing.{Lies, SameBytes, if_placed}
use Rattle.rkyv_btree_portable.specs.laws.Choices.{past, through}

-- a part of what is shared is shared
pub same_within : (b c : List ℕ) (from to from2 to2 : ℕ) → from ≤ from2 → to2 ≤ to → SameBytes b c from to → SameBytes b c from2 to2
same_within b c from to from2 to2 p q h =
    let covers = h.covers in
    record { covers = omega arith; same = λ k l m. h.same k (omega arith) (omega arith) }

-- the same bytes at each place are the same list of bytes
pub same_bytes_at : (buf other : List ℕ) (at size : ℕ) → at + size ≤ length buf → SameBytes buf other at (at + size) → bytes_at buf at size ≡ bytes_at other at size
same_bytes_at buf other at size inside h =
    let c = h.covers in
    ext_get_or 0 _ _ (simp (length-take, length-drop) (omega arith)) (λ k l.
    let m : k < size = omega (arith, simp (length-take, length-drop) at l) in
    rw (get_or-take, get_or-drop, get_or-take, get_or-drop) (h.same (at + k) (omega arith) (omega arith)))

-- bytes that lie in a buffer are so many
pub length-bytes_at : (buf : List ℕ) (at size : ℕ) → at + size ≤ length buf → length (bytes_at buf at size) ≡ size
length-bytes_at buf at size inside = simp (length-take, length-drop) (omega arith)

-- a part of a part of a buffer is a part of the buffer
pub bytes_at-bytes_at : (buf : List ℕ) (at size from count : ℕ) → from + count ≤ size → bytes_at (bytes_at buf at size) from count ≡ bytes_at buf (at + from) count
bytes_at-bytes_at buf at size from count room =
    let split : from + (size - from) ≡ size = omega arith in
    let inner : drop from (take size (drop at buf)) ≡ take (size - from) (drop (at + from) buf) = ap (λ n. drop from (take n (drop at buf))) (sym split) ∙ (drop-take from (size - from) (drop at buf) ∙ ap (take (size - from)) (drop-drop from at buf)) in
    ap (take count) inner ∙ take-take count (size - from) (drop (at + from) buf) (omega arith)

module _ (buf : List ℕ) (size align at : ℕ) (decided : Option ℕ) where
  pub placed_found : (left : ℕ) → if_placed buf size align at decided ≡ Some left → HasPlace buf size align at × (decided ≡ Some left)
  placed_found left e =
      let short = past (nat_lt 4294967295 (length buf)) _ left e in
      let room = past (nat_lt (length buf) (at + size)) _ left short.1 in
      let aligned = through (nat_eq (at % align) 0) decided left room.1 in
      (record { short = ltb-false 4294967295 (length buf) short.0; room = ltb-false (length buf) (at + size) room.0; aligned = eqb-true (at % align) 0 aligned.0 }, aligned.1)

  pub placed_only : {lo hi left : ℕ} → Lies buf size align lo hi at left → if_placed buf size align at decided ≡ decided
  placed_only l = rw (le-ltb 4294967295 (length buf) l.short, le-ltb (length buf) (at + size) l.inside, eq-eqb (at % align) 0 l.aligned) refl
