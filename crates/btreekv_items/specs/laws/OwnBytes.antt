-- The number of own bytes.
use Rattle.std.specs.Prelude.{◌≡◌, ℕ, ◌+◌, ◌<◌, ◌≤◌, ◌^◌, List, [], ◌∷◌, drop, length}
use Rattle.std.proofs.Common.{subst, arith}
use Rattle.std.proofs.Math.Nat.{pow-suc}
use Rattle.std.proofs.lemmas.List.{length-drop, length-take-le}
use Rattle.std.proofs.lemmas.List.Elements.{All-drop, All-head, All-tail, All-take}
use Rattle.btreekv_items.specs.Bytes.{AreBytes}
use Rattle.rkyv_btree_portable.specs.Bytes.{bytes_at, from_le}

below : (bs : List ℕ) → AreBytes bs → from_le bs < 256 ^ length bs
below [] bytes = omega arith
below (x ∷ xs) bytes =
    let head = All-head (λ byte. byte < 256) x xs bytes in
    let tail = below xs (All-tail (λ byte. byte < 256) x xs bytes) in
    let power = pow-suc 256 (length xs) in
    omega (arith, head, tail, power)

-- bytes of a buffer are bytes
pub few_are_bytes : (b : List ℕ) (at size : ℕ) → AreBytes b → AreBytes (bytes_at b at size)
few_are_bytes b at size bytes = All-take (λ byte. byte < 256) size (drop at b) (All-drop (λ byte. byte < 256) at b bytes)

-- the number of so many bytes of a buffer is below 256 to that power
pub own_below : (b : List ℕ) (at size : ℕ) → at + size ≤ length b → AreBytes b → from_le (bytes_at b at size) < 256 ^ size
own_below b at size inside bytes =
    let long : length (bytes_at b at size) ≡ size = length-take-le size (drop at b) (let e = length-drop at b in omega (arith, e, inside)) in
    subst (λ n. from_le (bytes_at b at size) < 256 ^ n) long (below (bytes_at b at size) (few_are_bytes b at size bytes))
