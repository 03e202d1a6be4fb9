-- Numbers and offsets of shared bytes.
use Rattle.std.specs.Prelude.{◌≡◌, ℕ, zero, suc, ◌+◌, ◌*◌, List, [], ◌∷◌, slice_index}
use Rattle.std.proofs.Common.{refl, arith}
use Rattle.std.proofs.Math.Seq.{take-nil, drop-nil}
use Rattle.rkyv_btree_portable.specs.Bytes.{from_le, bytes_at, number_at, target_at, place_at}
use Rattle.rkyv_btree_portable.specs.Standing.{SameBytes}
use Rattle.rkyv_btree_portable.specs.laws.Standing.{same_within}

number_step : (b : List ℕ) (p k : ℕ) → from_le (bytes_at b p (suc k)) ≡ slice_index b p + 256 * from_le (bytes_at b (suc p) k)
number_step [] p k = simp (drop-nil, take-nil)
number_step (x ∷ b) zero k = refl
number_step (x ∷ b) (suc p) k = number_step b p k

bytes_same : (b c : List ℕ) (p k : ℕ) → SameBytes b c p (p + k) → from_le (bytes_at b p k) ≡ from_le (bytes_at c p k)
bytes_same b c p zero h = refl
bytes_same b c p (suc k) h =
    let first = h.same p (omega arith) (omega arith) in
    let rest = bytes_same b c (suc p) k (same_within b c p (p + suc k) (suc p) (suc p + k) (omega arith) (omega arith) h) in
    omega (arith, number_step b p k, number_step c p k)

pub number_same : (b c : List ℕ) (p : ℕ) → SameBytes b c p (p + 4) → number_at b p 4 ≡ number_at c p 4
unfolding number_at
number_same b c p h = bytes_same b c p 4 h

pub target_same : (b c : List ℕ) (p : ℕ) → SameBytes b c p (p + 4) → target_at b p ≡ target_at c p
unfolding target_at place_at
target_same b c p h = rw (number_same b c p h) refl

pub place_same : (b c : List ℕ) (p : ℕ) → SameBytes b c p (p + 4) → place_at b p ≡ place_at c p
unfolding place_at
place_same b c p h = rw (number_same b c p h) refl
