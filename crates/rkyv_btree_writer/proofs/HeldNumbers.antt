-- Numbers and pointers that a buffer holds.
use Rattle.std.proofs.Common.{◌≡◌, ℕ, ◌+◌, ◌-◌, ◌%◌, ◌<◌, ◌≤◌, ◌^◌, ◌∙◌, List, suc, refl, sym, ap, arith, Some, None, pos, negsuc, ◌+ℤ◌, ⊎_elim}
use Rattle.std.proofs.lemmas.Bool.{cases_lt, eq-eqb, ne_eqb}
use Rattle.std.proofs.lemmas.Int.{ints}
use Rattle.std.proofs.Math.Facts.{to_z-neg}
use Rattle.std.specs.Int.{w32, to_le_bytes, cast_signed}
use Rattle.rkyv_btree_portable.specs.Bytes.{from_le, bytes_at, number_at, place_at, target_at, Holds}
use Rattle.rkyv_btree_writer.specs.Pointers.{FitsOffset, pointer, no_pointer}

pub from_le-to_le_bytes : (n : ℕ) → n < 2 ^ 32 → from_le (to_le_bytes w32 n) ≡ n
from_le-to_le_bytes n small = omega arith

pub held_number : (b : List ℕ) (at n : ℕ) → n < 2 ^ 32 → Holds b at (to_le_bytes w32 n) → number_at b at 4 ≡ n
unfolding number_at
held_number b at n small holds = ap from_le holds ∙ from_le-to_le_bytes n small

-- an offset in two's complement leads to its target
behind : (at target n : ℕ) → n < 2 ^ 31 → at + n ≡ target → pos at +ℤ cast_signed w32 n ≡ pos target
behind at target n small sum = omega (arith, ints)

less : (at k target : ℕ) → at ≡ target + suc k → pos at +ℤ negsuc k ≡ pos target
less at k target e = omega (arith, ints)

ahead : (at target n : ℕ) → 2 ^ 31 ≤ n → n < 2 ^ 32 → at + n ≡ target + 2 ^ 32 → pos at +ℤ cast_signed w32 n ≡ pos target
ahead at target n great small sum =
    let k : ℕ = 2 ^ 32 - suc n in
    let low : k < 2 ^ 31 = omega arith in
    let same : 2 ^ 32 - suc k ≡ n = omega arith in
    let negative : cast_signed w32 n ≡ negsuc k = ap (cast_signed w32) (sym same) ∙ to_z-neg w32 k low in
    let back : at ≡ target + suc k = omega arith in
    rw negative (less at k target back)

offset_leads : (at target n : ℕ) → FitsOffset at target → at < 2 ^ 32 → target < 2 ^ 32 → n ≡ (target + 2 ^ 32 - at) % 2 ^ 32 → pos at +ℤ cast_signed w32 n ≡ pos target
offset_leads at target n fits a t bits =
    ⊎_elim (λ below. ahead at target n (omega arith) (omega arith) (omega arith)) (λ above. behind at target n (omega arith) (omega arith)) (cases_lt target at)

pub held_pointer : (b : List ℕ) (at target : ℕ) → FitsOffset at target → at < 2 ^ 32 → target < 2 ^ 32 → Holds b at (pointer at target) → place_at b at ≡ pos target
unfolding place_at
held_pointer b at target fits a t holds =
    offset_leads at target (number_at b at 4) fits a t (held_number b at ((target + 2 ^ 32 - at) % 2 ^ 32) (omega arith) holds)

-- the pointer to nothing, and a pointer to a node that stands before it
pub held_no_pointer : (b : List ℕ) (at : ℕ) → Holds b at no_pointer → target_at b at ≡ None
unfolding target_at number_at
held_no_pointer b at holds = rw (eq-eqb (from_le (bytes_at b at 4)) 1 (ap from_le holds)) refl

pub held_target : (b : List ℕ) (at target : ℕ) → FitsOffset at target → target ≤ at → at < 2 ^ 32 → Holds b at (pointer at target) → target_at b at ≡ Some (pos target)
unfolding target_at
held_target b at target fits before small holds =
    let bits : ℕ = (target + 2 ^ 32 - at) % 2 ^ 32 in
    let number : number_at b at 4 ≡ bits = held_number b at bits (omega arith) holds in
    let other : ¬ (number_at b at 4 ≡ 1) = λ e. absurd (omega (arith, number, e)) in
    rw (ne_eqb (number_at b at 4) 1 other) (ap Some (held_pointer b at target fits small (omega arith) holds))
