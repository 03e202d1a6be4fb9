-- What rounding up adds.
use Rattle.std.proofs.Common.{◌≡◌, ℕ, ◌+◌, ◌-◌, ◌*◌, ◌/◌, ◌%◌, ◌<◌, ◌≤◌, ap, arith}
use Rattle.std.proofs.lemmas.Nat.{div_below, le-div}
use Rattle.rkyv_btree_portable.specs.Rounding.{round_up}
use Rattle.rkyv_btree_portable.specs.laws.Rounding.{le-round_up, round_up-least}

pub round_up-multiple : (w a : ℕ) → 0 < a → w % a ≡ 0 → round_up w a ≡ w
round_up-multiple w a positive whole = omega (arith, le-round_up w a positive, round_up-least w a w positive whole (omega arith))

pub round_up-past : (w a : ℕ) → 0 < a → 0 < w % a → round_up w a ≡ w + (a - w % a)
unfolding round_up
round_up-past w a positive past =
    let low : w / a + 1 ≤ (w + (a - 1)) / a = le-div (w / a + 1) (w + (a - 1)) a positive (omega arith) in
    let high : (w + (a - 1)) / a < w / a + 2 = div_below (w + (a - 1)) a (w / a + 2) positive (omega arith) in
    let same : (w + (a - 1)) / a ≡ w / a + 1 = omega arith in
    omega (arith, ap (λ n. n * a) same)
