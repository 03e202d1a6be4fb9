-- Numbers above 0.
use Rattle.std.specs.Prelude.{ℕ, suc, ◌<◌}
use Rattle.std.proofs.Common.{arith}

pub suc_is_positive : (n : ℕ) → 0 < suc n
suc_is_positive n = omega arith
