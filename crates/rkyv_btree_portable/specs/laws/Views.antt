-- What is decided to stand at a position is what is read there.
use Rattle.std.specs.Prelude.{ℕ, IsTrue, List, is_some}
use Rattle.std.proofs.Common.{refl, subst, arith}
use Rattle.rkyv_btree_portable.specs.Kind.{Kind, IsLawful}
use Rattle.rkyv_btree_portable.specs.Views.{MeansAt, stands}
use Rattle.rkyv_btree_portable.specs.laws.Choices.{both, some_of}

-- what is decided to stand is what is read
pub means_read : {kind : Kind} → IsLawful kind → (buf : List ℕ) (pos : ℕ) → IsTrue (stands kind buf pos) → MeansAt kind buf pos (kind.read buf pos)
means_read {kind} laws buf pos h =
    let parts = both kind.is_fitting (is_some (kind.leaves buf 0 pos pos)) h in
    let left = some_of (kind.leaves buf 0 pos pos) parts.1 in
    let m = (laws.decides parts.0).found buf 0 pos pos left.0 (omega arith) (omega arith) left.1 in
    record { left = left.0; means = subst (λ v. kind.Means buf 0 pos pos left.0 v) (laws.is_read buf 0 pos pos left.0 m.0 m.1) m.1 }

-- what means something in a window is decided to stand
pub stands_of : {kind : Kind} → IsLawful kind → IsTrue kind.is_fitting → (buf : List ℕ) (lo hi pos left : ℕ) (v : kind.Value) → kind.Means buf lo hi pos left v → IsTrue (stands kind buf pos)
stands_of {kind} laws fits buf lo hi pos left v m =
    let lies = laws.lies buf lo hi pos left v m in
    let wide = laws.widens buf lo hi pos left 0 pos v (omega arith) (omega arith) (omega arith) m in
    rw (fits, (laws.decides fits).only buf 0 pos pos wide.0 v wide.2) refl

-- a type of which a value stands somewhere fits
pub fitting_of : (kind : Kind) (buf : List ℕ) (pos : ℕ) → IsTrue (stands kind buf pos) → IsTrue kind.is_fitting
fitting_of kind buf pos h = (both kind.is_fitting (is_some (kind.leaves buf 0 pos pos)) h).0
