-- A bound of references is the bound of what they refer to.
use Rattle.std.proofs.Common.{◌≡◌, List, ap, refl}
use Rattle.std.specs.Borrow.{Bor}
use Rattle.std.specs.Range.Bound.{bound_map}
use Rattle.std.specs.declared.cmp.Ordering.{Ordering}
use Rattle.std.specs.declared.ops.Bound.{Bound}
use Rattle.std.specs.declared.ops.Bound.TheVariants.{Included, Excluded, Unbounded}
use Rattle.rkyv_btree_walk.specs.Bounds.{IsWithin}

refers : {N C : Type 0} (h : N → C) (r : Bound (Bor N)) (bound : Bound N) → bound_map (λ x. x.now) r ≡ bound → bound_map (λ q. h q.now) r ≡ bound_map h bound
refers h (Included q) bound e = ap (bound_map h) e
refers h (Excluded q) bound e = ap (bound_map h) e
refers h Unbounded bound e = ap (bound_map h) e

pub within_referred : {N A B : Type 0} (comparison : N → A → Ordering) (l h : Bound (Bor N)) (low high : Bound N) (all range : List (A × B)) → bound_map (λ x. x.now) l ≡ low → bound_map (λ x. x.now) h ≡ high
    → IsWithin (bound_map (λ q. comparison q.now) l) (bound_map (λ q. comparison q.now) h) all range → IsWithin (bound_map comparison low) (bound_map comparison high) all range
within_referred comparison l h low high all range e f within = rw (← refers comparison l low e, ← refers comparison h high f) within

pub unbounded_referred : {N : Type 0} (r : Bound (Bor N)) → bound_map (λ x. x.now) r ≡ Unbounded → r ≡ Unbounded
unbounded_referred (Included q) e = cc
unbounded_referred (Excluded q) e = cc
unbounded_referred Unbounded e = refl
