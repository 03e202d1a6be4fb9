-- The values so far, and those of the lookups that are left, are those of all keys.
use Rattle.std.proofs.Common.{◌≡◌, ℕ, List, ◌++◌, map}
use Rattle.std.specs.Ordering.{nat_cmp}
use Rattle.std.specs.declared.cmp.Ordering.{Ordering}
use Rattle.rkyv_btree_base.specs.Scalars.{u32_kind}
use Rattle.rkyv_btree.specs.ManyLeft.{lookups_left}
use Rattle.rkyv_btree.specs.ManyLookups.{looked_up_in}
use Rattle.examples.proofs.many.values_of.Given as goal

abbrev pub compared_at : ℕ → List ℕ → ℕ → Ordering
compared_at key b at = nat_cmp key (u32_kind.read b at)

abbrev pub invariant-loop-value : goal.invariant-loop-value
invariant-loop-value l = l.values.items ++ lookups_left compared_at l.value-iterator ≡ map (looked_up_in u32_kind u32_kind 5 l.numbers.view compared_at) l.keys
