-- The prices so far, and those of the lookups that are left, are those of all names.
use Rattle.std.proofs.Common.{◌≡◌, ℕ, List, ◌++◌, map}
use Rattle.std.specs.Borrow.{Bor}
use Rattle.std.specs.Cmp.Lexicographic.{slice_cmp}
use Rattle.std.specs.Ordering.{nat_cmp}
use Rattle.std.specs.declared.cmp.Ordering.{Ordering}
use Rattle.rkyv_btree_base.specs.Scalars.{u32_kind}
use Rattle.rkyv_btree_base.specs.Text.{text_kind}
use Rattle.rkyv_btree.specs.ManyLeft.{lookups_left}
use Rattle.rkyv_btree.specs.ManyLookups.{looked_up_in}
use Rattle.examples.proofs.many.prices_of.Given as goal

abbrev pub compared_at : Bor (List ℕ) → List ℕ → ℕ → Ordering
compared_at name b at = slice_cmp nat_cmp name.now (text_kind.read b at)

abbrev pub invariant-loop-price : goal.invariant-loop-price
invariant-loop-price l = l.found.items ++ lookups_left compared_at l.price-iterator ≡ map (looked_up_in text_kind u32_kind 5 l.prices.view compared_at) l.names
