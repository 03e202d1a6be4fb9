use Rattle.std.proofs.Common.{take}
use Rattle.std.specs.List.{AllByRecursion}
use Rattle.rkyv_btree_update.specs.Updated.{changes_meant}
use Rattle.btreekv_types.specs.Changes.{PutsText}
use Rattle.btreekv_types.specs.Typed.{items_by}
use Rattle.btreekv_types.proofs.updating.test_values.Given as goal

-- the changes so far put texts of values
abbrev pub invariant-changes : goal.invariant-changes
invariant-changes g l =
    AllByRecursion (λ c. PutsText (items_by g.V.Item.IsValue (g.V.Item.spelling l.style) g.V.Item.native_value) c.1) (changes_meant (λ k. k.now) (λ v. v.now) (take l.index l.changes))
