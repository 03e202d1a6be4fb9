use Rattle.std.proofs.Common.{◌≡◌, string_bytes, take}
use Rattle.std.specs.List.{AllByRecursion}
use Rattle.rkyv_btree_update.specs.Updated.{changes_meant}
use Rattle.btreekv_types.proofs.updating.keyed.Given as goal

-- the changes so far have these native keys
abbrev pub invariant-changes : goal.invariant-changes
invariant-changes g l =
    AllByRecursion (λ c. g.K.Item.IsValue (g.K.Item.native_value c.0)) l.keyed.items
    × (changes_meant (λ x. g.K.Item.spelling l.style (g.K.Item.native_value x)) string_bytes l.keyed.items ≡ changes_meant (λ k. k.now) (λ v. v.now) (take l.index l.changes))
