-- A value stands after its key.
use Rattle.rkyv_btree_portable.specs.laws.EntryLaws.{value_stands}
use Rattle.rkyv_btree_view.proofs.entry_view.View+Entry+K+V.value.Goals as goal

pub invariant_of-result : goal.invariant_of-result
invariant_of-result g c =
    rw c.value_offset.ensures.value (record { valid = value_stands _ _ g.met.K.Portable.laws g.met.V.Portable.laws _ _ c.args.self.valid })
