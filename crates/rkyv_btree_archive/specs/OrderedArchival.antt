-- What archiving a native value in an `OrderedFloat` does: what archiving the value does.
use Rattle.rkyv_btree_portable.specs.InPlace.{NativeForm}
use Rattle.rkyv_btree_portable.specs.Plain.{plain_kind}
use Rattle.rkyv_btree_writer.specs.Archiving.{Archival, plain_archival}
use Rattle.std.specs.declared.cmp.OrderedFloat.{OrderedFloat}

abbrev pub ordered_archival : {X : Type 0} → NativeForm X → Archival (OrderedFloat X) (Unit {0})
ordered_archival form = plain_archival (plain_kind form.plain) (λ x. form.meaning x.0) (λ x. form.IsIn x.0) (λ x. form.own_bytes x.0)
