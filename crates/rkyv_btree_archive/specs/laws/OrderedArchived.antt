-- A native value in an `OrderedFloat` is archived by its own bytes.
use Rattle.rkyv_btree_archive.specs.OrderedArchival.{ordered_archival}
use Rattle.rkyv_btree_portable.specs.InPlace.{NativeForm, IsFaithful}
use Rattle.rkyv_btree_portable.specs.Plain.{plain_kind}
use Rattle.rkyv_btree_writer.proofs.Archiving.{archived_where, own_causes}
use Rattle.rkyv_btree_writer.specs.Archiving.{IsArchived}
use Rattle.rkyv_btree_writer.specs.Causes.{HasCauses}

pub ordered_archived : {X : Type 0} (form : NativeForm X) → IsFaithful form → IsArchived (ordered_archival form)
ordered_archived form faithful =
    archived_where (plain_kind form.plain) (λ x. form.meaning x.0) (λ x. form.IsIn x.0) (λ x. form.own_bytes x.0) (λ x from fault. ⊥) (λ x is_in. faithful.is_own x.0) (λ x. faithful.means x.0)

pub ordered_causes : {X : Type 0} (form : NativeForm X) → HasCauses (ordered_archival form)
ordered_causes form = own_causes (plain_kind form.plain) (λ x. form.meaning x.0) (λ x. form.IsIn x.0) (λ x. form.own_bytes x.0) (λ x from fault. ⊥)
