-- What the value of no bytes owes as an item.
use Rattle.std.specs.Prelude.{[]}
use Rattle.std.specs.declared.cmp.Ordering.TheVariants.{Equal}
use Rattle.std.proofs.Common.{refl}
use Rattle.btreekv_items.specs.Items.{IsSpelledApart, SameValues}
use Rattle.rkyv_btree_portable.specs.Natives.{unit_form}
use Rattle.rkyv_btree_portable.specs.Scalars.{unit_kind}
use Rattle.rkyv_btree_writer.specs.Archiving.{itself, native_archival}

pub unit_apart : IsSpelledApart (λ (value : Unit {0}). Unit {0}) (λ style value. [])
unit_apart style x y is is2 e = refl

pub unit_same : SameValues (native_archival unit_form) unit_kind (λ (value : Unit {0}). Unit {0}) (λ x y. Equal) unit_kind.read (λ value. value) (λ x y. Equal)
unit_same = record {
  same = itself unit_kind;
  to = λ v. v;
  from = λ v. v;
  from_to = λ v. refl;
  to_from = λ v. refl;
  read = λ b at. refl;
  meant = λ b lo hi at left v bytes m. tt;
  native = λ x. refl;
  ordered = λ v w. refl;
  natively = λ x y. refl;
}
