-- There is one value, which shows itself.
use Rattle.std.proofs.Common.{refl}
use Rattle.rkyv_btree_writer.specs.Archiving.{itself}
use Rattle.rkyv_btree_portable.specs.Scalars.{unit_kind}
use Rattle.rkyv_btree_update.proofs.compare_archived.UnitCompareArchived.is_lent.Goals as goal

pub returns : goal.returns
returns c = record {
  same = itself unit_kind;
  meant = λ v. v;
  of_value = λ v. v;
  means = λ x. refl;
  reads = λ b at. refl;
  back = λ v. refl;
  compared = λ x y. refl;
  alike = λ x y. refl;
  total = record { antisymm = λ x y. refl; trans = λ x y z less more. less; congr = λ x y z same. refl };
  exact = λ x y same. refl;
}
