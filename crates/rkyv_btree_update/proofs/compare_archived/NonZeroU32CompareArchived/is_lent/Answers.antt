-- A number other than 0 shows the number.
use Rattle.std.proofs.Common.{refl}
use Rattle.std.proofs.lemmas.Cmp.{nat_cmp_total}
use Rattle.std.proofs.lemmas.Map.Lookups.{exact_unsigned}
use Rattle.rkyv_btree_writer.specs.Archiving.{itself}
use Rattle.rkyv_btree_portable.specs.Scalars.{non_zero_kind}
use Rattle.rkyv_btree_update.proofs.compare_archived.NonZeroU32CompareArchived.is_lent.Goals as goal

pub returns : goal.returns
returns c = record {
  same = itself non_zero_kind;
  meant = λ v. v;
  of_value = λ v. v;
  means = λ x. refl;
  reads = λ b at. refl;
  back = λ v. refl;
  compared = λ x y. refl;
  alike = λ x y. refl;
  total = nat_cmp_total;
  exact = exact_unsigned;
}
