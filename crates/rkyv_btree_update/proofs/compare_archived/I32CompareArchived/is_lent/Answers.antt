-- A value shows itself.
use Rattle.std.proofs.Common.{refl}
use Rattle.std.proofs.lemmas.Cmp.{int_cmp_total}
use Rattle.std.proofs.lemmas.Map.Lookups.{exact_signed}
use Rattle.rkyv_btree_writer.specs.Archiving.{itself}
use Rattle.rkyv_btree_portable.specs.Scalars.{i32_kind}
use Rattle.rkyv_btree_update.proofs.compare_archived.I32CompareArchived.is_lent.Goals as goal

pub returns : goal.returns
returns c = record {
  same = itself i32_kind;
  meant = λ v. v;
  of_value = λ v. v;
  means = λ x. refl;
  reads = λ b at. refl;
  back = λ v. refl;
  compared = λ x y. refl;
  alike = λ x y. refl;
  total = int_cmp_total;
  exact = exact_signed;
}
