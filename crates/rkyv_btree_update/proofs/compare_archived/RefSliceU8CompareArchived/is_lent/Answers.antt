-- A byte string shows its bytes, wherever they are.
use Rattle.std.proofs.Common.{refl}
use Rattle.std.proofs.lemmas.Map.Lookups.{exact_bytes}
use Rattle.std.specs.Cmp.Lexicographic.{nat_list_cmp_total}
use Rattle.rkyv_btree_writer.specs.Archiving.{itself}
use Rattle.rkyv_btree_portable.specs.ByteStrings.{bytes_kind}
use Rattle.rkyv_btree_update.proofs.compare_archived.RefSliceU8CompareArchived.is_lent.Goals as goal

pub returns : goal.returns
returns c = record {
  same = itself bytes_kind;
  meant = λ v. v;
  of_value = λ v. v;
  means = λ x. refl;
  reads = λ b at. refl;
  back = λ v. refl;
  compared = λ x y. refl;
  alike = λ x y. refl;
  total = nat_list_cmp_total;
  exact = exact_bytes;
}
