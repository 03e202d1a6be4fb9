-- A value shows itself.
use Rattle.std.proofs.Common.{◌≡◌, Bool, true, false, refl}
use Rattle.std.specs.Cmp.{bool_cmp_total}
use Rattle.std.specs.Ordering.{bool_cmp}
use Rattle.std.specs.declared.cmp.Ordering.TheVariants.{Equal}
use Rattle.rkyv_btree_writer.specs.Archiving.{itself}
use Rattle.rkyv_btree_portable.specs.Scalars.{bool_kind}
use Rattle.rkyv_btree_update.proofs.compare_archived.BoolCompareArchived.is_lent.Goals as goal

exact_bool : (x y : Bool) → bool_cmp x y ≡ Equal → x ≡ y
exact_bool true true e = refl
exact_bool true false e = cc e
exact_bool false true e = cc e
exact_bool false false e = refl

pub returns : goal.returns
returns c = record {
  same = itself bool_kind;
  meant = λ v. v;
  of_value = λ v. v;
  means = λ x. refl;
  reads = λ b at. refl;
  back = λ v. refl;
  compared = λ x y. refl;
  alike = λ x y. refl;
  total = bool_cmp_total;
  exact = exact_bool;
}
