-- What texts owe as items.
use Rattle.std.specs.Cmp.Lexicographic.{slice_cmp}
use Rattle.std.specs.Ordering.{nat_cmp}
use Rattle.std.specs.Prelude.{IsUtf8, string_bytes, string_cmp}
use Rattle.std.specs.declared.alloc.Global.{Global}
use Rattle.std.proofs.Common.{refl}
use Rattle.btreekv_items.specs.Items.{IsSpelledApart, SameValues}
use Rattle.rkyv_btree_portable.specs.Text.{text_kind}
use Rattle.rkyv_btree_writer.specs.Archiving.{itself}
use Rattle.rkyv_btree_writer.specs.TextArchival.{text_archival}

pub text_apart : IsSpelledApart IsUtf8 (λ style text. text)
text_apart style x y hx hy e = e

pub text_same : SameValues (text_archival (string_bytes {Z = Global})) text_kind IsUtf8 (slice_cmp nat_cmp) text_kind.read string_bytes string_cmp
text_same = record {
  same = itself text_kind;
  to = λ v. v;
  from = λ v. v;
  from_to = λ v. refl;
  to_from = λ v. refl;
  read = λ b at. refl;
  meant = λ b lo hi at left v bytes m. m.utf8;
  native = λ x. refl;
  ordered = λ v w. refl;
  natively = λ x y. refl;
}
