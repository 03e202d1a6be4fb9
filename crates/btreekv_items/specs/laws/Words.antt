-- What truth values and characters owe as items.
use Rattle.std.specs.Char.{IsScalar, encode_utf8}
use Rattle.std.specs.Ordering.{bool_cmp, nat_cmp}
use Rattle.std.specs.Prelude.{Bool, true, false, [], length}
use Rattle.std.proofs.Common.{refl, ap, subst, sym, arith}
use Rattle.std.proofs.lemmas.Str.{encode_same}
use Rattle.btreekv_items.specs.Items.{IsSpelledApart, SameValues}
use Rattle.btreekv_items.specs.Words.{bool_text}
use Rattle.rkyv_btree_portable.specs.Natives.{bool_form, char_form}
use Rattle.rkyv_btree_portable.specs.Scalars.{bool_kind, char_kind}
use Rattle.rkyv_btree_writer.specs.Archiving.{itself, native_archival}

pub bool_apart : IsSpelledApart (λ (value : Bool). Unit {0}) (λ style value. bool_text value)
bool_apart style true true is is2 e = refl
bool_apart style true false is is2 e = absurd (omega (arith, ap length e))
bool_apart style false true is is2 e = absurd (omega (arith, ap length e))
bool_apart style false false is is2 e = refl

pub bool_same : SameValues (native_archival bool_form) bool_kind (λ (value : Bool). Unit {0}) bool_cmp bool_kind.read (λ value. value) bool_cmp
bool_same = record {
  same = itself bool_kind;
  to = λ v. v;
  from = λ v. v;
  from_to = λ v. refl;
  to_from = λ v. refl;
  read = λ b at. refl;
  meant = λ b lo hi at left v bytes m. tt;
  native = λ x. refl;
  ordered = λ v w. refl;
  natively = λ x y. refl;
}

pub char_apart : IsSpelledApart IsScalar (λ style character. encode_utf8 character)
char_apart style x y is is2 e = (encode_same x y [] [] (rw e refl)).0

pub char_same : SameValues (native_archival char_form) char_kind IsScalar nat_cmp char_kind.read (λ character. character) nat_cmp
char_same = record {
  same = itself char_kind;
  to = λ v. v;
  from = λ v. v;
  from_to = λ v. refl;
  to_from = λ v. refl;
  read = λ b at. refl;
  meant = λ b lo hi at left v bytes m. subst IsScalar (sym m.value) m.is_value;
  native = λ x. refl;
  ordered = λ v w. refl;
  natively = λ x y. refl;
}
