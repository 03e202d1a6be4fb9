-- What byte strings owe as items.
use Rattle.base64.proofs.EngineFacts.{decode_of-encode_of}
use Rattle.base64.specs.Engines.{standard}
use Rattle.base64.specs.GeneralPurpose as base64
use Rattle.hex.proofs.HexLemmas.{decode_of-encode_lower, decode_of-same}
use Rattle.hex.specs.Hex as hex
use Rattle.std.specs.Cmp.Lexicographic.{slice_cmp}
use Rattle.std.specs.Ordering.{nat_cmp}
use Rattle.std.specs.Result.{result_unwrap_or}
use Rattle.std.specs.Prelude.{◌≡◌, ℕ, zero, suc, ◌<◌, List, [], ◌∷◌, Ok, slice_index}
use Rattle.std.specs.declared.alloc.Global.{Global}
use Rattle.std.specs.declared.vec.Vec.{Vec}
use Rattle.std.proofs.Common.{refl, sym, ap, subst, ◌∙◌, arith}
use Rattle.std.proofs.lemmas.List.Elements.{All-head, All-tail}
use Rattle.btreekv_items.specs.Bytes.{AreBytes, bytes_text}
use Rattle.btreekv_items.specs.Items.{IsSpelledApart, SameValues}
use Rattle.btreekv_items.specs.declared.item.BytesStyle.TheVariants.{Base64, Hexadecimal}
use Rattle.btreekv_items.specs.laws.OwnBytes.{few_are_bytes}
use Rattle.rkyv_btree_portable.specs.ByteStrings.{bytes_kind}
use Rattle.rkyv_btree_portable.specs.Text.{text_len}
use Rattle.rkyv_btree_writer.specs.Archiving.{itself}
use Rattle.rkyv_btree_writer.specs.BytesArchival.{bytes_archival}

-- each byte is one, also past the end, where there is none
pub each_is_byte : (xs : List ℕ) → AreBytes xs → (i : ℕ) → slice_index xs i < 256
each_is_byte [] bytes i = omega arith
each_is_byte (x ∷ xs) bytes zero = All-head (λ byte. byte < 256) x xs bytes
each_is_byte (x ∷ xs) bytes (suc i) = each_is_byte xs (All-tail (λ byte. byte < 256) x xs bytes) i

-- bytes whose text is one are what that is decoded to
pub hexadecimal_decoded : (text bytes : List ℕ) → AreBytes bytes → hex.encode_lower bytes ≡ text → hex.decode_of text ≡ Ok bytes
hexadecimal_decoded text bytes are same = ap hex.decode_of (sym same) ∙ decode_of-encode_lower bytes (each_is_byte bytes are)

base64_decoded : (bytes : List ℕ) → AreBytes bytes → base64.decode_of standard (base64.encode_of standard bytes) ≡ Ok bytes
base64_decoded bytes are = decode_of-encode_of standard bytes refl (each_is_byte bytes are)

pub bytes_apart : IsSpelledApart AreBytes bytes_text
bytes_apart Hexadecimal x y are are2 e =
    decode_of-same (hex.encode_lower y) x y (hexadecimal_decoded (hex.encode_lower y) x are e) (hexadecimal_decoded (hex.encode_lower y) y are2 refl)
bytes_apart Base64 x y are are2 e =
    ap (λ r. result_unwrap_or r [])
    (sym (base64_decoded x are) ∙ ap (base64.decode_of standard) e ∙ base64_decoded y are2)

pub bytes_same : SameValues (bytes_archival (λ (bytes : Vec ℕ Global). bytes.items)) bytes_kind AreBytes (slice_cmp nat_cmp) bytes_kind.read (λ bytes. bytes.items) (λ x y. slice_cmp nat_cmp x.items y.items)
bytes_same = record {
  same = itself bytes_kind;
  to = λ v. v;
  from = λ v. v;
  from_to = λ v. refl;
  to_from = λ v. refl;
  read = λ b at. refl;
  meant = λ b lo hi at left v bytes m. subst AreBytes (sym m.bytes) (few_are_bytes b m.start (text_len b at) bytes);
  native = λ x. refl;
  ordered = λ v w. refl;
  natively = λ x y. refl;
}
