-- Byte strings that are equal by their order have the same bytes.
use Rattle.std.proofs.Common.{sym, ap, ◌∙◌}
use Rattle.std.proofs.lemmas.Map.Text.{is_eq-slice_cmp}
use Rattle.std.specs.Cmp.Lexicographic.{same_text}
use Rattle.std.specs.Ordering.{is_eq}
use Rattle.rkyv_btree_convert.proofs.byte_string.ArchivedBytesDeserializeKeyVecU8.equal_keys_are_same.Goals as goal

pub returns : goal.returns
returns c _ x y same = same_text x y (sym (ap is_eq same) ∙ is_eq-slice_cmp x y)
