-- What refusals say.
use Rattle.std.specs.Prelude.{ℕ, List, ◌++◌, codes, decimal}
use Rattle.std.specs.Fmt.{signed_decimal}
use Rattle.rkyv_btree_portable.specs.declared.refusal.InvalidLength.{InvalidLength}
use Rattle.rkyv_btree_portable.specs.declared.refusal.EntriesLengthMismatch.{EntriesLengthMismatch}
use Rattle.rkyv_btree_portable.specs.declared.refusal.Refusal.{Refusal}
use Rattle.rkyv_btree_portable.specs.declared.refusal.Refusal.TheVariants as refused

abbrev pub length_text : InvalidLength → List ℕ
length_text e = codes "Invalid length in B-tree node: len " ++ (decimal e.len ++ (codes " was greater than maximum " ++ decimal e.maximum))

abbrev pub mismatch_text : EntriesLengthMismatch → List ℕ
mismatch_text e = codes "B-tree map claimed to have " ++ (decimal e.len ++ (codes " entries, but actually had " ++ decimal e.entries))

abbrev pub refusal_text : Refusal → List ℕ
refusal_text (refused.OutOfRange pos) = codes "position " ++ (signed_decimal pos ++ codes " is out of range")
refusal_text (refused.Misaligned pos) = codes "position " ++ (decimal pos ++ codes " is misaligned")
refusal_text (refused.BadKind pos byte) = codes "position " ++ (decimal pos ++ (codes " holds kind " ++ (decimal byte ++ codes ", which is no node")))
refusal_text (refused.InvalidLength e) = length_text e
refusal_text (refused.BadEntry pos) = codes "entry at position " ++ (decimal pos ++ codes " is bad")
refusal_text (refused.TooDeep pos) = codes "node at position " ++ (signed_decimal pos ++ codes " is deeper than 32 levels")
refusal_text (refused.EntriesLengthMismatch e) = mismatch_text e
refusal_text refused.TooLong = codes "buffer is longer than 4294967295 bytes"
refusal_text (refused.OutOfOrder index) = codes "entry " ++ (decimal index ++ codes " is out of order")
