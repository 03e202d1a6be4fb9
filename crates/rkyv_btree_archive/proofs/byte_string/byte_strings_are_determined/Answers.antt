use Rattle.rkyv_btree_archive.proofs.OneArchival.{bytes_determined}
use Rattle.rkyv_btree_archive.proofs.byte_string.byte_strings_are_determined.Goals as goal

pub returns : goal.returns
returns c = bytes_determined _
