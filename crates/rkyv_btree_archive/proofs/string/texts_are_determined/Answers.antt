use Rattle.rkyv_btree_archive.proofs.OneArchival.{text_determined}
use Rattle.rkyv_btree_archive.proofs.string.texts_are_determined.Goals as goal

pub returns : goal.returns
returns c = text_determined _
