-- The character at the view's position.
use Rattle.std.proofs.Common.{rules}
use Rattle.rkyv_btree_portable.specs.Bytes.{number_at}
use Rattle.rkyv_btree_view.proofs.native.ArchivedCharToNative.native.Goals as goal

pub returns : goal.returns
unfolding number_at
returns c = search rules
