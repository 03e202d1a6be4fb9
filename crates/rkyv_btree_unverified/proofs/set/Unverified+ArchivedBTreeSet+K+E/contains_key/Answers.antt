-- Whether there is a key found.
use Rattle.rkyv_btree_view.specs.View.{view_value}
use Rattle.rkyv_btree_unverified.proofs.Promised.{by_key, gives_whether_key}
use Rattle.rkyv_btree_unverified.proofs.set.Unverified+ArchivedBTreeSet+K+E.contains_key.Goals as goal

pub returns-in-Err : goal.returns-in-Err
returns-in-Err g c = gives_whether_key (by_key g.K.Portable.kind (view_value c.args.key)) _ c.in-Err.ensures

pub returns-in-Ok : goal.returns-in-Ok
returns-in-Ok g c = rw c.is_some.ensures (gives_whether_key (by_key g.K.Portable.kind (view_value c.args.key)) _ c.in-Ok.ensures)
