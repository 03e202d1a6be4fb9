-- Where the path leads to no child, the entries of its last node come next.
use Rattle.rkyv_btree_unverified.proofs.Entered.{no_leaf}
use Rattle.rkyv_btree_unverified.proofs.walk.next_leaf.Goals as goal

pub descend-requires-clause-few : goal.descend-requires-clause-few
descend-requires-clause-few g c m h = rw c.pending.ensures.same (c.requires.few m h)

pub returns-in-Ok-None : goal.returns-in-Ok-None
returns-in-Ok-None g c = record {
  gives = rw c.pending.ensures.same
      (no_leaf g.K.Portable.kind g.V.Portable.kind g.M.ArchivedMap.E c.args.buf.now c.args.pos c.args.path.now.items c.args.nodes.now c.requires.way c.requires.few (rw c.in-Ok-None.field-0-is at c.in-Ok-None.ensures.gives));
}
