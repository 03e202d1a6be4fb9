-- The own bytes of the map refuse, or the root is sought from.
use Rattle.std.proofs.Common.{refl}
use Rattle.rkyv_btree_unverified.proofs.Sought.{begins_empty, begins_part}
use Rattle.rkyv_btree_unverified.specs.Walks.{own_bytes}
use Rattle.rkyv_btree_unverified.proofs.seek.begin_at.Goals as goal

pub returns-in-Err : goal.returns-in-Err
returns-in-Err g c = record { gives = record { refuses = own_bytes c.in-Err.ensures.gives; no_map = λ m h. cc (c.in-Err.ensures.accepts m h) } }

pub returns-in-Ok-None : goal.returns-in-Ok-None
returns-in-Ok-None g c = record {
  gives = begins_empty g.K.Portable.kind g.V.Portable.kind g.M.ArchivedMap.E c.args.buf.now c.args.pos _ c.args.walk.now c.requires.empty c.requires.phase c.requires.taken c.requires.few (rw c.in-Ok-None.field-0-is at c.in-Ok-None.ensures.leads);
}

pub returns-in-Ok : goal.returns-in-Ok
returns-in-Ok g c = record {
  gives = begins_part g.K.Portable.kind g.V.Portable.kind g.M.ArchivedMap.E c.args.buf.now c.args.pos _ c.args.walk.now.nodes _ c.in-Ok.part c.in-Ok.ensures.gives refl refl refl refl c.requires.taken;
}
