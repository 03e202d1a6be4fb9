-- A run of all entries remains before the first of it.
use Rattle.std.proofs.Common.{refl}
use Rattle.rkyv_btree_seal.proofs.Cursors.{among_start}
use Rattle.rkyv_btree_walk.proofs.Placed.{between_run}
use Rattle.rkyv_btree_seal.proofs.range_cursor.RangeSeal.over.Goals as goal

pub invariant_of-result : goal.invariant_of-result
invariant_of-result g c =
    let run = between_run g.K.Portable.kind g.V.Portable.kind g.M.ArchivedMap.E c.args.buf.now c.args.pos c.args.walk in
    record {
      valid = c.requires.stands;
      walks = c.requires.walks;
      among = ∣ among_start _ _ run.0 run.1 run.2 ∣₁;
    }

pub returns-clause-starts : goal.returns-clause-starts
returns-clause-starts g c = record {
  buffer = refl;
  position = refl;
  run = between_run g.K.Portable.kind g.V.Portable.kind g.M.ArchivedMap.E c.args.buf.now c.args.pos c.args.walk;
  current = refl;
}
