-- What is left of the walk is what remains of it.
use mathlib.Core.Logic.{∥∥₁_map}
use Rattle.rkyv_btree_walk.proofs.Placed.{between_left}
use Rattle.rkyv_btree_walk.specs.EntryPlaces.{entry_places}
use Rattle.rkyv_btree_seal.proofs.range_cursor.step_in.Goals as goal

pub returns-clause-walks : goal.returns-clause-walks
returns-clause-walks g c = record {
  nodes = c.step_before.ensures.walks;
  placed = ∥∥₁_map c.requires.walks.placed (c.step_before.ensures.placed (entry_places g.K.Portable.kind g.V.Portable.kind g.M.ArchivedMap.E c.args.buf.now c.args.pos));
}

pub returns-clause-takes : goal.returns-clause-takes
returns-clause-takes g c =
    let left = between_left g.K.Portable.kind g.V.Portable.kind g.M.ArchivedMap.E g.met.K.Portable.laws g.met.V.Portable.laws c.args.buf.now c.args.pos c.opened.ensures in
    rw (left c.args.walk.now c.requires.walks, left c.step_before.new.walk (returns-clause-walks g c)) c.step_before.ensures.takes
