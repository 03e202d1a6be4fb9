-- Before a walk begins all entries are left, and the nodes of a map fit into the buffer.
use Rattle.std.proofs.Common.{arith, refl}
use Rattle.rkyv_btree_format.proofs.Sizes.{room_of}
use Rattle.rkyv_btree_format.specs.Layout.{layout_of}
use Rattle.rkyv_btree_unverified.proofs.Along.{along_entries, entries_faultless}
use Rattle.rkyv_btree_unverified.proofs.Chains.{no_way}
use Rattle.rkyv_btree_unverified.proofs.Counted.{map_nodes}
use Rattle.rkyv_btree_unverified.proofs.Faultless.{all_faultless}
use Rattle.rkyv_btree_unverified.proofs.Iterated.{iterates_all}
use Rattle.rkyv_btree_unverified.proofs.OnWalks.{map_is_read, whole_rest}
use Rattle.rkyv_btree_unverified.specs.UnverifiedIter.{entries_left}
use Rattle.rkyv_btree_view.specs.View.{view_entry}
use Rattle.rkyv_btree_unverified.proofs.unverified.Unverified.iter.Goals as goal

pub nonzero_div-result : goal.nonzero_div-result
nonzero_div-result g c =
    let room = room_of _ _ _ g.met.K.Portable.laws g.met.V.Portable.laws c.args.self.fitting in
    omega (arith, room.eight, c.leaf_size.ensures)

pub invariant_of-result : goal.invariant_of-result
invariant_of-result g c = record {
  fitting = c.args.self.fitting;
  walks = record {
    walks = record {
      way = rw c.new.ensures (no_way (layout_of g.K.Portable.kind g.V.Portable.kind g.M.ArchivedMap.E) c.args.self.buf.now c.args.self.pos);
      few = λ m h. rw (c.new.ensures, c.leaf_size.ensures) (map_nodes g.K.Portable.kind g.V.Portable.kind g.M.ArchivedMap.E c.args.self.buf.now g.met.K.Portable.laws g.met.V.Portable.laws c.args.self.fitting c.args.self.pos m h);
    };
    most = rw (c.new.ensures, c.leaf_size.ensures) (omega arith);
  };
  left = rw c.new.ensures (whole_rest (layout_of g.K.Portable.kind g.V.Portable.kind g.M.ArchivedMap.E) c.args.self.buf.now c.args.self.pos);
  faultless = λ left. all_faultless g.K.Portable.kind g.V.Portable.kind g.M.ArchivedMap.E c.args.self.buf.now c.args.self.pos (rw c.new.ensures at left.pending);
}

pub returns-clause-at : goal.returns-clause-at
returns-clause-at g c = record { buffer = refl; position = refl; most = omega arith }

pub returns-clause-items : goal.returns-clause-items
returns-clause-items g c =
    let K = g.K.Portable.kind in let V = g.V.Portable.kind in let E = g.M.ArchivedMap.E in
    let b = c.args.self.buf.now in let at = c.args.self.pos in
    let KR = g.K.CheckBytes.Refuses in let VR = g.V.CheckBytes.Refuses in
    iterates_all K V E KR VR b at _ view_entry (λ m. m) entries_left _ _ (along_entries KR VR b at) _ tt (refl, refl) refl
    (entries_faultless KR VR b at _ (refl, refl) (λ over. cc over)) (λ m h. map_is_read K V E b g.met.K.Portable.laws g.met.V.Portable.laws at m h)
