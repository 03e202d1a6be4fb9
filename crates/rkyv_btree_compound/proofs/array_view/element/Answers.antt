-- Where an array stands, so does each of its elements.
use Rattle.rkyv_btree_compound.proofs.ArrayElements.{element_stands}
use Rattle.rkyv_btree_compound.proofs.array_view.element.Goals as goal

pub invariant_of-result : goal.invariant_of-result
invariant_of-result g c = rw c.size.ensures (record { valid = element_stands g.T.Portable.kind g.met.T.Portable.laws g.row.N c.args.view.now.buf.now c.args.view.now.pos c.args.view.now.valid c.args.index c.requires })
