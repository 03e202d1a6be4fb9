-- A node of the map stands.
use Rattle.rkyv_btree_verify.specs.Map.{map_kind}
use Rattle.rkyv_btree_portable.specs.laws.Views.{fitting_of}
use Rattle.rkyv_btree_ffi.proofs.Cursors.{node_below, node_inside}
use Rattle.rkyv_btree_ffi.proofs.cursor.child_node.Goals as goal

pub child_at-requires-clause-fitting : goal.child_at-requires-clause-fitting
child_at-requires-clause-fitting g c = fitting_of (map_kind g.K.Portable.kind g.V.Portable.kind 5) _ _ c.requires.stands

pub child_at-requires-clause-short : goal.child_at-requires-clause-short
child_at-requires-clause-short g c = (node_inside _ _ g.met.K.Portable.laws g.met.V.Portable.laws _ _ c.requires.stands c.requires.below.0 c.args.node c.requires.below.1).1

pub child_at-requires-clause-node : goal.child_at-requires-clause-node
child_at-requires-clause-node g c = node_below _ _ g.met.K.Portable.laws g.met.V.Portable.laws _ _ c.requires.stands c.requires.below.0 c.args.node c.requires.below.1
