-- A way goes on at a node that can be read, or has ended.
use Rattle.rkyv_btree_walk.proofs.many.step_down.Goals as goal

pub is_leaf-requires-clause-fitting : goal.is_leaf-requires-clause-fitting
is_leaf-requires-clause-fitting g c = (c.requires.node c.in-On.node c.in-On.is).fitting

pub is_leaf-requires-clause-node : goal.is_leaf-requires-clause-node
is_leaf-requires-clause-node g c = (c.requires.node c.in-On.node c.in-On.is).node
