-- Nodes that a cursor leads to.
use Rattle.std.proofs.Common.{ℕ, suc, ◌≤◌, ◌<◌, IsTrue, List, length, arith}
use Rattle.rkyv_btree_portable.specs.Kind.{Kind, IsLawful}
use Rattle.rkyv_btree_format.specs.Layout.{layout_of}
use Rattle.rkyv_btree_verify.specs.Map.{map_kind}
use Rattle.rkyv_btree_portable.specs.Views.{stands}
use Rattle.rkyv_btree_portable.specs.laws.Views.{fitting_of}
use Rattle.rkyv_btree_verify.proofs.MapLaws.{map_short}
use Rattle.rkyv_btree_format.proofs.Sizes.{room_of}
use Rattle.rkyv_btree_walk.specs.Below.{root_place, IsBelow, RunBelow}
use Rattle.rkyv_btree_walk.specs.mirror.Node.{NodeStands, RunStands}
use Rattle.rkyv_btree_walk.proofs.Below.{below_stands, place_stands}
use Rattle.rkyv_btree_walk.proofs.Nodes.{tree_node}
use Rattle.rkyv_btree_walk.proofs.Searches.{node_run}

module _ (K V : Kind) (k : IsLawful K) (v : IsLawful V) (b : List ℕ) (at : ℕ) (h : IsTrue (stands (map_kind K V 5) b at)) (d q : ℕ) (below : IsBelow (layout_of K V 5) b (root_place b at) d q) where
  -- a node below the root stands
  pub node_below : NodeStands K V 5 b q
  node_below =
      let r = below_stands K V 5 b (root_place b at) 32 (place_stands K V 5 k v b at h) d q below in
      tree_node K V 5 b (suc r.0) q r.2

  -- and its first byte is in the buffer, which is short
  pub node_inside : (q < length b) × (length b ≤ 4294967295)
  node_inside =
      let room = room_of K V 5 k v (fitting_of (map_kind K V 5) b at h) in
      let inside = node_below.leaf_inside in
      (omega (arith, room.eight), map_short K V 5 k v b at h)

module _ (K V : Kind) (k : IsLawful K) (v : IsLawful V) (b : List ℕ) (at : ℕ) (h : IsTrue (stands (map_kind K V 5) b at)) where
  -- a run of entries below the root stands
  pub run_stands : (p i n : ℕ) → RunBelow (layout_of K V 5) b (root_place b at) p i n → RunStands K V 5 b p i n
  run_stands p i n run = λ j low high.
      let r = run (omega arith) in
      node_run K V 5 b p (node_below K V k v b at h r.0 p r.1) j (omega arith) (omega (arith, r.2))
