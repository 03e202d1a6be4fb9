use Rattle.std.proofs.Common.{◌≡◌, ◌+◌, ◌-◌, ◌≤◌, ◌<◌, ◌++◌, replicate, vec_capacity}
use Rattle.rkyv_btree_archive.proofs.tree.open_nodes.Given as goal

abbrev pub invariant-loop-starts : goal.invariant-loop-starts
invariant-loop-starts g l = record {
  below : l.below ≤ l.fn.levels;
  opened : l.starts.items ≡ l.fn.starts.items ++ replicate (l.fn.levels - l.below) l.waiting;
  inner : l.below < l.fn.levels → 1 ≤ l.on_last + l.below;
  room : vec_capacity l.fn.starts ≤ vec_capacity l.starts;
}

abbrev pub decreases-loop-starts : goal.decreases-loop-starts
decreases-loop-starts g l = l.below
