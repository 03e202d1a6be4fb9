-- The way down: what is sought is in the tree of the node, or after it in what is left of the path.
use Rattle.std.proofs.Common.{◌≡◌, ◌+◌, ◌*◌, ◌≤◌, ℕ, List, length}
use Rattle.rkyv_btree_source.specs.Known.{AreOf}
use Rattle.rkyv_btree_source.specs.mirror.Walking.{IsLowPath}
use Rattle.rkyv_btree_unverified.proofs.Sought.{IsSeeking}
use Rattle.rkyv_btree_unverified.specs.Steps.{HasRoom}
use Rattle.rkyv_btree_unverified.specs.mirror.Sought.{reached_place}
use Rattle.rkyv_btree_unverified.specs.mirror.Walked.{path_entries}
use Rattle.rkyv_btree_source.proofs.seek.seek.Given as goal

abbrev pub invariant-down : goal.invariant-down
invariant-down g l =
    record {
      low : IsLowPath g.K.Portable.kind g.V.Portable.kind g.M.ArchivedMap.E l.pos l.path.items;
      place : HasRoom g.K.Portable.kind g.V.Portable.kind g.M.ArchivedMap.E l.end l.at;
      before : l.end ≤ l.pos;
      down : (b : List ℕ) → AreOf (g.S.ReadAt.known l.initial.reader.source) b
          → IsSeeking g.K.Portable.kind g.V.Portable.kind g.M.ArchivedMap.E b l.pos
          (reached_place g.K.Portable.kind g.V.Portable.kind g.M.ArchivedMap.E g.K.CompareWith.compared_at b l.key l.past)
          l.fn.nodes l.path.items l.nodes l.at l.end;
      most : g.M.ArchivedMap.E * l.nodes + path_entries g.M.ArchivedMap.E l.path.items ≤ g.M.ArchivedMap.E * l.fn.nodes;
      same : g.S.ReadAt.known l.reader.source ≡ g.S.ReadAt.known l.initial.reader.source;
      left : l.reader.left ≤ l.initial.reader.left;
      page : length l.page ≡ length l.initial.page;
      room : length l.room ≡ length l.initial.room;
    }

abbrev pub decreases-down : goal.decreases-down
decreases-down g l = l.at
