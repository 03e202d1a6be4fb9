-- The way down: no entry is lost of what is left, and each child lies before its node.
use Rattle.std.proofs.Common.{◌≡◌, ◌+◌, ◌*◌, ◌≤◌, ℕ, List, length}
use Rattle.rkyv_btree_source.specs.Known.{AreOf}
use Rattle.rkyv_btree_source.specs.mirror.Walking.{IsLowPath}
use Rattle.rkyv_btree_unverified.proofs.Entered.{IsDescending}
use Rattle.rkyv_btree_unverified.specs.Steps.{HasRoom}
use Rattle.rkyv_btree_unverified.specs.mirror.Walked.{path_entries}
use Rattle.rkyv_btree_source.proofs.walk.descend.Given as goal

abbrev pub invariant-down : goal.invariant-down
invariant-down g l =
    record {
      low : IsLowPath g.K.Portable.kind g.V.Portable.kind g.M.ArchivedMap.E l.pos l.path.items;
      place : HasRoom g.K.Portable.kind g.V.Portable.kind g.M.ArchivedMap.E l.end l.at;
      before : l.end ≤ l.pos;
      down : (b : List ℕ) → AreOf (g.S.ReadAt.known l.initial.reader.source) b
          → IsDescending g.K.Portable.kind g.V.Portable.kind g.M.ArchivedMap.E b l.pos l.fn.path.items l.fn.nodes l.path.items l.nodes l.at l.end;
      most : g.M.ArchivedMap.E * l.nodes + path_entries g.M.ArchivedMap.E l.path.items ≤ g.M.ArchivedMap.E * l.fn.nodes + path_entries g.M.ArchivedMap.E l.fn.path.items;
      same : g.S.ReadAt.known l.reader.source ≡ g.S.ReadAt.known l.initial.reader.source;
      left : l.reader.left ≤ l.initial.reader.left;
      page : length l.page ≡ length l.initial.page;
    }

abbrev pub decreases-down : goal.decreases-down
decreases-down g l = l.at
