-- The way up, past nodes with no entry left.
use Rattle.std.proofs.Common.{◌≡◌, ◌≤◌, ℕ, List, length}
use Rattle.rkyv_btree_source.specs.Known.{AreOf}
use Rattle.rkyv_btree_source.specs.mirror.Walking.{IsLowPath}
use Rattle.rkyv_btree_unverified.proofs.Taken.{IsClimbing}
use Rattle.rkyv_btree_unverified.specs.mirror.Walked.{path_entries}
use Rattle.rkyv_btree_source.proofs.walk.climb.Given as goal

abbrev pub invariant-up : goal.invariant-up
invariant-up g l =
    record {
      low : IsLowPath g.K.Portable.kind g.V.Portable.kind g.M.ArchivedMap.E l.pos l.path.items;
      climbing : (b : List ℕ) → AreOf (g.S.ReadAt.known l.initial.reader.source) b
          → IsClimbing g.K.Portable.kind g.V.Portable.kind g.M.ArchivedMap.E b l.pos l.fn.path.items l.path.items;
      most : path_entries g.M.ArchivedMap.E l.path.items ≤ path_entries g.M.ArchivedMap.E l.fn.path.items;
      same : g.S.ReadAt.known l.reader.source ≡ g.S.ReadAt.known l.initial.reader.source;
      left : l.reader.left ≤ l.initial.reader.left;
      page : length l.page ≡ length l.initial.page;
      room : length l.room ≡ length l.initial.room;
    }

abbrev pub decreases-up : goal.decreases-up
decreases-up g l = length l.path.items
